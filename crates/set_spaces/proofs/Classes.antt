-- Classes by their names.
use Rattle.std.proofs.Common.{◌≡◌, ℕ, ◌+◌, ◌<◌, suc, List, [], ◌∷◌, ◌++◌, Option, map, take, length, get_or, refl, ap, sym, ◌∙◌}
use Rattle.std.proofs.Common.{if◌then◌else◌}
use Rattle.std.specs.Prelude.{unwrap_or}
use Rattle.graph_model.specs.declared.types.Shape.{Shape}
use Rattle.plain_model.specs.Classes.{ClassFacts}
use Rattle.plain_model.specs.Facts.{classes_of}
use Rattle.plain_model.specs.First.{class_named, name_is}
use Rattle.text_table.specs.Texts.{place_of}
use Rattle.class_set.specs.Facts.{facts_of}
use Rattle.class_set.specs.Linked.{Linked, names_of}
use Rattle.class_set.proofs.Differ.{names_listed}
use Rattle.directories.proofs.Plans.{taken_more}
use Rattle.set_spaces.proofs.Texts.{first_at, placed_first}

abbrev pub name_of : ClassFacts → List ℕ
name_of c = c.shape.name

first_class : (cs : List ClassFacts) (name : List ℕ) → first_at name_of cs name ≡ class_named cs name
first_class [] name = refl
first_class (c ∷ cs) name = ap (λ k. if name_is c.shape.name name then 0 else suc k) (first_class cs name)

-- a class's number in the set is its place in the model
pub class_found : (set : Linked) (name : List ℕ) (o : Option ℕ) (count : ℕ)
    → o ≡ place_of (names_of set) name → count ≡ length (names_of set)
    → unwrap_or o count ≡ class_named (classes_of (facts_of set)) name
class_found set name o count found all =
    ap (λ p. unwrap_or p count) found ∙ ap (λ n. unwrap_or (place_of (names_of set) name) n) all
    ∙ placed_first name_of (classes_of (facts_of set)) (names_of set) name (names_listed set)
    ∙ first_class (classes_of (facts_of set)) name

-- the class of one shape more
pub class_added : (set : Linked) (shapes : List Shape) (shape : Shape) (i class : ℕ) (name : List ℕ)
    (old new : List ℕ) → i < length shapes → shape ≡ get_or shapes i shape → name ≡ shape.name
    → class ≡ class_named (classes_of (facts_of set)) name
    → old ≡ map (λ (s : Shape). class_named (classes_of (facts_of set)) s.name) (take i shapes)
    → new ≡ old ++ class ∷ []
    → new ≡ map (λ (s : Shape). class_named (classes_of (facts_of set)) s.name) (take (i + 1) shapes)
class_added set shapes shape i class name old new below at same found so_far pushed =
    let classes = classes_of (facts_of set) in
    let named = λ (s : Shape). class_named classes s.name in
    pushed ∙ ap (λ n. old ++ n ∷ []) (found ∙ ap (class_named classes) same)
    ∙ ap (λ ns. ns ++ named shape ∷ []) so_far ∙ sym (taken_more named shapes shape i below at)
