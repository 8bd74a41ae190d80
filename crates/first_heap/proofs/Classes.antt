-- Classes by their names.
use Rattle.std.proofs.Common.{◌≡◌, ℕ, suc, ◌+◌, ◌<◌, Bool, true, false, List, [], ◌∷◌, Option, Some, None, map, length, refl}
use Rattle.std.proofs.Common.{ap, sym, ◌∙◌, arith, if◌then◌else◌}
use Rattle.std.specs.Prelude.{unwrap_or, IsSome}
use Rattle.std.specs.Str.{bytes_eq}
use Rattle.std.proofs.lemmas.Bool.{false≢true}
use Rattle.plain_model.specs.Classes.{ClassFacts}
use Rattle.plain_model.specs.Facts.{classes_of}
use Rattle.plain_model.specs.First.{class_named, name_is}
use Rattle.text_table.specs.Texts.{place_from, place_of}
use Rattle.class_set.specs.Facts.{facts_of}
use Rattle.class_set.specs.Linked.{Linked, names_of}
use Rattle.class_set.proofs.Differ.{names_listed}
use Rattle.first_heap.proofs.Named.{same_test}

abbrev pub class_name : ClassFacts → List ℕ
class_name c = c.shape.name

picked : (a b : Bool) → b ≡ a → (n k m : ℕ) (o : Option ℕ) → unwrap_or o (n + suc m) ≡ n + suc k
    → unwrap_or (if a then Some n else o) (n + suc m) ≡ n + (if b then 0 else suc k)
picked true true e n k m o later = omega arith
picked true false e n k m o later = absurd (false≢true e)
picked false true e n k m o later = absurd (false≢true (sym e))
picked false false e n k m o later = later

placed : (cs : List ClassFacts) (name : List ℕ) (n : ℕ)
    → unwrap_or (place_from n (map class_name cs) name) (n + length cs) ≡ n + class_named cs name
placed [] name n = refl
placed (c ∷ cs) name n =
    let further : n + 1 + length cs ≡ n + suc (length cs) = omega arith in
    let past : n + 1 + class_named cs name ≡ n + suc (class_named cs name) = omega arith in
    picked (bytes_eq c.shape.name name) (name_is c.shape.name name) (same_test c.shape.name name) n
    (class_named cs name) (length cs) (place_from (n + 1) (map class_name cs) name)
    (ap (λ k. unwrap_or (place_from (n + 1) (map class_name cs) name) k) (sym further)
    ∙ placed cs name (n + 1) ∙ past)

module _ (set : Linked) (name : List ℕ) where
  abbrev classes : List ClassFacts
  classes = classes_of (facts_of set)

  numbered : unwrap_or (place_of (names_of set) name) (length classes) ≡ class_named classes name
  numbered =
      ap (λ ns. unwrap_or (place_of ns name) (length classes)) (sym (names_listed set))
      ∙ ap (λ k. unwrap_or (place_of (map class_name classes) name) k)
      (let sum : length classes ≡ 0 + length classes = omega arith in sum)
      ∙ placed classes name 0
      ∙ (let sum : 0 + class_named classes name ≡ class_named classes name = omega arith in sum)

  -- a class's number in the set is its place in the model
  pub class_numbered : (n : ℕ) → place_of (names_of set) name ≡ Some n → n ≡ class_named classes name
  class_numbered n e = ap (λ o. unwrap_or o (length classes)) (sym e) ∙ numbered

  -- no number is one past all
  pub class_lacked : place_of (names_of set) name ≡ None → length classes ≡ class_named classes name
  class_lacked e = ap (λ o. unwrap_or o (length classes)) (sym e) ∙ numbered

  pub class_there : (o : Option ℕ) → o ≡ place_of (names_of set) name → class_named classes name < length classes
      → IsSome o
  class_there (Some n) e below = refl
  class_there None e below = let past = class_lacked (sym e) in absurd (omega (arith, past, below))
