-- Classes and array types by their numbers and names.
use Rattle.std.proofs.Common.{◌≡◌, ◌≢◌, ◌<◌, ◌+◌, ℕ, zero, suc, true, false, List, [], ◌∷◌, Some, None, length, map}
use Rattle.std.proofs.Common.{slice_index_or, refl, sym, ◌∙◌, ap, subst, arith, if◌then◌else◌}
use Rattle.std.specs.Prelude.{AllPairs, slice_get}
use Rattle.std.specs.Str.{bytes_eq}
use Rattle.std.proofs.lemmas.List.{length-map}
use Rattle.std.proofs.lemmas.Option.{slice_get-get_or}
use Rattle.std.proofs.lemmas.Slice.Eq.{bytes_eq-Decides}
use Rattle.graph_model.specs.declared.types.Shape.{Shape}
use Rattle.graph_model.specs.Heaps.{no_shape}
use Rattle.plain_model.specs.Classes.{ClassFacts, no_class}
use Rattle.plain_model.specs.Facts.{classes_of, class_at, shapes_of}
use Rattle.text_table.specs.Texts.{place_from, place_of}
use Rattle.class_set.specs.Linked.{Linked, class_named, names_of}
use Rattle.class_set.specs.Facts.{facts_of}
use Rattle.class_set.specs.Sets.{IsLinked}
use Rattle.class_set.proofs.Above.{get_or-map_all}
use Rattle.class_set.proofs.Differ.{names_listed}
use Rattle.set_directory.specs.Written.{shape_numbered, shape_called}

abbrev shape_of : ClassFacts → Shape
shape_of c = c.shape

abbrev name_of : ClassFacts → List ℕ
name_of c = c.shape.name

abbrev pub name_at : Linked → ℕ → List ℕ
name_at set n = slice_index_or (names_of set) n []

-- ---- how many there are

pub classes_counted : (set : Linked) → length (classes_of (facts_of set)) ≡ length (names_of set)
classes_counted set = sym (length-map (classes_of (facts_of set)) name_of) ∙ ap length (names_listed set)

pub shapes_counted : (set : Linked) → length (shapes_of (facts_of set)) ≡ length (names_of set)
shapes_counted set = length-map (classes_of (facts_of set)) shape_of ∙ classes_counted set

-- ---- the shape and the name of one

pub name_here : (set : Linked) (n : ℕ) → (class_at (facts_of set) n).shape.name ≡ name_at set n
name_here set n =
    sym (get_or-map_all name_of no_class (classes_of (facts_of set)) n)
    ∙ ap (λ (names : List (List ℕ)). slice_index_or names n []) (names_listed set)

pub shape_here : (set : Linked) (n : ℕ) → n < length (names_of set)
    → slice_get (shapes_of (facts_of set)) n ≡ Some (class_at (facts_of set) n).shape
shape_here set n below =
    slice_get-get_or (shapes_of (facts_of set)) n no_shape (omega (arith, below, shapes_counted set))
    ∙ ap (λ (s : Shape). Some s) (get_or-map_all shape_of no_class (classes_of (facts_of set)) n)

-- ---- it is found by its name

differ : (t x : List ℕ) → t ≢ x → bytes_eq t x ≡ false
differ t x other =
    elim (bytes_eq t x) as (λ b. bytes_eq t x ≡ b → b ≡ false) [
      | true ↦ λ e. absurd (other ((bytes_eq-Decides t x).0 e))
      | false ↦ λ e. refl
    ] refl

placed : (texts : List (List ℕ)) (n m : ℕ) → AllPairs (λ (left right : List ℕ). left ≢ right) texts → n < length texts
    → place_from m texts (slice_index_or texts n []) ≡ Some (m + n)
placed [] n m apart below = absurd (omega (arith, below))
placed (t ∷ ts) zero m apart below =
    let here : bytes_eq t t ≡ true = (bytes_eq-Decides t t).1 refl in
    let sum : m ≡ m + 0 = omega arith in
    ap (λ b. if b then Some m else place_from (m + 1) ts t) here ∙ ap (λ k. Some k) sum
placed (t ∷ ts) (suc n) m apart below =
    let x = slice_index_or ts n [] in
    let other : bytes_eq t x ≡ false = differ t x (apart 0 (suc n) [] (omega arith) below) in
    let sum : m + 1 + n ≡ m + suc n = omega arith in
    ap (λ b. if b then Some m else place_from (m + 1) ts x) other
    ∙ placed ts n (m + 1) (λ i j d low high. apart (suc i) (suc j) d (omega (arith, low)) (omega (arith, high))) (omega (arith, below))
    ∙ ap (λ k. Some k) sum

pub named_here : (set : Linked) (n : ℕ) → IsLinked set → n < length (names_of set) → class_named set (name_at set n) ≡ Some n
named_here set n linked below =
    let sum : 0 + n ≡ n = omega arith in
    placed (names_of set) n 0 linked.names_differ below ∙ ap (λ k. Some k) sum

pub called_here : (set : Linked) (n : ℕ) → IsLinked set → n < length (names_of set)
    → shape_called set (name_at set n) ≡ Some (class_at (facts_of set) n).shape
called_here set n linked below = ap (λ o. shape_numbered set o) (named_here set n linked below) ∙ shape_here set n below
