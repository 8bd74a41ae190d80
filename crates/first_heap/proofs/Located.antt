-- Durable roots by the numbers of their static fields.
use Rattle.std.proofs.Common.{◌≡◌, ℕ, suc, ◌+◌, ◌<◌, true, false, List, ◌∷◌, Option, Some, None, map, drop, length}
use Rattle.std.proofs.Common.{get_or, refl, ap, sym, ◌∙◌, arith, if◌then◌else◌}
use Rattle.std.proofs.lemmas.List.{drop_more}
use Rattle.graph_model.specs.declared.types.Graph.{Graph}
use Rattle.graph_model.specs.declared.types.NamedValue.{NamedValue}
use Rattle.graph_model.specs.declared.types.Root.{Root}
use Rattle.plain_model.specs.Facts.{StaticFacts, SetFacts}
use Rattle.plain_model.specs.First.{root_static, roots_from}
use Rattle.first_heap.specs.Places.{behind, is_root_named, number_for, root_number}

later : (n : ℕ) (o : Option ℕ)
    → behind n (elim o as (λ _. Option ℕ) [ None ↦ None | Some k ↦ Some (suc k) ]) ≡ behind (n + 1) o
later n None = refl
later n (Some k) = ap (λ m. Some m) (omega arith)

module _ {A : Type 0} (f : A → StaticFacts) (xs : List A) (x : A) (i : ℕ) (below : i < length xs) (at : x ≡ get_or xs i x)
    (name : List ℕ) where
  rest : List StaticFacts
  rest = map f (drop (i + 1) xs)

  here : root_static (map f (drop i xs)) name
      ≡ (if is_root_named (f x) name then Some 0 else (elim (root_static (map f (drop (i + 1) xs)) name) as (λ _. Option ℕ) [ None ↦ None | Some k ↦ Some (suc k) ]))
  here = ap (λ ys. root_static (map f ys) name)
      (drop_more xs i x below ∙ ap (λ y. y ∷ drop (i + 1) xs) (sym at))

  pub passed : is_root_named (f x) name ≡ false
      → behind i (root_static (map f (drop i xs)) name) ≡ behind (i + 1) (root_static (map f (drop (i + 1) xs)) name)
  passed other =
      ap (behind i) (here
      ∙ ap (λ b. if b then Some 0 else (elim (root_static (map f (drop (i + 1) xs)) name) as (λ _. Option ℕ) [ None ↦ None | Some k ↦ Some (suc k) ])) other)
      ∙ later i (root_static (map f (drop (i + 1) xs)) name)

  pub placed : is_root_named (f x) name ≡ true → behind i (root_static (map f (drop i xs)) name) ≡ Some i
  placed is =
      ap (behind i) (here
      ∙ ap (λ b. if b then Some 0 else (elim (root_static (map f (drop (i + 1) xs)) name) as (λ _. Option ℕ) [ None ↦ None | Some k ↦ Some (suc k) ])) is)
      ∙ ap (λ m. Some m) (omega arith)

pub from_first : (o : Option ℕ) → behind 0 o ≡ o
from_first None = refl
from_first (Some k) = ap (λ m. Some m) (omega arith)

-- how many are lacking after this root
abbrev pub lacking_after : ℕ → Option ℕ → ℕ
lacking_after lacking None = suc lacking
lacking_after lacking (Some k) = lacking

by_place : (set : SetFacts) (opening : Graph) (lacking : ℕ) (r : NamedValue) (rs : List NamedValue) (o : Option ℕ)
    → (elim o as (λ _. List Root) [
      | None ↦ record { name = r.name; at = suc (length set.statics) + lacking } ∷ roots_from set opening (suc lacking) rs
      | Some k ↦ record { name = r.name; at = suc k } ∷ roots_from set opening lacking rs
    ]) ≡ record { name = r.name; at = number_for set o lacking } ∷ roots_from set opening (lacking_after lacking o) rs
by_place set opening lacking r rs None = refl
by_place set opening lacking r rs (Some k) = refl

-- a root more
pub roots_more : (set : SetFacts) (opening : Graph) (lacking : ℕ) (rs : List NamedValue) (i : ℕ) (r : NamedValue)
    → i < length rs → r ≡ get_or rs i r
    → roots_from set opening lacking (drop i rs)
    ≡ record { name = r.name; at = root_number set r.name lacking }
    ∷ roots_from set opening (lacking_after lacking (root_static set.statics r.name)) (drop (i + 1) rs)
roots_more set opening lacking rs i r below at =
    ap (λ ys. roots_from set opening lacking ys) (drop_more rs i r below ∙ ap (λ y. y ∷ drop (i + 1) rs) (sym at))
    ∙ by_place set opening lacking r (drop (i + 1) rs) (root_static set.statics r.name)
