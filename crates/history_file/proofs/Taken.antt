-- The act at a place of a history with the objects that it names, and what is written once it is.
use Rattle.std.proofs.Common.{◌≡◌, ℕ, zero, suc, ◌+◌, ◌<◌, ◌≤◌, List, [], ◌∷◌, ◌++◌, length, take, Option, Some, None, sym}
use Rattle.std.proofs.Common.{ap, ◌∙◌, arith}
use Rattle.std.specs.Prelude.{slice_get, option_map}
use Rattle.std.specs.List.{flat_map}
use Rattle.std.proofs.lemmas.List.{length-map, flat_map_more, take_more, take_all}
use Rattle.std.proofs.lemmas.Option.{slice_get-map, slice_get_within, get_or_from_slice_get}
use Rattle.run_history.specs.declared.act.Act.{Act}
use Rattle.run_history.specs.Recorded.{Recorded, History, acts_of, names_of, named_at}

abbrev pub naming : Act → List ℕ → Recorded
naming a named = record { act = a; named = named }

act_named : (o : Option Recorded) (a : Act) → option_map (λ (r : Recorded). r.act) o ≡ Some a → o ≡ Some (naming a (names_of o))
act_named None a e = absurd cc
act_named (Some r) a e =
    let same : r.act ≡ a = cc in
    ap (λ (b : Act). Some (naming b r.named)) same

pub act_at_place : (h : History) (i : ℕ) (a : Act) → slice_get (acts_of h) i ≡ Some a
    → slice_get h.acts i ≡ Some (naming a (named_at h i))
act_at_place h i a e = act_named (slice_get h.acts i) a (sym (slice_get-map (λ (r : Recorded). r.act) h.acts i) ∙ e)

pub one_more : {X : Type 0} (f : X → List ℕ) (text : List ℕ) (xs : List X) (i : ℕ) (x : X) (out : List ℕ)
    → out ≡ text ++ flat_map f (take i xs) → slice_get xs i ≡ Some x
    → (i < length xs) × (out ++ f x ≡ text ++ flat_map f (take (i + 1) xs))
one_more f text xs i x out so_far e =
    let lt = slice_get_within xs i x e in
    let next : take (i + 1) xs ≡ take i xs ++ x ∷ [] =
    take_more xs i x lt ∙ ap (λ y. take i xs ++ y ∷ []) (get_or_from_slice_get xs i x x e) in (
      lt,
      ap (λ (l : List ℕ). l ++ f x) so_far ∙ flat_map_more f text (take i xs) x
          ∙ ap (λ ys. text ++ flat_map f ys) (sym next),
    )

-- past the last act all are written
pub all_written : {X : Type 0} (f : X → List ℕ) (text : List ℕ) (xs : List X) (i : ℕ) (out : List ℕ)
    → out ≡ text ++ flat_map f (take i xs) → length xs ≤ i → out ≡ text ++ flat_map f xs
all_written f text xs i out so_far le = so_far ∙ ap (λ ys. text ++ flat_map f ys) (take_all i xs le)

pub past_all : {X : Type 0} (xs : List X) (i : ℕ) → slice_get xs i ≡ None → length xs ≤ i
past_all [] i e = omega arith
past_all (x ∷ xs) zero e = absurd cc
past_all (x ∷ xs) (suc i) e = let r = past_all xs i e in omega (arith, r)

pub past_acts : (h : History) (i : ℕ) → slice_get (acts_of h) i ≡ None → length h.acts ≤ i
past_acts h i e = omega (arith, past_all (acts_of h) i e, length-map h.acts (λ (r : Recorded). r.act))
