-- A thread's own stores: where its single store is, and that a region that has guarded nothing has none.
use Rattle.std.proofs.Common.{◌≡◌, inl, inr, ℕ, true, false, List, [], ◌∷◌, Option, Some, None, refl, sym, ◌∙◌, ap, subst}
use Rattle.std.proofs.Common.{nat_eq, if◌then◌else◌}
use Rattle.std.specs.List.{AllByRecursion}
use Rattle.std.proofs.lemmas.Bool.{cases_Bool, true≢false, eq-eqb, or_parts}
use Rattle.ap_base.specs.declared.place.Place.{Place}
use Rattle.graph_model.specs.declared.types.Heap.{Heap}
use Rattle.graph_model.specs.Heaps.{has_number, place_is}
use Rattle.run_history.specs.declared.act.Op.{Op}
use Rattle.run_history.specs.declared.act.Op.TheVariants as op
use Rattle.run_history.specs.Knowing.{Fate, Sure, Open, Closing, Single, Mark, Knowledge, Guard, guard_of, has_guards}
use Rattle.run_history.specs.Knowing.{unfenced_at}
use Rattle.stop_theorem.specs.Choices.{stores_at, is_store}
use Rattle.stop_theorem.specs.Orderly.{is_single_of, is_open_of, is_region_of, SinglesAreAt, NoSingleAt, NoneOpen, LosesStores}
use Rattle.stop_theorem.specs.Orderly.{IsGuardedStore, IsOrderly}
use Rattle.stop_theorem.proofs.Joint.{same_place, is_same_place}

-- ---- the place of a single store

not_there : (p q : Place) (o : Op) → stores_at p o ≡ true → place_is p q ≡ false → stores_at q o ≡ true → ⊥
not_there p q (op.Stored r x) here other there =
    true≢false (sym (subst (λ (y : Place). place_is y q ≡ true) (same_place r p here) there) ∙ other)
not_there p q o here other there = absurd (true≢false (sym here))

single_elsewhere : (p q : Place) (t : ℕ) (ms : List Mark) → place_is p q ≡ false → SinglesAreAt p t ms
    → NoSingleAt q t ms
single_elsewhere p q t [] other all = tt
single_elsewhere p q t (m ∷ ms) other all = (
  λ there. elim (cases_Bool (is_single_of t m.fate)) [
    | inl is ↦ absurd (not_there p q m.op (all.0 is) other there)
    | inr isnt ↦ isnt
  ],
  single_elsewhere p q t ms other all.1,
)

-- a thread that owes a fence has its single store where it owes it
pub singles_are_placed : (first : Heap) (known : Knowledge) (t : ℕ) (p q : Place) → IsOrderly first known
    → unfenced_at known.unfenced t ≡ Some p
    → place_is p q ≡ false → NoSingleAt q t known.marks
singles_are_placed first known t p q s is other = single_elsewhere p q t known.marks other (s.placed t p is)

-- ---- a region that has guarded nothing

no_guard : (guards : List Guard) (t : ℕ) (p : Place) → has_guards guards t ≡ false
    → guard_of guards p ≡ Some t → ⊥
no_guard [] t p none is = let wrong : None ≡ Some t = is in cc
no_guard (g ∷ gs) t p none is =
    let parts = or_parts (nat_eq g.thread t) (has_guards gs t) none in
    elim (place_is g.place p) as (λ b. (if b then Some g.thread else guard_of gs p) ≡ Some t → ⊥) [
      | true ↦ λ mine. true≢false (sym (eq-eqb g.thread t
          (ap (λ (o : Option ℕ). elim o [ None ↦ g.thread | Some k ↦ k ]) mine)) ∙ parts.0)
      | false ↦ λ rest. no_guard gs t p parts.1 rest
    ] is

store_place : (o : Op) → is_store o ≡ true → (p : Place) × (stores_at p o ≡ true)
store_place (op.Stored p x) is = (p, is_same_place p)
store_place o is = absurd (true≢false (sym is))

none_open : (known : Knowledge) (t : ℕ) (ms : List Mark) → has_guards known.guards t ≡ false
    → AllByRecursion LosesStores ms → AllByRecursion (IsGuardedStore known) ms → NoneOpen t ms
none_open known t [] none lost all = tt
none_open known t (m ∷ ms) none lost all = (one m.fate refl, none_open known t ms none lost.1 all.1)
  where
    one : (fate : Fate) → m.fate ≡ fate → is_open_of t fate ≡ false
    one Sure is = refl
    one (Closing u) is = refl
    one (Single u) is = refl
    one (Open u) is = elim (cases_Bool (nat_eq u t)) [
      | inr isnt ↦ isnt
      | inl mine ↦ absurd (
          let stored : is_store m.op ≡ true =
          elim (cases_Bool (is_store m.op)) [
            | inl s ↦ s
            | inr isnt ↦ absurd (let wrong : Open u ≡ Sure = sym is ∙ lost.0 isnt in
                not_sure u wrong)
          ] in
          let place = store_place m.op stored in
          no_guard known.guards t place.0 none
          (all.0 t place.0 (ap (λ k. is_region_of t k) is ∙ mine) place.1))
    ]
      where
        not_sure : (k : ℕ) → Open k ≡ Sure → ⊥
        not_sure k e = true≢false (ap (λ (fate : Fate).
            elim fate [ Sure ↦ false | Open n ↦ true | Closing n ↦ true | Single n ↦ true ]) e)

-- where a region that has guarded a place is closing, nothing of an open region is there at its end
pub none_open_at_end : (first : Heap) (known : Knowledge) (t : ℕ) → IsOrderly first known
    → (has_guards known.guards t ≡ true → has_number known.closing t ≡ true) → NoneOpen t known.marks
none_open_at_end first known t s rule = elim (cases_Bool (has_guards known.guards t)) [
  | inl some ↦ s.closing t (rule some)
  | inr none ↦ none_open known t known.marks none s.lost s.guarded
]
