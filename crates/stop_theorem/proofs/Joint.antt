-- Choices at each place are one choice: each thread has at most one single store.
use Rattle.std.proofs.Common.{◌≡◌, ℕ, Bool, true, false, List, [], ◌∷◌, Option, Some, None, refl, sym, ◌∙◌, ap, nat_eq}
use Rattle.std.proofs.Common.{if◌then◌else◌}
use Rattle.std.specs.List.{AllByRecursion}
use Rattle.std.proofs.lemmas.Bool.{true≢false, eqb-true, eq-eqb, and_parts}
use Rattle.ap_base.specs.declared.place.Place.{Place}
use Rattle.ap_base.specs.declared.place.Place.TheVariants.{Static, Slot}
use Rattle.graph_model.specs.Heaps.{place_is}
use Rattle.run_history.specs.declared.act.Op.{Op}
use Rattle.run_history.specs.declared.act.Op.TheVariants as op
use Rattle.run_history.specs.Knowing.{Fate, Sure, Open, Closing, Single, Mark}
use Rattle.run_history.specs.Kept.{survives}
use Rattle.stop_theorem.specs.Choices.{stores_at}
use Rattle.stop_theorem.specs.Orderly.{is_single_of, NoSingleOf, HasSingles}

pub same_place : (q p : Place) → place_is q p ≡ true → q ≡ p
same_place (Static m) (Static n) is = ap (λ k. Static k) (eqb-true m n is)
same_place (Slot m i) (Slot n j) is =
    let parts = and_parts (nat_eq m n) (nat_eq i j) is in
    ap (λ k. Slot k i) (eqb-true m n parts.0) ∙ ap (λ k. Slot n k) (eqb-true i j parts.1)
same_place (Static m) (Slot n j) is = absurd (true≢false (sym is))
same_place (Slot m i) (Static n) is = absurd (true≢false (sym is))

pub is_same_place : (p : Place) → place_is p p ≡ true
is_same_place (Static n) = eq-eqb n n refl
is_same_place (Slot n i) = rw (eq-eqb n n refl, eq-eqb i i refl) refl

op_place : Op → Option Place
op_place (op.Stored q x) = Some q
op_place o = None

place_stored : (p : Place) (o : Op) → stores_at p o ≡ true → op_place o ≡ Some p
unfolding op_place
place_stored p (op.Stored q x) is = ap (λ (r : Place). Some r) (same_place q p is)
place_stored p o is = absurd (true≢false (sym is))

-- the place of a thread's single store
single_place : List Mark → ℕ → Option Place
single_place [] t = None
single_place (m ∷ ms) t = if is_single_of t m.fate then op_place m.op else single_place ms t

module _ (S : Place → ℕ → Bool) where
  choice_at : ℕ → Option Place → Bool
  choice_at t None = true
  choice_at t (Some q) = S q t

  -- at each thread's place its choice there
  pub choice : List Mark → ℕ → Bool
  choice ms t = choice_at t (single_place ms t)

  module _ (r : ℕ → Bool) (p : Place) where
    abbrev Same : (ℕ → Bool) → Mark → Type 0
    Same s m = stores_at p m.op ≡ true → survives r s m.fate ≡ survives r (S p) m.fate

    -- a mark in front is another thread's
    later : (m : Mark) (ms ns : List Mark) → ((t : ℕ) → is_single_of t m.fate ≡ true → NoSingleOf t ns)
        → AllByRecursion (Same (choice ms)) ns → AllByRecursion (Same (choice (m ∷ ms))) ns
    unfolding choice single_place
    later m ms [] apart all = tt
    later m ms (n ∷ ns) apart all = (
      λ is. one n.fate (λ t e. (apart t e).0) (all.0 is),
      later m ms ns
          (λ t e. (apart t e).1) all.1,
    )
      where
        one : (fate : Fate) → ((t : ℕ) → is_single_of t m.fate ≡ true → is_single_of t fate ≡ false)
            → survives r (choice ms) fate ≡ survives r (S p) fate
            → survives r (choice (m ∷ ms)) fate ≡ survives r (S p) fate
        one Sure off same = same
        one (Open u) off same = same
        one (Closing u) off same = same
        one (Single u) off same = elim (is_single_of u m.fate) as (λ b. is_single_of u m.fate ≡ b
            → choice_at u (if b then op_place m.op else single_place ms u) ≡ S p u) [
              | true ↦ λ e. absurd (true≢false (sym (eq-eqb u u refl) ∙ off u e))
              | false ↦ λ e. same
            ] refl

    first_one : (m : Mark) (ms : List Mark) → Same (choice (m ∷ ms)) m
    unfolding choice single_place choice_at
    first_one m ms is = by_fate m.fate refl
      where
        by_fate : (fate : Fate) → m.fate ≡ fate → survives r (choice (m ∷ ms)) fate ≡ survives r (S p) fate
        by_fate Sure e = refl
        by_fate (Open u) e = refl
        by_fate (Closing u) e = refl
        by_fate (Single u) e =
            let mine : is_single_of u m.fate ≡ true = ap (is_single_of u) e ∙ eq-eqb u u refl in
            ap (λ b. choice_at u (if b then op_place m.op else single_place ms u)) mine
            ∙ ap (λ (o : Option Place). choice_at u o) (place_stored p m.op is)

    pub joint : (ms : List Mark) → HasSingles ms → AllByRecursion (Same (choice ms)) ms
    joint [] once = tt
    joint (m ∷ ms) once = (first_one m ms, later m ms ms once.0 (joint ms once.1))
