-- What a seat knows as its thread comes to the run and leaves it, and how the seats are made.
use Rattle.std.proofs.Common.{◌≡◌, ◌≢◌, ℕ, suc, ◌+◌, ◌<◌, ◌≤◌, Bool, true, false, List, [], ◌∷◌, length, Option, Some, None, refl, ap, sym, subst, ◌∙◌, arith}
use Rattle.std.specs.Prelude.{slice_get, slice_index_or}
use Rattle.std.specs.List.{remove}
use Rattle.run_history.specs.declared.act.Act.{Act}
use Rattle.run_forms.specs.Views.{ThreadFrames}
use Rattle.turnstile.specs.declared.kept.Kept.{Ghosts}
use Rattle.turnstile.specs.declared.pass.Pass.{Pass}
use Rattle.turnstile.specs.declared.view.Hand.{Hand}
use Rattle.turnstile.specs.declared.view.Phase.{Phase}
use Rattle.turnstile.specs.declared.view.Phase.TheVariants.{Holding}
use Rattle.turnstile.specs.Entries.{SameButOf}
use Rattle.turnstile.specs.Views.{found_parts}
use Rattle.turnstile.specs.Hands.{hands_from, next_of, own_number, own_part, stock, without_next}
use Rattle.turnstile.specs.Passes.{TurnstileId, IsIdle, hands_of, number_of, part_of, pass_id}
use Rattle.workers.specs.Held.{Began}
use Rattle.workers.specs.Seats.{Sits, has_note, runs}
use Rattle.workers.specs.Shared.{IsOfRun}
use Rattle.workers.specs.declared.seat.Stage.{Stage}

module _ {T : Type 0} {G : Ghosts T Act ThreadFrames} (turnstile : Option TurnstileId) (entry : Option Began) (thread : ℕ) where
  -- The pass has come and left: of its thread it knows what was left there.
  pub sits-again : (p mid q : Pass T Act ThreadFrames G) (fs gs : ThreadFrames) (stage stage' : Stage) (id : TurnstileId)
      (parts : List ThreadFrames) → Sits turnstile entry thread p fs stage → turnstile ≡ Some id → hands_of mid ≡ hands_of p
      → pass_id q ≡ id → IsIdle q → number_of q ≡ number_of mid → part_of q ≡ slice_get parts (number_of mid)
      → (has_note stage' ≡ true → slice_get parts thread ≡ Some gs) → (runs stage' ≡ true → IsOfRun entry gs)
      → Sits turnstile entry thread q gs stage'
  sits-again p mid q fs gs stage stage' id parts sits named hands of idle number part left program =
      let here : number_of mid ≡ thread = ap own_number hands ∙ sits.number in record {
        of = named ∙ ap (λ (i : TurnstileId). Some i) (sym of);
        idle = idle;
        number = number ∙ here;
        left = λ has. part ∙ ap (slice_get parts) here ∙ left has;
        program = program;
      }

-- what a pass that has entered may leave of the parts, where it is known what it found
pub same-since : {E P : Type 0} (f : Phase E P) (log : List E) (shares : List P) (n m : ℕ) (after : List P) → f ≡ Holding log shares
    → m ≡ n → SameButOf n shares after → SameButOf m (found_parts f) after
same-since {E} {P} f log shares n m after is same stay =
    subst (λ (k : ℕ). SameButOf k (found_parts f) after) (sym same)
    (subst (λ (f : Phase E P). SameButOf n (found_parts f) after) (sym is) stay)

abbrev pub rest_of : {P : Type 0} → List P → List P
rest_of ps = remove ps 0

-- one less
pub rest-long : {P : Type 0} (ps : List P) → 0 < length ps → length (rest_of ps) + 1 ≡ length ps
rest-long [] some = absurd (omega (arith, some))
rest-long (p ∷ ps) some = omega arith

module _ {E P : Type 0} where
  -- the first hand, whose worker has left this part, with the others in its stock from worker n on
  abbrev pub first_with : P → ℕ → List P → List (Hand E P)
  first_with main n ps = record { number = 0; entries = []; part = main; left = [] } ∷ hands_from n ps

  pub main-first : (ps : List P) (main : P) → 0 < length ps → main ≡ slice_index_or ps 0 main → hands_from 0 ps ≡ first_with main 1 (rest_of ps)
  main-first [] main some is = absurd (omega (arith, some))
  main-first (p ∷ ps) main some is = ap (λ (m : P). first_with m 1 ps) (sym is)

  module _ (hands : List (Hand E P)) (main : P) (n : ℕ) (ps : List P) (is : hands ≡ first_with main n ps) where
    pub some-stock : 0 < length ps → 0 < length (stock hands)
    some-stock some = subst (λ (hs : List (Hand E P)). 0 < length (stock hs)) (sym is) (by-parts ps some)
      where
        by-parts : (qs : List P) → 0 < length qs → 0 < length (stock (first_with main n qs))
        by-parts [] some = absurd (omega (arith, some))
        by-parts (q ∷ qs) some = omega arith

    module _ (r : P) (some : 0 < length ps) (at : r ≡ slice_index_or ps 0 r) where
      pub split-rest : without_next hands ≡ first_with main (n + 1) (rest_of ps)
      split-rest = ap without_next is ∙ by-parts ps some
        where
          by-parts : (qs : List P) → 0 < length qs → without_next (first_with main n qs) ≡ first_with main (n + 1) (rest_of qs)
          by-parts [] some = absurd (omega (arith, some))
          by-parts (q ∷ qs) some = refl

      pub split-number : own_number (next_of hands) ≡ n
      split-number = ap (λ (hs : List (Hand E P)). own_number (next_of hs)) is ∙ by-parts ps some
        where
          by-parts : (qs : List P) → 0 < length qs → own_number (next_of (first_with main n qs)) ≡ n
          by-parts [] some = absurd (omega (arith, some))
          by-parts (q ∷ qs) some = refl

      pub split-part : own_part (next_of hands) ≡ Some r
      split-part = ap (λ (hs : List (Hand E P)). own_part (next_of hs)) is ∙ by-parts ps some at
        where
          by-parts : (qs : List P) → 0 < length qs → r ≡ slice_index_or qs 0 r → own_part (next_of (first_with main n qs)) ≡ Some r
          by-parts [] some at = absurd (omega (arith, some))
          by-parts (q ∷ qs) some at = ap (λ (p : P). Some p) (sym at)
