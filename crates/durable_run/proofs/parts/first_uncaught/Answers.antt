use Rattle.std.proofs.Common.{◌≡◌, ℕ, zero, suc, drop, List, [], ◌∷◌, map, Option, Some, None, refl, sym, ◌∙◌, ap, add-one}
use Rattle.std.specs.Prelude.{slice_get}
use Rattle.plain_model.specs.Ends.{Ending, first_uncaught}
use Rattle.plain_model.specs.Ends.Ending.{Uncaught, Finished}
use Rattle.shared_objects.specs.declared.threads.ThreadState.{ThreadState}
use Rattle.shared_objects.specs.Worlds.{plain_thread}
use Rattle.durable_run.specs.Turning.{ending_of}
use Rattle.durable_run.proofs.Places.{next-is, some-one}
use Rattle.durable_run.proofs.parts.first_uncaught.Goals as goal

drop-at : (xs : List ThreadState) (n : ℕ) (x : ThreadState) → slice_get xs n ≡ Some x → drop n xs ≡ x ∷ drop (suc n) xs
drop-at [] n x is = absurd (let no : ◌≡◌ {A = Option ThreadState} None (Some x) = is in cc)
drop-at (y ∷ xs) zero x is = ap (λ (z : ThreadState). z ∷ xs) (some-one y x is)
drop-at (y ∷ xs) (suc n) x is = drop-at xs n x is

drop-past : (xs : List ThreadState) (n : ℕ) → slice_get xs n ≡ None → drop n xs ≡ []
drop-past [] zero is = refl
drop-past [] (suc n) is = refl
drop-past (y ∷ xs) zero is = absurd (let no : ◌≡◌ {A = Option ThreadState} (Some y) None = is in cc)
drop-past (y ∷ xs) (suc n) is = drop-past xs n is

abbrev from : List ThreadState → ℕ → Ending
from threads n = first_uncaught n (map plain_thread (drop n threads))

-- what the state at a place says
abbrev says : ℕ → Option ℕ → Ending → Ending
says n uncaught rest = elim uncaught [ None ↦ rest | Some class ↦ Uncaught n class ]

from-at : (threads : List ThreadState) (n : ℕ) (state : ThreadState) → slice_get threads n ≡ Some state
    → from threads n ≡ says n state.uncaught (from threads (suc n))
from-at threads n state is = ap (λ (xs : List ThreadState). first_uncaught n (map plain_thread xs)) (drop-at threads n state is)

from-past : (threads : List ThreadState) (n : ℕ) → slice_get threads n ≡ None → from threads n ≡ Finished
from-past threads n is = ap (λ (xs : List ThreadState). first_uncaught n (map plain_thread xs)) (drop-past threads n is)

pub returns-in_err-state : goal.returns-in_err-state
returns-in_err-state c =
    let at = next-is c.new.result c.unwrap-t.result c.loop-n.n c.unwrap-t.ensures c.new.ensures.same in
    ap ending_of c.from_residual.ensures
    ∙ sym (c.loop-n.invariant.rest
    ∙ from-past c.args.threads.now c.loop-n.n
    (ap (slice_get c.args.threads.now) (sym at) ∙ sym c.get.ensures.state ∙ c.in_err-state.was))

pub returns-in-Some : goal.returns-in-Some
returns-in-Some c =
    let at = next-is c.new.result c.unwrap-t.result c.loop-n.n c.unwrap-t.ensures c.new.ensures.same in
    ap (λ (n : ℕ). Uncaught n c.in-Some.class) at
    ∙ sym (c.loop-n.invariant.rest
    ∙ from-at c.args.threads.now c.loop-n.n c.in_ok-state.state
    (ap (slice_get c.args.threads.now) (sym at) ∙ sym c.get.ensures.state ∙ c.in_ok-state.was)
    ∙ ap (λ (u : Option ℕ). says c.loop-n.n u (from c.args.threads.now (suc c.loop-n.n))) c.in-Some.is)

pub loop-n-preserved : goal.loop-n-preserved
loop-n-preserved c =
    let at = next-is c.new.result c.unwrap-t.result c.loop-n.n c.unwrap-t.ensures c.new.ensures.same in
    record {
      rest = c.loop-n.invariant.rest
          ∙ from-at c.args.threads.now c.loop-n.n c.in_ok-state.state
          (ap (slice_get c.args.threads.now) (sym at) ∙ sym c.get.ensures.state ∙ c.in_ok-state.was)
          ∙ ap (λ (u : Option ℕ). says c.loop-n.n u (from c.args.threads.now (suc c.loop-n.n))) c.in_default.is
          ∙ ap (from c.args.threads.now) (sym (add-one c.loop-n.n));
    }
