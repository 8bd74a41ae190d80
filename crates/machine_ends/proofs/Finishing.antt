-- Where all threads of a machine have ended, its plain run has.
use Rattle.std.proofs.Common.{◌≡◌, ℕ, suc, Bool, true, false, List, [], ◌∷◌, map, Option, Some, None, refl, ap, sym}
use Rattle.std.proofs.Common.{subst}
use Rattle.std.specs.Prelude.{All}
use Rattle.std.proofs.lemmas.Bool.{true≢false}
use Rattle.std.proofs.lemmas.List.Elements.{All-map}
use Rattle.run_history.specs.Recorded.{Recorded}
use Rattle.run_history.specs.Worlds.{Thread, World}
use Rattle.plain_model.specs.Ends.{Ending, Fault, Finished, Uncaught, EndsAs, HaveEnded, first_uncaught}
use Rattle.shared_objects.specs.Worlds.{plain_thread}
use Rattle.run_forms.specs.Standing.{Launch, plain_code, known_at}
use Rattle.machine_ends.specs.Laws.{RunsFinish}

abbrev is_fault : Ending → Bool
is_fault (Fault f) = true
is_fault (Uncaught t class) = false
is_fault Finished = false

no-fault : (t : ℕ) (threads : List Thread) → is_fault (first_uncaught t threads) ≡ false
no-fault t [] = refl
no-fault t (thread ∷ threads) = by-uncaught thread.uncaught (no-fault (suc t) threads)
  where
    by-uncaught : (uncaught : Option ℕ) → is_fault (first_uncaught (suc t) threads) ≡ false
        → is_fault (elim uncaught as (λ _. Ending) [
          | None ↦ first_uncaught (suc t) threads
          | Some class ↦ Uncaught t class
        ]) ≡ false
    by-uncaught None others = others
    by-uncaught (Some class) others = refl

module _ (launch : Launch) (lines : ℕ) (acts : List Recorded) where
  abbrev EndsSo : Ending → Type 0
  EndsSo e = EndsAs launch.set launch.main launch.opening (plain_code launch) launch.limits lines acts e

  abbrev AllEnded : Type 0
  AllEnded = HaveEnded launch.set launch.main launch.opening (plain_code launch) launch.limits lines acts

  ends-so : AllEnded → (e : Ending) → is_fault e ≡ false
      → first_uncaught 0 (known_at launch acts).world.threads ≡ e → EndsSo e
  ends-so all (Fault f) faultless is = absurd (true≢false faultless)
  ends-so all (Uncaught t class) faultless is = (all, is)
  ends-so all Finished faultless is = (all, is)

  ended : (threads : List Thread) → (known_at launch acts).world.threads ≡ threads
      → All (λ (thread : Thread). thread.ended ≡ true) threads → EndsSo (first_uncaught 0 threads)
  ended threads are all =
      ends-so (subst (All (λ (thread : Thread). thread.ended ≡ true)) (sym are) all)
      (first_uncaught 0 threads) (no-fault 0 threads) (ap (first_uncaught 0) are)

pub runs-finish : RunsFinish
runs-finish o m es threads run plain lines all =
    ended o.launch lines m.acts (map plain_thread m.rest.threads)
    (ap (λ (w : World). w.threads) run.world.world)
    (All-map (λ (thread : Thread). thread.ended ≡ true) plain_thread m.rest.threads all)
