-- Two threads that wait for each other's monitors, one after the other.
use Rattle.std.proofs.Common.{◌≡◌, ℕ, zero, suc, true, List, refl}
use Rattle.std.specs.Prelude.{Option, Some, None}
use Rattle.std.proofs.lemmas.Bool.{false≢true}
use Rattle.run_types.specs.declared.wait.On.{On}
use Rattle.run_types.specs.declared.wait.On.TheVariants as on
use Rattle.twin_forms.specs.Table.{Entry, IsClaimed}
use Rattle.convert_words.specs.Scenes.{Scene, AgreesAt}
use Rattle.convert_waits.specs.Rows.{Why, InRow, none_waited}
use Rattle.convert_waits.specs.Rows.Why.{Plain}
use Rattle.convert_waits.specs.Stuck.{IsFull, IsPlain}
use Rattle.convert_waits.specs.Deadlock.{two_live, deadlock, one_waited, both_waited, DeadlocksAreStuck, OneWaitIsNotStuck}
use Rattle.convert_waits.proofs.Rows.{rows_begin, plain_waits_keep}
use Rattle.convert_waits.proofs.Full.{full_rows_are_stuck}

waits-plainly : (t : ℕ) (o : On) → deadlock t ≡ Some o → IsPlain o
waits-plainly zero (on.Monitor u) is = tt
waits-plainly zero (on.Join u) is = tt
waits-plainly zero (on.Init u) is = tt
waits-plainly zero (on.Conversion u) is = absurd
    (let no : ◌≡◌ {A = Option On} (Some (on.Monitor 1)) (Some (on.Conversion u)) = is in cc)
waits-plainly (suc zero) (on.Monitor u) is = tt
waits-plainly (suc zero) (on.Join u) is = tt
waits-plainly (suc zero) (on.Init u) is = tt
waits-plainly (suc zero) (on.Conversion u) is = absurd
    (let no : ◌≡◌ {A = Option On} (Some (on.Monitor 0)) (Some (on.Conversion u)) = is in cc)
waits-plainly (suc (suc t)) o is = absurd (let no : ◌≡◌ {A = Option On} None (Some o) = is in cc)

both-waited : (t : ℕ) → two_live t ≡ true → (why : Why) × (both_waited t ≡ Some why)
both-waited zero alive = (Plain (on.Monitor 1), refl)
both-waited (suc zero) alive = (Plain (on.Monitor 0), refl)
both-waited (suc (suc t)) alive = absurd (false≢true alive)

module _ (s : Scene) (es : List Entry) (agrees : AgreesAt s es) (none : (t n : ℕ) → IsClaimed es t n → ⊥) where
  one : InRow deadlock s es one_waited
  one = plain_waits_keep deadlock s es none_waited 0 (on.Monitor 1)
      (rows_begin deadlock s es agrees (λ t n c claimed early within copied. absurd (none t n claimed))) refl (none 0)

  both : InRow deadlock s es both_waited
  both = plain_waits_keep deadlock s es one_waited 1 (on.Monitor 0) one refl (none 1)

  full : IsFull two_live es both_waited
  full = record { claimers = λ t n claimed. absurd (none t n claimed); all = both-waited }

pub deadlocks_are_stuck : DeadlocksAreStuck
deadlocks_are_stuck s es agrees none =
    let row = both s es agrees none in
    let filled = full s es agrees none in
    (row, filled, full_rows_are_stuck deadlock two_live s es both_waited waits-plainly row filled)

pub one_wait_is_not_stuck : OneWaitIsNotStuck
one_wait_is_not_stuck s es agrees none = (
  one s es agrees none,
  λ stuck. (let w = stuck 1 refl in let no : ◌≡◌ {A = Option On} None (Some w.0) = w.1 in cc),
)
