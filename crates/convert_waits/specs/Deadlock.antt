-- An instance: two threads, each of which waits for a monitor that the other owns, are stuck; and where one of them doesn't wait,
-- they aren't.
use Rattle.std.specs.Prelude.{ℕ, zero, suc, Bool, true, false, List, Option, Some, None}
use Rattle.run_types.specs.declared.wait.On.{On}
use Rattle.run_types.specs.declared.wait.On.TheVariants as on
use Rattle.twin_forms.specs.Table.{Entry, IsClaimed}
use Rattle.convert_words.specs.Scenes.{Scene, AgreesAt}
use Rattle.convert_waits.specs.Rows.{Why, InRow, none_waited, with_wait}
use Rattle.convert_waits.specs.Rows.Why.{Plain}
use Rattle.convert_waits.specs.Stuck.{IsFull, IsStuckAt, recorded_of}

-- threads 0 and 1 live
abbrev pub two_live : ℕ → Bool
two_live zero = true
two_live (suc zero) = true
two_live (suc (suc t)) = false

-- thread 0 waits for a monitor of thread 1, and thread 1 for one of thread 0
abbrev pub deadlock : ℕ → Option On
deadlock zero = Some (on.Monitor 1)
deadlock (suc zero) = Some (on.Monitor 0)
deadlock (suc (suc t)) = None

-- first thread 0 waits, and then thread 1
abbrev pub one_waited : ℕ → Option Why
one_waited = with_wait none_waited 0 (Plain (on.Monitor 1))

abbrev pub both_waited : ℕ → Option Why
both_waited = with_wait one_waited 1 (Plain (on.Monitor 0))

-- of every scene in which nobody has claimed an object
abbrev pub OfUnclaimed : (Scene → List Entry → Type 0) → Type 0
OfUnclaimed P = (s : Scene) (es : List Entry) → AgreesAt s es → ((t n : ℕ) → IsClaimed es t n → ⊥) → P s es

abbrev pub DeadlocksAreStuck : Type 0
DeadlocksAreStuck = OfUnclaimed (λ s es. InRow deadlock s es both_waited × IsFull two_live es both_waited
    × IsStuckAt deadlock two_live s es (recorded_of both_waited))

abbrev pub OneWaitIsNotStuck : Type 0
OneWaitIsNotStuck = OfUnclaimed (λ s es. InRow deadlock s es one_waited
    × (IsStuckAt deadlock two_live s es (recorded_of one_waited) → ⊥))
