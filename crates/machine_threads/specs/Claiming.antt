-- Whoever has claimed an object converts.
use Rattle.std.specs.Prelude.{◌≡◌, ◌≢◌, ℕ, List, Some}
use Rattle.run_history.specs.Knowing.{Pending, pending_of}
use Rattle.twin_forms.specs.Table.{Entry, entry, IsClaimed}
use Rattle.convert_waits.specs.Rows.{HasNothing}
use Rattle.machine_ends.specs.Passed.{Converting}
use Rattle.machine_ends.specs.Passed.{Opening, Machine, known_in, doing_of}
use Rattle.machine_ends.specs.Passed.{KeepsRun}

-- It has asked a value, and hasn't made the store yet.
abbrev pub ClaimersHaveAsked : Type 0
ClaimersHaveAsked = (o : Opening) (m : Machine) (es : List Entry) (t n : ℕ) → KeepsRun o m es → IsClaimed es t n
    → (p : Pending) × (pending_of (known_in o m).asked t ≡ Some p)

abbrev pub ClaimersConvert : Type 0
ClaimersConvert = (o : Opening) (m : Machine) (es : List Entry) (t n : ℕ) → KeepsRun o m es → IsClaimed es t n
    → doing_of m t ≡ Converting

-- So an event of a thread that doesn't convert, as one that waits in the plain world, is of one that has claimed
-- nothing.
abbrev pub OthersHaveNothing : Type 0
OthersHaveNothing = (o : Opening) (m : Machine) (es : List Entry) (t : ℕ) → KeepsRun o m es
    → doing_of m t ≢ Converting → HasNothing es t

-- Whatever the thread has claimed is forwarded, as after each wait of it.
abbrev pub HasForwarded : List Entry → ℕ → Type 0
HasForwarded es t = (n : ℕ) → IsClaimed es t n → (entry es n).stage ≡ 2
