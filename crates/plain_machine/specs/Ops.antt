-- Kinds of operations, requests and faults.
use Rattle.std.specs.Prelude.{◌≡◌, ℕ, ◌<◌, ◌≤◌, Bool, true, false, not, List, length, take, Option, Some, None, slice_get}
use Rattle.ap_base.specs.declared.reference.Ref.{Ref}
use Rattle.ap_base.specs.declared.reference.Item.{Item}
use Rattle.natives.specs.declared.requests.Request.{Request}
use Rattle.natives.specs.declared.requests.Request.TheVariants as ask
use Rattle.shared_objects.specs.declared.threads.ThreadState.{ThreadState}
use Rattle.run_history.specs.declared.act.Op.{Op}
use Rattle.run_history.specs.declared.act.Op.TheVariants as op
use Rattle.run_history.specs.declared.act.Stage.{Stage}
use Rattle.run_history.specs.declared.act.Stage.TheVariants as stage

abbrev pub is_print : Op → Bool
is_print (op.Print bytes) = true
is_print o = false

abbrev pub is_start : Op → Bool
is_start (op.Start n child) = true
is_start o = false

-- whether an operation changes the heap
abbrev pub changes_heap : Op → Bool
changes_heap (op.Alloc n shape count) = true
changes_heap (op.Throw n class) = true
changes_heap (op.Stored place value) = true
changes_heap o = false

abbrev pub is_passing : Stage → Bool
is_passing stage.Ready = true
is_passing other = false

-- whether an operation changes monitors, classes or threads
abbrev pub changes_rest : Op → Bool
changes_rest (op.Enter key) = true
changes_rest (op.Exit key) = true
changes_rest (op.Start n child) = true
changes_rest (op.Init class is) = not (is_passing is)
changes_rest op.Begin = true
changes_rest op.End = true
changes_rest (op.Ended uncaught) = true
changes_rest o = false

-- whether a request prints
abbrev pub asks_print : Request Ref Item → Bool
asks_print (ask.Print from piece) = true
asks_print q = false

abbrev pub is_living : Option ThreadState → Bool
is_living None = false
is_living (Some s) = not s.ended

-- whether a thread was started and hasn't ended
abbrev pub is_live : List ThreadState → ℕ → Bool
is_live ss t = is_living (slice_get ss t)

-- The operation prints so many first bytes of the piece that is asked, at least one.
abbrev pub IsPrinting : Request Ref Item → Op → Option ℕ → Type 0
IsPrinting (ask.Print from piece) (op.Print bytes) (Some n) =
    (n ≡ length bytes) × (0 < n) × (n ≤ length piece) × (take n piece ≡ bytes)
IsPrinting (ask.Print from piece) (op.Print bytes) None =
    length bytes ≤ length piece → take (length bytes) piece ≡ bytes → ⊥
IsPrinting q o (Some n) = ⊥
IsPrinting q o None = Unit {0}
