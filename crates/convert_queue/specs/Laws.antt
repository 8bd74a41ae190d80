-- By how much each step of a conversion changes the work that is left.
use Rattle.std.specs.Prelude.{◌≡◌, ℕ, ◌+◌, ◌*◌, ◌<◌, ◌≤◌, List, [], ◌∷◌, ◌++◌, length, get_or, drop}
use Rattle.convert_queue.specs.declared.phase.Phase.TheVariants.{Copy, Repair}
use Rattle.convert_queue.specs.Marks.{Mark, mark_at, with_store, with_write, with_fence, IsStored, IsWritten}
use Rattle.convert_queue.specs.Queues.{Queued}
use Rattle.convert_queue.specs.Work.{weight, line_work, whole_work, uncopied_in, thread_work}

-- A store to a line leaves two of it: its write, and a fence behind that.
abbrev pub StoresLeaveTwo : Type 0
StoresLeaveTwo = (marks : List Mark) (t l : ℕ) → l < length marks
    → line_work (with_store marks t l) + weight (mark_at marks l) ≡ line_work marks + 2

-- A write of a line that was stored to takes one.
abbrev pub WritesTakeOne : Type 0
WritesTakeOne = (marks : List Mark) (t l : ℕ) → l < length marks → IsStored marks t l
    → line_work (with_write marks l) + 1 ≡ line_work marks

-- A fence takes one at least where a line waits for it.
abbrev pub FencesTakeOne : Type 0
FencesTakeOne = (marks : List Mark) (t l : ℕ) → l < length marks → IsWritten marks t l
    → line_work (with_fence marks) < line_work marks

-- A claimed object that is put behind a queue adds its whole work.
abbrev pub PutsAddTheWhole : Type 0
PutsAddTheWhole = (lines : ℕ → ℕ) (queue : List Queued) (x : Queued) (n done : ℕ)
    → n ≤ length queue → 3 * done ≤ uncopied_in lines (drop n queue)
    → thread_work lines (queue ++ x ∷ []) Copy n done ≡ thread_work lines queue Copy n done + whole_work (lines x.0)

-- One more line is copied: the store to it adds two where it was clean, so that the step takes one.
abbrev pub CopiesTakeThree : Type 0
CopiesTakeThree = (lines : ℕ → ℕ) (queue : List Queued) (n done : ℕ) (d : Queued)
    → n < length queue → done < lines (get_or queue n d).0
    → thread_work lines queue Copy n (done + 1) + 3 ≡ thread_work lines queue Copy n done

-- An object is forwarded, and the place goes on to the next.
abbrev pub ForwardsTakeOne : Type 0
ForwardsTakeOne = (lines : ℕ → ℕ) (queue : List Queued) (n : ℕ) (d : Queued) → n < length queue
    → thread_work lines queue Copy (n + 1) 0 + 1 ≡ thread_work lines queue Copy n (lines (get_or queue n d).0)

-- A line is repaired.
abbrev pub RepairsTakeOne : Type 0
RepairsTakeOne = (lines : ℕ → ℕ) (queue : List Queued) (n done : ℕ) (d : Queued)
    → n < length queue → done < lines (get_or queue n d).0
    → thread_work lines queue Repair n (done + 1) + 1 ≡ thread_work lines queue Repair n done

-- The phase and the place go on with the same work.
abbrev pub RepairBeginsAlike : Type 0
RepairBeginsAlike = (lines : ℕ → ℕ) (queue : List Queued)
    → thread_work lines queue Copy (length queue) 0 ≡ thread_work lines queue Repair 0 0

abbrev pub RepairGoesOnAlike : Type 0
RepairGoesOnAlike = (lines : ℕ → ℕ) (queue : List Queued) (n : ℕ) (d : Queued) → n < length queue
    → thread_work lines queue Repair (n + 1) 0 ≡ thread_work lines queue Repair n (lines (get_or queue n d).0)

-- When all is repaired, the lines alone are left; a thread without objects has no work.
abbrev pub FlushLeavesLines : Type 0
FlushLeavesLines = (lines : ℕ → ℕ) (queue : List Queued) (done : ℕ)
    → thread_work lines queue Repair (length queue) done ≡ 0

abbrev pub NoneIsLeftAtFirst : Type 0
NoneIsLeftAtFirst = (lines : ℕ → ℕ) → thread_work lines [] Copy 0 0 ≡ 0
