use Rattle.std.proofs.Common.{◌≡◌, ◌≤◌, ◌-◌, drop, length}
use Rattle.run_history.specs.Worlds.{heap_after}
use Rattle.kept_lists.specs.Doubts.{marks_from}
use Rattle.audit_verdicts.specs.Picked.{kept_by}
use Rattle.kept_lists.specs.Fitting.{FitEach}
use Rattle.kept_lists.proofs.heaps.do_kept.Given as goal

abbrev pub invariant-acts : goal.invariant-acts
invariant-acts l =
    (l.i ≤ length l.acts.acts)
    × FitEach l.heap (kept_by l.keep (drop l.i (marks_from l.doubts.lasts.items 0 l.acts.acts l.doubts.doubts.items)))
    × (heap_after l.heap (kept_by l.keep (drop l.i (marks_from l.doubts.lasts.items 0 l.acts.acts l.doubts.doubts.items)))
    ≡ heap_after l.fn.heap (kept_by l.keep (marks_from l.doubts.lasts.items 0 l.acts.acts l.doubts.doubts.items)))

abbrev pub decreases-acts : goal.decreases-acts
decreases-acts l = length l.acts.acts - l.i
