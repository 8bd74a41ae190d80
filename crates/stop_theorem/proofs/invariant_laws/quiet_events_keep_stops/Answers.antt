use Rattle.stop_theorem.proofs.Calls.{stands_call}
use Rattle.stop_theorem.proofs.Showing.{free_keeps}
use Rattle.stop_theorem.proofs.Visible.{stands_sure, guards_keep, keeps_fresh}
use Rattle.stop_theorem.proofs.invariant_laws.quiet_events_keep_stops.Goals as goal

pub returns-clause-calls : goal.returns-clause-calls
returns-clause-calls c first known lay Waits old new enough calls s =
    stands_call first known lay Waits old new s calls enough

pub returns-clause-free : goal.returns-clause-free
returns-clause-free c = free_keeps

pub returns-clause-acts : goal.returns-clause-acts
returns-clause-acts c = stands_sure

pub returns-clause-guards : goal.returns-clause-guards
returns-clause-guards c = guards_keep

pub returns-clause-objects : goal.returns-clause-objects
returns-clause-objects c = keeps_fresh
