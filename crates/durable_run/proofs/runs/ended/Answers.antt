use Rattle.std.proofs.Common.{◌∙◌, List, ap, map, subst, sym}
use Rattle.plain_model.specs.Ends.{Ending, first_uncaught}
use Rattle.shared_objects.specs.declared.threads.ThreadState.{ThreadState}
use Rattle.shared_objects.specs.Worlds.{plain_thread}
use Rattle.durable_run.specs.Turning.{HasEnded}
use Rattle.durable_run.proofs.Going.{has-run}
use Rattle.durable_run.proofs.runs.ended.Goals as goal

pub returns-clause-ends : goal.returns-clause-ends
returns-clause-ends g c o first set x all ready =
    let s = c.args.heap.now in
    let how = c.first_uncaught.ensures
    ∙ ap (λ (states : List ThreadState). first_uncaught 0 (map plain_thread states)) c.threads.ensures in (
      has-run o first s ready.table ready.threads ready.running,
      subst (λ (ending : Ending). HasEnded o first s.machine ending) (sym how)
          (c.machines_finish_with_their_threads.ensures.all o s.machine ready.table ready.threads
          ready.running.runs.keeps ready.running.runs.plain _ c.requires),
    )
