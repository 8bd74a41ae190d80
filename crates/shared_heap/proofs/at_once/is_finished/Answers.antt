use Rattle.std.proofs.Common.{rules, ◌<◌, length}
use Rattle.run_history.specs.declared.plain.Progress.TheVariants.{Finished}
use Rattle.step_forms.proofs.Ways.{progress_is}
use Rattle.shared_heap.proofs.at_once.is_finished.Goals as goal

pub returns-in-Finished : goal.returns-in-Finished
returns-in-Finished c _ =
    let there : c.args.class < length c.args.rest.now.classes.items = search rules in
    progress_is c.args.rest.now.classes.items c.args.class c.index.result.now Finished there c.index.ensures
    c.in-Finished.is
