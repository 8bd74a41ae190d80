use Rattle.class_links.specs.Kept.{kept_files}
use Rattle.class_runs.proofs.Causes.{chosen_so_far}
use Rattle.class_runs.proofs.choice.choose.Goals as goal

pub returns-clause-found : goal.returns-clause-found
returns-clause-found c =
    chosen_so_far c.args.class.now (kept_files c.args.classes) c.in_ok-set.set.linked c.in-Ok.main.items
    c.in_ok-set.ensures.links c.in_ok-set.ensures.set c.in-Ok.ensures
