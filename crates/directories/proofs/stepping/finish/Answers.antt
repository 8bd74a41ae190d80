use Rattle.directories.specs.declared.stepping.Progress.TheVariants.{Raised}
use Rattle.directories.specs.Appending.{HasCome}
use Rattle.directories.proofs.EntrySteps.{at_failure, nothing_comes, finished_comes}
use Rattle.directories.proofs.stepping.finish.Goals as goal

pub returns-in_err-make_fence-clause-failed : goal.returns-in_err-make_fence-clause-failed
returns-in_err-make_fence-clause-failed g c known come =
    let new = c.make_fence.new.memory in
    at_failure c.from_residual.result (HasCome Raised c.args.used c.args.entry.now new)
    (nothing_comes c.args.used c.args.entry.now c.requires.room c.args.memory.now new c.requires.enough known Raised c.make_fence.ensures.changes come)

pub returns-clause-comes : goal.returns-clause-comes
returns-clause-comes g c known come =
    finished_comes c.args.used c.args.entry.now c.requires.room c.args.memory.now c.make_fence.new.memory c.requires.enough known
    c.make_fence.ensures.changes c.in_ok-make_fence.ensures.durable come
