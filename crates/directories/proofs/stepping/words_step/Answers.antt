use Rattle.std.proofs.Common.{◌≤◌, length, arith}
use Rattle.directories.specs.declared.stepping.Progress.TheVariants.{Words}
use Rattle.directories.specs.Appending.{HasCome}
use Rattle.directories.proofs.EntrySteps.{at_failure, nothing_comes, fenced_come}
use Rattle.directories.proofs.stepping.words_step.Goals as goal

pub returns-in_err-make_fence-clause-failed : goal.returns-in_err-make_fence-clause-failed
returns-in_err-make_fence-clause-failed g c known come =
    let new = c.make_fence.new.memory in
    at_failure c.from_residual.result (HasCome (Words c.args.n) c.args.used c.args.entry.now new)
    (nothing_comes c.args.used c.args.entry.now c.requires.room c.args.memory.now new c.requires.enough known (Words c.args.n) c.make_fence.ensures.changes come)

pub returns-clause-comes : goal.returns-clause-comes
returns-clause-comes g c known come =
    let all : length c.args.entry.now ≤ c.args.n = omega arith in
    fenced_come c.args.used c.args.entry.now c.requires.room c.args.memory.now c.make_fence.new.memory c.requires.enough known
    c.args.n all c.make_fence.ensures.changes c.in_ok-make_fence.ensures.durable come
