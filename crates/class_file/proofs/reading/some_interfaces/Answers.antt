use Rattle.std.proofs.Common.{ap, inr}
use Rattle.std.proofs.lemmas.Result.{err_from_is_err_and}
use Rattle.parsing.specs.Results.{placed}
use Rattle.parsing.proofs.Loops.{goes_on, ends, is_done}
use Rattle.const_pool.specs.declared.entry.Tag.TheVariants.{Class}
use Rattle.class_file.specs.declared.refusal.ClassRefusal.TheVariants.{OutOfMemory}
use Rattle.class_file.specs.Refusals.{of_item}
use Rattle.class_file.specs.Members.{index}
use Rattle.class_file.proofs.reading.some_interfaces.Goals as goal

pub returns-in_err-index : goal.returns-in_err-index
returns-in_err-index c =
    let p = err_from_is_err_and c.from_residual.result c.from_residual.ensures.1 in
    let refused = ap (placed of_item) c.in_err-index.ensures in
    rw (p.1, p.2) (ends (index c.args.pool.now Class) c.loop.interfaces.items c.args.count c.loop.counter
    c.loop.file _ OutOfMemory _ c.loop-test.true (inr refused) c.loop.invariant)

pub loop-preserved : goal.loop-preserved
loop-preserved c =
    let read = ap (placed of_item) c.in_ok-index.ensures in
    rw c.in_ok-push.ensures.items (goes_on (index c.args.pool.now Class) c.loop.interfaces.items c.args.count
    c.loop.counter c.loop.file _ _ _ c.loop-test.true read c.loop.invariant)

pub returns : goal.returns
returns c =
    is_done (index c.args.pool.now Class) c.loop.interfaces.items c.args.count c.loop.counter c.loop.file _
    c.loop-test.false c.loop.invariant
