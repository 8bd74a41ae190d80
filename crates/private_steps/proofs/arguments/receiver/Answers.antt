use Rattle.std.proofs.Common.{◌-◌, sym, arith, drop-cons}
use Rattle.code_form.specs.declared.ins.Sort.TheVariants as sort
use Rattle.frames.specs.Calls.{cells_taken}
use Rattle.private_steps.proofs.Parameters.{next-wide, receiver-past}
use Rattle.private_steps.proofs.arguments.receiver.Goals as goal

pub returns-then-depth-above : goal.returns-then-depth-above
returns-then-depth-above g c =
    let e = drop-cons c.args.parameters.now c.loop-sort.sort-index sort.Int c.loop-sort-test.true in
    let w = next-wide c.args.parameters.now c.loop-sort.sort-index _ e in
    sym (receiver-past c.args.cells.now.own (cells_taken c.args.parameters.now - 1)
    (omega (arith, w, c.loop-sort.invariant.0, c.if-depth-above.true, c.depth-depth.ensures.depth)))
