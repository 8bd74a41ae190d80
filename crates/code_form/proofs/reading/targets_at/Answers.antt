use Rattle.std.proofs.Common.{inr}
use Rattle.std.proofs.lemmas.Result.{err_from_is_err_and}
use Rattle.std.specs.Int.{w32}
use Rattle.parsing.specs.Results.{many_from}
use Rattle.parsing.proofs.Loops.{goes_on, stops, is_done}
use Rattle.code_form.specs.Reading.{target_at}
use Rattle.code_form.proofs.reading.targets_at.Goals as goal

pub returns-in_err-target : goal.returns-in_err-target
returns-in_err-target c =
    let read = target_at c.args.pc w32 in
    let total = many_from read c.args.count c.args.bytes.now in
    let p = err_from_is_err_and c.from_residual.result c.from_residual.ensures.1 in
    rw (p.1, p.2) (inr (stops read c.loop.targets.items c.args.count c.loop.counter c.loop.rest.now total
    c.in_err-target.field-0.0 c.loop-test.true c.in_err-target.ensures c.loop.invariant))

pub loop-preserved : goal.loop-preserved
loop-preserved c =
    let read = target_at c.args.pc w32 in
    let total = many_from read c.args.count c.args.bytes.now in
    rw c.in_ok-push.ensures.items
    (goes_on read c.loop.targets.items c.args.count c.loop.counter c.loop.rest.now
    total c.in_ok-target.target c.in_ok-target.after.now c.loop-test.true c.in_ok-target.ensures
    c.loop.invariant)

pub returns : goal.returns
returns c =
    let read = target_at c.args.pc w32 in
    is_done read c.loop.targets.items c.args.count c.loop.counter c.loop.rest.now
    (many_from read c.args.count c.args.bytes.now) c.loop-test.false c.loop.invariant
