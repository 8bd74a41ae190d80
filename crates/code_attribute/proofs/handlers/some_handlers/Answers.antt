use Rattle.std.proofs.Common.{inr}
use Rattle.std.proofs.lemmas.Result.{err_from_is_err_and}
use Rattle.parsing.specs.Results.{many_from}
use Rattle.parsing.proofs.Loops.{goes_on, stops, is_done}
use Rattle.code_attribute.specs.Code.{handler_at}
use Rattle.code_attribute.proofs.handlers.some_handlers.Goals as goal

pub returns-in_err-handler_at : goal.returns-in_err-handler_at
returns-in_err-handler_at c =
    let read = handler_at c.args.pool.now c.args.starts.now c.args.size in
    let total = many_from read c.args.count c.args.file.now in
    let p = err_from_is_err_and c.from_residual.result c.from_residual.ensures.1 in
    rw (p.1, p.2) (inr (stops read c.loop.handlers.items c.args.count c.loop.counter c.loop.file total
    c.in_err-handler_at.field-0.0 c.loop-test.true c.in_err-handler_at.ensures c.loop.invariant))

pub loop-preserved : goal.loop-preserved
loop-preserved c =
    let read = handler_at c.args.pool.now c.args.starts.now c.args.size in
    let total = many_from read c.args.count c.args.file.now in
    rw c.in_ok-push.ensures.items
    (goes_on read c.loop.handlers.items c.args.count c.loop.counter c.loop.file total
    c.in_ok-handler_at.field-0 c.handler_at.new.file c.loop-test.true c.in_ok-handler_at.ensures
    c.loop.invariant)

pub returns : goal.returns
returns c =
    let read = handler_at c.args.pool.now c.args.starts.now c.args.size in
    let total = many_from read c.args.count c.args.file.now in
    is_done read c.loop.handlers.items c.args.count c.loop.counter c.loop.file total c.loop-test.false
    c.loop.invariant
