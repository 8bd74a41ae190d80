use Rattle.std.proofs.Common.{inr}
use Rattle.std.proofs.lemmas.Result.{err_from_is_err_and}
use Rattle.parsing.specs.Results.{many_from}
use Rattle.parsing.proofs.Loops.{goes_on, stops, is_done}
use Rattle.code_form.specs.Reading.{case_at}
use Rattle.code_form.proofs.reading.cases_at.Goals as goal

pub returns-in_err-case : goal.returns-in_err-case
returns-in_err-case c =
    let read = case_at c.args.pc in
    let total = many_from read c.args.count c.args.bytes.now in
    let p = err_from_is_err_and c.from_residual.result c.from_residual.ensures.1 in
    rw (p.1, p.2) (inr (stops read c.loop.cases.items c.args.count c.loop.counter c.loop.rest.now total
    c.in_err-case.field-0.0 c.loop-test.true c.in_err-case.ensures c.loop.invariant))

pub loop-preserved : goal.loop-preserved
loop-preserved c =
    let read = case_at c.args.pc in
    let total = many_from read c.args.count c.args.bytes.now in
    rw c.in_ok-push.ensures.items (goes_on read c.loop.cases.items c.args.count c.loop.counter c.loop.rest.now
    total c.in_ok-case.case c.in_ok-case.after.now c.loop-test.true c.in_ok-case.ensures c.loop.invariant)

pub returns : goal.returns
returns c =
    let read = case_at c.args.pc in
    is_done read c.loop.cases.items c.args.count c.loop.counter c.loop.rest.now
    (many_from read c.args.count c.args.bytes.now) c.loop-test.false c.loop.invariant
