use Rattle.std.proofs.Common.{◌∷◌, [], length, ap, arith, length-append}
use Rattle.std.proofs.lemmas.Result.{err_from_is_err_and}
use Rattle.parsing.specs.Results.{many_from}
use Rattle.parsing.proofs.Loops.{goes_on, is_done}
use Rattle.history_file.specs.Reading.{act_at}
use Rattle.history_file.proofs.Stopped.{many_stop}
use Rattle.history_file.proofs.reading.acts.Goals as goal

pub returns-in_err-rest : goal.returns-in_err-rest
returns-in_err-rest c =
    let r = c.from_residual-in_err-rest in
    let p = err_from_is_err_and r.result r.ensures.1 in
    rw (p.1, p.2) (many_stop act_at c.loop.acts.acts c.args.count c.loop.counter c.loop.rest.now
    (many_from act_at c.args.count c.args.bytes.now) c.in_err-rest.field-0.0 c.loop-test.true c.in_err-rest.ensures.read
    c.loop.invariant.read)

pub loop-preserved : goal.loop-preserved
loop-preserved c =
    let a = c.in_ok-rest.ensures.read in
    let next = goes_on act_at c.loop.acts.acts c.args.count c.loop.counter c.loop.rest.now
    (many_from act_at c.args.count c.args.bytes.now) a.0 c.in_ok-rest.rest.now c.loop-test.true a.1 c.loop.invariant.read in
    record {
      none = c.in_ok-rest.ensures.none;
      count = omega (arith, ap length a.2, length-append c.loop.acts.acts (a.0 ∷ []), c.loop.invariant.count);
      read = rw a.2 next;
    }

pub returns : goal.returns
returns c =
    is_done act_at c.loop.acts.acts c.args.count c.loop.counter c.loop.rest.now
    (many_from act_at c.args.count c.args.bytes.now) c.loop-test.false c.loop.invariant.read
