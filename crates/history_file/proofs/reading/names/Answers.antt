use Rattle.std.proofs.Common.{arith}
use Rattle.std.proofs.lemmas.Result.{err_from_is_err_and}
use Rattle.parsing.specs.Results.{many_from}
use Rattle.parsing.proofs.Loops.{goes_on, is_done}
use Rattle.history_file.specs.Reading.{number_at}
use Rattle.history_file.proofs.Stopped.{many_stop}
use Rattle.history_file.proofs.reading.names.Goals as goal

pub returns-in_err-object-clause-read : goal.returns-in_err-object-clause-read
returns-in_err-object-clause-read c =
    let p = err_from_is_err_and c.from_residual.result c.from_residual.ensures.1 in
    rw (p.1, p.2) (many_stop number_at c.loop.acts.named c.args.count c.loop.counter c.loop.rest.now
    (many_from number_at c.args.count c.args.bytes.now) c.in_err-object.field-0.0 c.loop-test.true c.in_err-object.ensures
    c.loop.invariant.read)

pub loop-preserved : goal.loop-preserved
loop-preserved c = rw c.name.ensures.named record {
  acts = c.loop.invariant.acts;
  limit = c.loop.invariant.limit;
  room = omega (arith, c.loop.invariant.room, c.loop-test.true);
  read = goes_on number_at c.loop.acts.named c.args.count c.loop.counter c.loop.rest.now
      (many_from number_at c.args.count c.args.bytes.now) c.in_ok-object.object c.in_ok-object.after.now c.loop-test.true
      c.in_ok-object.ensures c.loop.invariant.read;
}

pub returns-clause-read : goal.returns-clause-read
returns-clause-read c =
    is_done number_at c.loop.acts.named c.args.count c.loop.counter c.loop.rest.now
    (many_from number_at c.args.count c.args.bytes.now) c.loop-test.false c.loop.invariant.read
