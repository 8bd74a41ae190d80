use Rattle.std.proofs.Common.{arith}
use Rattle.class_set.specs.Facts.{facts_of}
use Rattle.set_fixture.proofs.Nulls.{made-opening}
use Rattle.set_fixture.proofs.sets.null_opening.Goals as goal

pub returns : goal.returns
returns c = record {
  opening = made-opening (facts_of c.args.set.now) c.in_ok-roots.roots c.as_slice.result.now c.in_ok-literals.literals
      c.in_ok-values.values.items c.from_vec.result c.new.result c.in_ok-roots.ensures c.in_ok-literals.ensures
      (omega arith) (omega arith) c.as_slice.ensures c.in_ok-values.ensures c.from_vec.ensures c.new.ensures;
}
