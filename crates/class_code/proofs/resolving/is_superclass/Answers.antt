use Rattle.std.proofs.Common.{◌-◌, ◌+◌, sym, ◌∙◌, arith}
use Rattle.plain_model.specs.Facts.{classes_of}
use Rattle.class_set.specs.Facts.{facts_of}
use Rattle.class_code.proofs.Supers.{found, passed}
use Rattle.class_code.proofs.resolving.is_superclass.Goals as goal

pub returns-in-Some : goal.returns-in-Some
returns-in-Some c =
    let left = c.named_count-end.result - c.loop.counter in
    sym (c.loop.invariant.rest
    ∙ found (classes_of (facts_of c.args.set.now)) (left - 1) left c.loop.at c.in-Some.superclass c.args.class (omega arith)
    (sym c.superclass.ensures ∙ c.in-Some.is) c.if-superclass-class.true)

pub loop-preserved : goal.loop-preserved
loop-preserved c =
    let left = c.named_count-end.result - c.loop.counter in
    let next = c.named_count-end.result - (c.loop.counter + 1) in
    record {
      count = c.loop.invariant.count;
      rest = c.loop.invariant.rest
          ∙ passed (classes_of (facts_of c.args.set.now)) next left c.loop.at c.in-Some.superclass c.args.class (omega arith)
          (sym c.superclass.ensures ∙ c.in-Some.is) c.if-superclass-class.false;
    }
