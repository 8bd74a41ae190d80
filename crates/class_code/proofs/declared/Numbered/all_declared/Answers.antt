use Rattle.class_code.specs.Declarations.{declared_by}
use Rattle.class_code.proofs.Declaring.{mapped_more}
use Rattle.class_code.proofs.declared.Numbered.all_declared.Goals as goal

pub loop-class-preserved : goal.loop-class-preserved
loop-class-preserved c =
    mapped_more (declared_by c.args.self.now) c.loop-class.class _ _ _ c.loop-class.invariant c.in_ok-declared_by.ensures c.in_ok-push.ensures.items
