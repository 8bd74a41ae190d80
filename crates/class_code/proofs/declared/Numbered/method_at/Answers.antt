use Rattle.std.proofs.Common.{◌<◌, subst, sym, arith}
use Rattle.class_set.specs.Linked.{Linked}
use Rattle.class_code.specs.Methods.{method_count}
use Rattle.class_code.proofs.declared.Numbered.method_at.Goals as goal

pub overflow_cast-result : goal.overflow_cast-result
overflow_cast-result c =
    let there = subst (λ (s : Linked). c.args.place < method_count s c.args.class) (sym c.self.view_is) c.requires in
    let room = c.self.invariant.0.room c.args.class c.args.place there in
    omega (arith, room)
