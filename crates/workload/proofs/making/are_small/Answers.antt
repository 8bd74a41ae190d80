use Rattle.std.proofs.Common.{List, arith, ap, length, subst, ◌≤◌}
use Rattle.std.specs.List.{All}
use Rattle.std.proofs.lemmas.List.{take_all}
use Rattle.std.proofs.lemmas.List.Elements.{All-more}
use Rattle.class_file.specs.declared.class.ClassFile.{ClassFile}
use Rattle.class_file.specs.Classes.{HasAtMost, class_bytes}
use Rattle.workload.proofs.making.are_small.Goals as goal

pub loop-class-preserved : goal.loop-class-preserved
loop-class-preserved c =
    let item = c.class-item.result in
    let few : length (class_bytes item) ≤ 1048576 =
    omega (arith, ap length c.in_ok-write_class.ensures.bytes, c.len.ensures, c.if-len-gt-MOST_BYTES.false) in
    All-more (HasAtMost 1048576) c.args.classes.now c.loop-class.class-index item c.loop-class-test.true c.loop-class.invariant
    (subst (λ (class : ClassFile). length (class_bytes class) ≤ 1048576) c.class-item.is few)

pub returns : goal.returns
returns c = λ is.
    subst (λ (classes : List ClassFile). All (HasAtMost 1048576) classes)
    (take_all c.loop-class.class-index c.args.classes.now c.loop-class-test.false) c.loop-class.invariant
