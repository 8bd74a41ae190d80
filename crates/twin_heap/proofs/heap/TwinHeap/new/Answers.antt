use Rattle.std.proofs.Common.{◌/◌, subst, arith}
use Rattle.std.specs.Prelude.{IfOk, map}
use Rattle.twin_heap.specs.Here.{Begins, kinds_of}
use Rattle.twin_heap.proofs.Opens.{opens_is}
use Rattle.twin_heap.proofs.heap.TwinHeap.new.Goals as goal

pub returns-in-Ok-clause-valid : goal.returns-in-Ok-clause-valid
returns-in-Ok-clause-valid g c =
    let m = c.args.memory in
    let room = c.left.result in
    let begins : Begins (map kinds_of c.args.shapes.now) c.args.lines.now c.args.memory.size (c.left.result / 3) c.in-Ok.marks =
    subst (λ n. Begins (map kinds_of c.args.shapes.now) c.args.lines.now n (c.left.result / 3) c.in-Ok.marks) c.lines.ensures
    (subst (λ r. IfOk r (λ x. Begins (map kinds_of c.args.shapes.now) c.args.lines.now c.lines.result (c.left.result / 3) x)) c.in-Ok.is c.open.ensures.begins) in
    opens_is c.args.space m c.in-Ok.marks (map kinds_of c.args.shapes.now) c.args.lines.now (c.left.result / 3) c.requires.empty c.requires.opening begins
    (omega (arith, c.left.ensures.left, c.requires.few)) (omega (arith, c.left.ensures.left))
