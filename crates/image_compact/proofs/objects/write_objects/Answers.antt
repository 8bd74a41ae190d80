use Rattle.std.proofs.Common.{◌+◌, ◌∙◌, length, ap, refl, arith}
use Rattle.line_memory.specs.Memory.{Memory}
use Rattle.word_changes.proofs.Changing.{changes_weaker}
use Rattle.word_changes.proofs.Going.{goes_nowhere, goes_more}
use Rattle.image_compact.specs.Writing.{OfObject, OfObjects}
use Rattle.image_compact.proofs.LineWords.{both_change, both_wrote}
use Rattle.image_compact.proofs.ImageWords.{no_objects, fewer_objects, next_object, of_object, objects_apart, objects_within}
use Rattle.image_compact.proofs.objects.write_objects.Goals as goal

pub loop-n-init : goal.loop-n-init
loop-n-init g c =
    let m : Memory = c.args.memory.now in
    let begin = no_objects c.args.graph.now m in
    record { wrote = begin.0; changes = begin.1; goes_on = goes_nowhere m; spared = refl }

pub returns-in_err-write_object-clause-changes : goal.returns-in_err-write_object-clause-changes
returns-in_err-write_object-clause-changes g c =
    let a : Memory = c.args.memory.now in
    let b : Memory = c.loop-n.memory in
    let d : Memory = c.write_object.new.memory in
    let graph = c.args.graph.now in
    let n = c.loop-n.n in
    changes_weaker (OfObjects graph (n + 1)) (OfObjects graph (length graph.nodes)) a d
    (fewer_objects graph (n + 1) (length graph.nodes) (omega (arith, c.loop-n-test.true, ap length c.nodes-n-end.ensures.same)))
    (both_change (OfObjects graph n) (OfObject graph n) (OfObjects graph (n + 1)) a b d c.loop-n.invariant.changes c.write_object.ensures.changes
    (fewer_objects graph n (n + 1) (omega arith)) (next_object graph n))

pub returns-in_err-write_object-clause-goes_on : goal.returns-in_err-write_object-clause-goes_on
returns-in_err-write_object-clause-goes_on g c =
    goes_more c.args.memory.now c.loop-n.memory c.write_object.new.memory c.loop-n.invariant.goes_on c.write_object.ensures.goes_on

pub loop-n-preserved : goal.loop-n-preserved
loop-n-preserved g c =
    let a : Memory = c.args.memory.now in
    let b : Memory = c.loop-n.memory in
    let d : Memory = c.write_object.new.memory in
    let graph = c.args.graph.now in
    let n = c.loop-n.n in
    let so_far = c.loop-n.invariant in
    let room = c.requires.plan.room in
    record {
      wrote = both_wrote (OfObjects graph n) (OfObject graph n) (OfObjects graph (n + 1)) a b d so_far.changes c.write_object.ensures.changes
          (of_object graph n) (objects_apart graph n (omega (arith, c.loop-n-test.true, ap length c.nodes-n-end.ensures.same)))
          (objects_within graph n b.size (omega (arith, c.loop-n-test.true, ap length c.nodes-n-end.ensures.same)) (omega (arith, room.objects, so_far.changes.size)))
          so_far.wrote c.in_ok-write_object.ensures.wrote;
      changes = both_change (OfObjects graph n) (OfObject graph n) (OfObjects graph (n + 1)) a b d so_far.changes c.write_object.ensures.changes
          (fewer_objects graph n (n + 1) (omega arith)) (next_object graph n);
      goes_on = goes_more a b d so_far.goes_on c.write_object.ensures.goes_on;
      spared = c.in_ok-write_object.ensures.cause.spared ∙ so_far.spared;
    }
