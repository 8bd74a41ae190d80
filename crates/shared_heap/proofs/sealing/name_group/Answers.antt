use Rattle.std.proofs.Common.{◌≡◌, ◌<◌, [], ◌∙◌, ap, sym, arith}
use Rattle.convert_words.specs.Scenes.{Scene, scene}
use Rattle.store_barrier.specs.Passed.{names_below}
use Rattle.shared_heap.specs.Conversions.{with_names}
use Rattle.shared_heap.proofs.Naming.{group_left, group_next, with_none}
use Rattle.shared_heap.proofs.sealing.name_group.Goals as goal

pub loop-u-init : goal.loop-u-init
loop-u-init g c = record { named = sym (with_none c.args.acts.now) }

pub name_member-requires-clause-room : goal.name_member-requires-clause-room
name_member-requires-clause-room g c member =
    let h = c.args.heap.now in
    let x = c.requires.agrees in
    let s : Scene = scene h.space h.memory h.marks c.args.queue.now 0 [] in
    let below : c.loop-u.u < 64 = omega arith in
    group_left s c.args.set c.args.acts.now c.loop-u.acts c.loop-u.u below x.4.sizes.queues c.loop-u.invariant.named
    c.requires.room

pub loop-u-preserved : goal.loop-u-preserved
loop-u-preserved g c =
    let h = c.args.heap.now in
    let s : Scene = scene h.space h.memory h.marks c.args.queue.now 0 [] in
    record {
      named = group_next s c.args.set c.args.acts.now c.loop-u.acts c.name_member.new.acts c.loop-u.u
          c.loop-u.invariant.named c.name_member.ensures.named;
    }

pub returns : goal.returns
returns g c =
    let h = c.args.heap.now in
    let s : Scene = scene h.space h.memory h.marks c.args.queue.now 0 [] in
    let last : c.loop-u.u ≡ 64 = omega arith in
    record {
      named = c.loop-u.invariant.named
          ∙ ap (λ n. with_names c.args.acts.now (names_below s c.args.set n)) last;
    }
