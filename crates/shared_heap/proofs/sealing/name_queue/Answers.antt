use Rattle.std.proofs.Common.{[], ◌∙◌, ap, sym, arith}
use Rattle.std.proofs.lemmas.Option.{slice_get_within}
use Rattle.convert_queue.specs.Queues.{Queued, queue_of}
use Rattle.convert_words.specs.Scenes.{Scene, scene}
use Rattle.converter.specs.Laws.{number_at}
use Rattle.converter.proofs.Goings.{past}
use Rattle.converter.proofs.Placed.{few_queued}
use Rattle.shared_heap.specs.Conversions.{with_names}
use Rattle.shared_heap.proofs.Naming.{leads_to, name_left, names_end, next_named, none_named, number_of_queued}
use Rattle.shared_heap.proofs.sealing.name_queue.Goals as goal

pub loop-i-init : goal.loop-i-init
loop-i-init g c =
    let h = c.args.heap.now in
    let s : Scene = scene h.space h.memory h.marks c.args.queue.now 0 [] in
    record {
      named = none_named (λ (x : Queued). number_at s x.0) (queue_of c.args.queue.now c.args.u) c.args.acts.now;
      before = omega arith;
    }

pub returns-in_default : goal.returns-in_default
returns-in_default g c =
    let h = c.args.heap.now in
    let q = queue_of c.args.queue.now c.args.u in
    let s : Scene = scene h.space h.memory h.marks c.args.queue.now 0 [] in
    record {
      named = c.loop-i.invariant.named ∙ ap (with_names c.args.acts.now)
          (names_end (λ (x : Queued). number_at s x.0) q c.loop-i.i c.loop-i.invariant.before
          (past q c.loop-i.i c.in_default.ensures.queued));
    }

pub number_of-requires : goal.number_of-requires
number_of-requires g c =
    let h = c.args.heap.now in
    let x = c.requires.agrees in
    let s : Scene = scene h.space h.memory h.marks c.args.queue.now x.0 x.1 in
    record { object = leads_to s x.2 c.args.u c.loop-i.i c.in-Some.item x.4 c.in-Some.ensures.queued }

pub name-requires : goal.name-requires
name-requires g c =
    let h = c.args.heap.now in
    let q = queue_of c.args.queue.now c.args.u in
    let s : Scene = scene h.space h.memory h.marks c.args.queue.now 0 [] in
    name_left (λ (x : Queued). number_at s x.0) q c.args.acts.now c.loop-i.acts c.loop-i.i c.loop-i.invariant.named
    (slice_get_within q c.loop-i.i c.in-Some.item (sym c.in-Some.ensures.queued)) c.requires.room

pub loop-i-preserved : goal.loop-i-preserved
loop-i-preserved g c =
    let h = c.args.heap.now in
    let q = queue_of c.args.queue.now c.args.u in
    let x = c.requires.agrees in
    let s : Scene = scene h.space h.memory h.marks c.args.queue.now 0 [] in
    let within = slice_get_within q c.loop-i.i c.in-Some.item (sym c.in-Some.ensures.queued) in
    record {
      named = next_named (λ (x : Queued). number_at s x.0) q c.args.acts.now c.loop-i.acts c.name.new.self c.loop-i.i
          c.number_of.result c.loop-i.invariant.named c.name.ensures.named
          (number_of_queued (scene h.space h.memory h.marks c.args.queue.now x.0 x.1) x.2 c.args.u c.loop-i.i
          c.number_of.result c.in-Some.item x.4 c.in-Some.ensures.queued c.number_of.ensures.number);
      before = omega (arith, within);
    }

pub returns : goal.returns
returns g c =
    let h = c.args.heap.now in
    let q = queue_of c.args.queue.now c.args.u in
    let x = c.requires.agrees in
    let s : Scene = scene h.space h.memory h.marks c.args.queue.now 0 [] in
    let few = few_queued (scene h.space h.memory h.marks c.args.queue.now x.0 x.1) x.2 c.args.u x.4 x.3 in
    record {
      named = c.loop-i.invariant.named ∙ ap (with_names c.args.acts.now)
          (names_end (λ (x : Queued). number_at s x.0) q c.loop-i.i c.loop-i.invariant.before (omega (arith, few)));
    }
