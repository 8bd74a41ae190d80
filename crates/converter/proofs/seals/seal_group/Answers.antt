use Rattle.std.proofs.Common.{refl, ap}
use Rattle.twin_forms.specs.Sights.{Twin, sight, view_of}
use Rattle.convert_queue.specs.Queues.{Queues}
use Rattle.convert_words.specs.Sealing.{Released}
use Rattle.convert_words.specs.Scenes.{Scene, scene}
use Rattle.convert_words.proofs.Basics.{few_threads}
use Rattle.convert_words.proofs.Converted.{sealed_converts}
use Rattle.converter.proofs.Sealed.{sealed_none, sealed_none_of, sealed_all}
use Rattle.converter.proofs.seals.seal_group.Goals as goal

pub seal_threads-requires : goal.seal_threads-requires
seal_threads-requires g c =
    let h = c.args.heap.now in
    let q = c.requires.agrees in
    let s : Scene = scene h.space h.memory h.marks c.args.queue.now q.0 q.1 in
    record { partly = (view_of s.heap, q.2, q.2, sealed_none s q.2 c.args.set q.4 q.3 c.requires.settled) }

pub returns-clause-converts : goal.returns-clause-converts
returns-clause-converts g c = λ free keys es a.
    let h = c.args.heap.now in
    let old = c.args.queue.now in
    let s : Scene = scene h.space h.memory h.marks old free keys in
    let r = c.requires.agrees in
    let n = c.seal_threads.new.heap in
    let new : Twin = record { space = n.space; memory = n.memory; marks = n.marks } in
    let begun = sealed_none_of s (scene h.space h.memory h.marks old r.0 r.1) es r.2 c.args.set a r.4 refl refl r.3 c.requires.settled in
    let x = c.seal_threads.ensures.sealed (view_of s.heap) es es begun in
    let told = c.seal.ensures in
    let same = told.same in
    let released : Released c.args.set old c.seal.new.self = record {
      empty = told.emptied;
      kept = told.kept;
      no_more = told.no_more;
      needed = told.others;
      queues = told.long.0;
      needs = told.long.1;
      places = ap (λ (y : Queues). y.places) same;
      phases = ap (λ (y : Queues). y.phases) same;
      marks = ap (λ (y : Queues). y.marks) same;
    } in (
      x.0,
      sealed_converts s new c.seal.new.self es x.0 c.args.t c.args.set c.ranges.set.fits c.requires.group c.requires.settled x.1.moved
          (sealed_all old (view_of s.heap) es c.args.set (sight n.space n.memory n.marks) x.0 (λ t m claimed. few_threads (view_of s.heap) es t m a.lies claimed) x.1)
          c.seal_threads.ensures.memory c.seal_threads.ensures.kinds c.seal_threads.ensures.left released a,
    )
