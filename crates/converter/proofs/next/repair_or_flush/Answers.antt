use Rattle.std.proofs.Common.{◌≡◌, ◌≤◌, ℕ, length, sym, ◌∙◌, ap, subst}
use Rattle.std.specs.Prelude.{Some, slice_get}
use Rattle.convert_queue.specs.Queues.{queue_of, place_of}
use Rattle.convert_words.specs.Scenes.{Scene, scene}
use Rattle.converter.proofs.Goings.{stays, past}
use Rattle.converter.proofs.Placed.{flushes, to_repair_here}
use Rattle.converter.specs.Working.{IsToRepair}
use Rattle.converter.proofs.next.repair_or_flush.Goals as goal

pub returns-in-Some-clause-goes_on : goal.returns-in-Some-clause-goes_on
returns-in-Some-clause-goes_on g c = λ free keys es a. stays (scene c.args.heap.now.space c.args.heap.now.memory c.args.heap.now.marks c.args.queue.now free keys) es c.args.t a

pub returns-in-Some-clause-work : goal.returns-in-Some-clause-work
returns-in-Some-clause-work g c = λ free keys es a within.
    let q = c.args.queue.now in
    let s : Scene = scene c.args.heap.now.space c.args.heap.now.memory c.args.heap.now.marks q free keys in
    let item : Some c.in-Some.item ≡ slice_get (queue_of q c.args.t) (place_of q c.args.t).0 = c.in-Some.ensures.queued ∙
    ap (λ (x : ℕ × ℕ). slice_get (queue_of q c.args.t) x.0) c.place-n.ensures.place in
    subst (λ (x : ℕ × ℕ). IsToRepair s es c.args.t c.in-Some.item.0 c.in-Some.item.1 x.1) (sym c.place-n.ensures.place)
    (to_repair_here s es c.args.t c.in-Some.item.0 c.in-Some.item.1 a c.requires.phase item within)

pub returns-in-None-clause-goes_on : goal.returns-in-None-clause-goes_on
returns-in-None-clause-goes_on g c = λ free keys es a.
    let q = c.args.queue.now in
    let s : Scene = scene c.args.heap.now.space c.args.heap.now.memory c.args.heap.now.marks q free keys in
    let all = past (queue_of q c.args.t) c.place-n.result.0 c.in-None.ensures.queued in
    flushes s c.go_to.new.queue es c.args.t a c.requires.phase (subst (λ (x : ℕ × ℕ). length (queue_of q c.args.t) ≤ x.0) c.place-n.ensures.place all) c.go_to.ensures.goes

pub returns-in-None-clause-work : goal.returns-in-None-clause-work
returns-in-None-clause-work g c = λ free keys es a within. c.go_to.ensures.goes.phase
