use Rattle.std.proofs.Common.{◌≡◌, ◌≤◌, ℕ, length, ◌∙◌, ap, subst}
use Rattle.std.specs.Prelude.{Some, slice_get}
use Rattle.convert_queue.specs.Queues.{queue_of, place_of}
use Rattle.convert_words.specs.Scenes.{Scene, scene}
use Rattle.converter.proofs.Goings.{past, goes_on_on}
use Rattle.converter.proofs.Placed.{repairs, object_here}
use Rattle.converter.proofs.next.in_copy.Goals as goal

pub copy_work-requires : goal.copy_work-requires
copy_work-requires g c =
    let h = c.args.heap.now in
    let q = c.requires.agrees in
    let s : Scene = scene h.space h.memory h.marks c.args.queue.now q.0 q.1 in
    let item : Some c.in-Some.item ≡ slice_get (queue_of c.args.queue.now c.args.t) (place_of c.args.queue.now c.args.t).0
    = c.in-Some.ensures.queued ∙ ap (λ (x : ℕ × ℕ). slice_get (queue_of c.args.queue.now c.args.t) x.0)
    c.place-n.ensures.place in
    let x = object_here s q.2 c.args.t c.in-Some.item q.4 c.requires.phase item in
    record { agrees = (q.0, q.1, q.2, x.0, q.4, x.1) }

pub returns-in-Some-clause-goes_on : goal.returns-in-Some-clause-goes_on
returns-in-Some-clause-goes_on g c = λ free keys es a.
    let h = c.args.heap.now in
    let s : Scene = scene h.space h.memory h.marks c.args.queue.now free keys in
    let item : Some c.in-Some.item ≡ slice_get (queue_of c.args.queue.now c.args.t) (place_of c.args.queue.now c.args.t).0
    = c.in-Some.ensures.queued ∙ ap (λ (x : ℕ × ℕ). slice_get (queue_of c.args.queue.now c.args.t) x.0)
    c.place-n.ensures.place in
    let x = object_here s es c.args.t c.in-Some.item a c.requires.phase item in
    c.copy_work.ensures.goes_on free keys es x.0 a x.1

pub returns-in-Some-clause-work : goal.returns-in-Some-clause-work
returns-in-Some-clause-work g c = λ free keys es a.
    let h = c.args.heap.now in
    let s : Scene = scene h.space h.memory h.marks c.args.queue.now free keys in
    let item : Some c.in-Some.item ≡ slice_get (queue_of c.args.queue.now c.args.t) (place_of c.args.queue.now c.args.t).0
    = c.in-Some.ensures.queued ∙ ap (λ (x : ℕ × ℕ). slice_get (queue_of c.args.queue.now c.args.t) x.0)
    c.place-n.ensures.place in
    let x = object_here s es c.args.t c.in-Some.item a c.requires.phase item in
    c.copy_work.ensures.work free keys es x.0 a x.1

pub in_repair-requires-clause-agrees : goal.in_repair-requires-clause-agrees
in_repair-requires-clause-agrees g c =
    let h = c.args.heap.now in
    let q = c.requires.agrees in
    let s : Scene = scene h.space h.memory h.marks c.args.queue.now q.0 q.1 in
    let all = subst (λ (x : ℕ × ℕ). length (queue_of c.args.queue.now c.args.t) ≤ x.0) c.place-n.ensures.place
    (past (queue_of c.args.queue.now c.args.t) c.place-n.result.0 c.in_default.ensures.queued) in
    (q.0, q.1, q.2, q.3, (repairs s c.go_to.new.queue q.2 c.args.t q.4 c.requires.phase all c.go_to.ensures.goes).agrees)

pub in_repair-requires-clause-phase : goal.in_repair-requires-clause-phase
in_repair-requires-clause-phase g c = c.go_to.ensures.goes.phase

pub returns-clause-goes_on : goal.returns-clause-goes_on
returns-clause-goes_on g c = λ free keys es a.
    let h = c.args.heap.now in
    let s : Scene = scene h.space h.memory h.marks c.args.queue.now free keys in
    let all = subst (λ (x : ℕ × ℕ). length (queue_of c.args.queue.now c.args.t) ≤ x.0) c.place-n.ensures.place
    (past (queue_of c.args.queue.now c.args.t) c.place-n.result.0 c.in_default.ensures.queued) in
    let x = repairs s c.go_to.new.queue es c.args.t a c.requires.phase all c.go_to.ensures.goes in
    goes_on_on s (scene h.space h.memory h.marks c.go_to.new.queue free keys)
    (scene h.space h.memory h.marks c.in_repair.new.queue free keys) es c.args.t x
    (c.in_repair.ensures.goes_on free keys es x.agrees)

pub returns-clause-work : goal.returns-clause-work
returns-clause-work g c = λ free keys es a.
    let h = c.args.heap.now in
    let s : Scene = scene h.space h.memory h.marks c.args.queue.now free keys in
    let all = subst (λ (x : ℕ × ℕ). length (queue_of c.args.queue.now c.args.t) ≤ x.0) c.place-n.ensures.place
    (past (queue_of c.args.queue.now c.args.t) c.place-n.result.0 c.in_default.ensures.queued) in
    let x = repairs s c.go_to.new.queue es c.args.t a c.requires.phase all c.go_to.ensures.goes in
    c.in_repair.ensures.work free keys es x.agrees

pub returns-clause-claim : goal.returns-clause-claim
returns-clause-claim g c = λ at e. absurd (c.in_repair.ensures.other at e)
