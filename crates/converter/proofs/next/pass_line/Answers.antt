use Rattle.std.proofs.Common.{inl, inr, ℕ, refl, ◌∙◌, ap, arith}
use Rattle.twin_forms.specs.Table.{entry}
use Rattle.convert_queue.specs.Queues.{Queues, place_of}
use Rattle.convert_words.specs.Scenes.{Scene, scene}
use Rattle.converter.proofs.Goings.{stays}
use Rattle.converter.proofs.Placed.{holds, copying_here, old_here, claims_here, passes}
use Rattle.converter.proofs.next.pass_line.Goals as goal

pub slots_at-slots-requires : goal.slots_at-slots-requires
slots_at-slots-requires g c =
    let q = c.requires.agrees in
    let s : Scene = scene c.args.heap.now.space c.args.heap.now.memory c.args.heap.now.marks c.args.queue.now q.0 q.1 in
    let x = q.5 in
    let one = (copying_here s q.2 c.args.t q.3 q.4 x.is x.phase).0 in
    record { object = (q.2, q.3, q.4.lies, x.is.claimed.0, (omega (arith, one), x.at)) }

pub find_claim-requires : goal.find_claim-requires
find_claim-requires g c =
    let q = c.requires.agrees in
    let s : Scene = scene c.args.heap.now.space c.args.heap.now.memory c.args.heap.now.marks c.args.queue.now q.0 q.1 in
    let x = q.5 in
    let one = (copying_here s q.2 c.args.t q.3 q.4 x.is x.phase).0 in
    let slots = c.slots_at-slots.ensures.slots q.2 q.3 q.4.lies x.is.claimed.0 (omega (arith, one), x.at) in
    let end = c.end_slot-to.ensures.end in
    record { object = (q.2, q.3, old_here s q.2 c.args.t c.args.object c.args.copied q.3 c.end_slot-to.result q.4 x (omega (arith, slots, end))) }

pub note_needs-requires : goal.note_needs-requires
note_needs-requires g c =
    let q = c.requires.agrees in
    let s : Scene = scene c.args.heap.now.space c.args.heap.now.memory c.args.heap.now.marks c.args.queue.now q.0 q.1 in
    let x = q.5 in
    let one = (copying_here s q.2 c.args.t q.3 q.4 x.is x.phase).0 in
    let slots = c.slots_at-slots.ensures.slots q.2 q.3 q.4.lies x.is.claimed.0 (omega (arith, one), x.at) in
    let end = c.end_slot-to.ensures.end in
    record { object = (q.2, q.3, old_here s q.2 c.args.t c.args.object c.args.copied q.3 c.end_slot-to.result q.4 x (omega (arith, slots, end))) }

pub returns-in-Some-clause-claim : goal.returns-in-Some-clause-claim
returns-in-Some-clause-claim g c = λ free keys es n a x.
    let s : Scene = scene c.args.heap.now.space c.args.heap.now.memory c.args.heap.now.marks c.args.queue.now free keys in
    let one = (copying_here s es c.args.t n a x.is x.phase).0 in
    let slots = c.slots_at-slots.ensures.slots es n a.lies x.is.claimed.0 (omega (arith, one), x.at) in
    let line = ap (λ (y : ℕ × ℕ). y.1) c.place-n.ensures.place in
    let first = c.first_slot-from.ensures.first in
    let end = c.end_slot-to.ensures.end in
    let h = holds (place_of c.args.queue.now c.args.t).1 (entry es n).slots c.first_slot-from.result c.end_slot-to.result (omega (arith, first, slots, line)) (omega (arith, end, slots, line)) in
    claims_here s es c.args.t c.args.object c.args.copied n c.first_slot-from.result c.end_slot-to.result c.in-Some.at a x h
    (c.in-Some.ensures.some es n (old_here s es c.args.t c.args.object c.args.copied n c.end_slot-to.result a x h.most))

pub returns-in-Some-clause-goes_on : goal.returns-in-Some-clause-goes_on
returns-in-Some-clause-goes_on g c = λ free keys es n a x. stays (scene c.args.heap.now.space c.args.heap.now.memory c.args.heap.now.marks c.args.queue.now free keys) es c.args.t a

pub returns-in-Some-clause-phase : goal.returns-in-Some-clause-phase
returns-in-Some-clause-phase g c = c.requires.agrees.5.phase

pub returns-clause-goes_on : goal.returns-clause-goes_on
returns-clause-goes_on g c = λ free keys es n a x.
    let s : Scene = scene c.args.heap.now.space c.args.heap.now.memory c.args.heap.now.marks c.args.queue.now free keys in
    let one = (copying_here s es c.args.t n a x.is x.phase).0 in
    let slots = c.slots_at-slots.ensures.slots es n a.lies x.is.claimed.0 (omega (arith, one), x.at) in
    let line = ap (λ (y : ℕ × ℕ). y.1) c.place-n.ensures.place in
    let first = c.first_slot-from.ensures.first in
    let end = c.end_slot-to.ensures.end in
    let h = holds (place_of c.args.queue.now c.args.t).1 (entry es n).slots c.first_slot-from.result c.end_slot-to.result (omega (arith, first, slots, line)) (omega (arith, end, slots, line)) in
    let old = old_here s es c.args.t c.args.object c.args.copied n c.end_slot-to.result a x h.most in
    let noted = c.note_needs.ensures in
    passes s c.note_needs.new.queue c.go_to.new.queue es c.args.t c.args.object c.args.copied n c.first_slot-from.result c.end_slot-to.result c.place-n.result.0 a x h
    (λ k m lo hi r. c.in_default.ensures.none refl es n k m old lo hi r)
    noted.same noted.long noted.kept
    (λ u b need. elim (noted.met u b need) [ inl y ↦ inl y | inr y ↦ inr (y.0, y.1, y.2 es n old) ])
    (λ k m lo hi r taken. noted.all es n k m old lo hi r taken)
    (ap (λ (y : ℕ × ℕ). y.0) c.place-n.ensures.place) c.go_to.ensures.goes

pub returns-clause-phase : goal.returns-clause-phase
returns-clause-phase g c = c.go_to.ensures.goes.phase

pub returns-clause-place : goal.returns-clause-place
returns-clause-place g c = λ none. (c.go_to.ensures.goes.at ∙ ap (λ (y : ℕ × ℕ). y.0) c.place-n.ensures.place, c.go_to.ensures.goes.line)

pub returns-clause-queues : goal.returns-clause-queues
returns-clause-queues g c = c.go_to.ensures.goes.queues ∙ ap (λ (q : Queues). q.queues) c.note_needs.ensures.same
