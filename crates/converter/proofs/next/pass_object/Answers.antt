use Rattle.std.proofs.Common.{◌≡◌, ◌+◌, ◌/◌, ℕ, ◌∙◌, ap, subst, arith}
use Rattle.std.specs.Prelude.{Some, slice_get}
use Rattle.twin_forms.specs.Sights.{view_of}
use Rattle.convert_queue.specs.declared.phase.Phase.TheVariants.{Repair}
use Rattle.convert_queue.specs.Queues.{queue_of, place_of}
use Rattle.convert_words.specs.Steps.{GoesTo}
use Rattle.convert_words.specs.Scenes.{Scene, scene}
use Rattle.convert_words.proofs.Basics.{young}
use Rattle.converter.proofs.Goings.{stays, found, past}
use Rattle.converter.proofs.Placed.{Counts, few_queued, passes_object, within_here}
use Rattle.converter.proofs.next.pass_object.Goals as goal

pub slots_at-requires : goal.slots_at-requires
slots_at-requires g c =
    let q = c.requires.agrees in
    let s : Scene = scene c.args.heap.now.space c.args.heap.now.memory c.args.heap.now.marks c.args.queue.now q.0 q.1 in
    let f = found s q.2 c.args.t c.place-n.result.0 c.in-Some.item q.4 c.in-Some.ensures.queued in
    record { object = (q.2, f.0, q.4.lies, f.1.claimed.0, (young (view_of s.heap) q.2 c.args.t f.0 q.4.lies f.1.claimed, f.2)) }

pub overflow_add-n : goal.overflow_add-n
overflow_add-n g c =
    let q = c.requires.agrees in
    let s : Scene = scene c.args.heap.now.space c.args.heap.now.memory c.args.heap.now.marks c.args.queue.now q.0 q.1 in
    let f = found s q.2 c.args.t c.place-n.result.0 c.in-Some.item q.4 c.in-Some.ensures.queued in
    let few = few_queued s q.2 c.args.t q.4 q.3 in
    let lt = f.1.within in
    omega (arith, few, lt)

pub returns-in_default-clause-goes_on : goal.returns-in_default-clause-goes_on
returns-in_default-clause-goes_on g c = λ free keys es a. stays (scene c.args.heap.now.space c.args.heap.now.memory c.args.heap.now.marks c.args.queue.now free keys) es c.args.t a

pub returns-in_default-clause-within : goal.returns-in_default-clause-within
returns-in_default-clause-within g c = λ free keys es n a is.
    let all = past (queue_of c.args.queue.now c.args.t) c.place-n.result.0 c.in_default.ensures.queued in
    let at = ap (λ (x : ℕ × ℕ). x.0) c.place-n.ensures.place in
    let lt = is.within in
    absurd (omega (arith, all, at, lt))

pub returns-then-line-count-clause-goes_on : goal.returns-then-line-count-clause-goes_on
returns-then-line-count-clause-goes_on g c = λ free keys es a. stays (scene c.args.heap.now.space c.args.heap.now.memory c.args.heap.now.marks c.args.queue.now free keys) es c.args.t a

pub returns-then-line-count-clause-within : goal.returns-then-line-count-clause-within
returns-then-line-count-clause-within g c = λ free keys es n a is.
    let q = c.args.queue.now in
    let s : Scene = scene c.args.heap.now.space c.args.heap.now.memory c.args.heap.now.marks q free keys in
    let item : Some c.in-Some.item ≡ slice_get (queue_of q c.args.t) (place_of q c.args.t).0 = c.in-Some.ensures.queued ∙
    ap (λ (x : ℕ × ℕ). slice_get (queue_of q c.args.t) x.0) c.place-n.ensures.place in
    let counts : Counts es c.in-Some.item.0 c.count_of-count.result = λ m lm low at. c.count_of-count.ensures.count ∙ ap (λ x. x / 8 + 1) (c.slots_at.ensures.slots es m a.lies lm (low, at)) in
    let left = c.if-line-count.true in
    let line = ap (λ (x : ℕ × ℕ). x.1) c.place-n.ensures.place in
    within_here s es c.args.t c.in-Some.item.0 c.in-Some.item.1 c.count_of-count.result n a item counts (omega (arith, left, line)) is

pub returns-clause-goes_on : goal.returns-clause-goes_on
returns-clause-goes_on g c = λ free keys es a.
    let q = c.args.queue.now in
    let s : Scene = scene c.args.heap.now.space c.args.heap.now.memory c.args.heap.now.marks q free keys in
    let item : Some c.in-Some.item ≡ slice_get (queue_of q c.args.t) (place_of q c.args.t).0 = c.in-Some.ensures.queued ∙
    ap (λ (x : ℕ × ℕ). slice_get (queue_of q c.args.t) x.0) c.place-n.ensures.place in
    let counts : Counts es c.in-Some.item.0 c.count_of-count.result = λ m lm low at. c.count_of-count.ensures.count ∙ ap (λ x. x / 8 + 1) (c.slots_at.ensures.slots es m a.lies lm (low, at)) in
    let left = c.if-line-count.false in
    let line = ap (λ (x : ℕ × ℕ). x.1) c.place-n.ensures.place in
    let goes : GoesTo c.args.t Repair ((place_of q c.args.t).0 + 1) 0 q c.go_to.new.queue = subst
    (λ (x : ℕ × ℕ). GoesTo c.args.t Repair (x.0 + 1) 0 q c.go_to.new.queue) c.place-n.ensures.place
    c.go_to.ensures.goes in
    passes_object s c.go_to.new.queue es c.args.t c.in-Some.item.0 c.in-Some.item.1 c.count_of-count.result a c.requires.phase item counts (omega (arith, left, line)) goes

pub returns-clause-phase : goal.returns-clause-phase
returns-clause-phase g c = c.go_to.ensures.goes.phase

pub returns-clause-within : goal.returns-clause-within
returns-clause-within g c = λ free keys es n a is. let l = c.go_to.ensures.goes.line in omega (arith, l)
