use Rattle.std.proofs.Common.{ℕ, List, refl}
use Rattle.twin_forms.specs.Table.{Entry}
use Rattle.convert_words.specs.declared.step.ConvertStep.{ConvertStep}
use Rattle.convert_words.specs.Converting.{Converts}
use Rattle.convert_words.specs.Scenes.{scene, AgreesAt}
use Rattle.converter.proofs.Calling.{known_same}
use Rattle.converter.proofs.Events.{ok_on}
use Rattle.converter.proofs.flush.flush_next.Goals as goal

pub write_next-requires-clause-stored : goal.write_next-requires-clause-stored
write_next-requires-clause-stored g c = c.in-Some.ensures.some.0

pub returns-in-Some-clause-converts : goal.returns-in-Some-clause-converts
returns-in-Some-clause-converts g c =
    let h = c.args.heap.now in
    let new = c.write_next.new in
    ok_on c.write_next.result
    (λ (x : ConvertStep). (free : ℕ) (keys : List ℕ) (es : List Entry) → AgreesAt (scene h.space h.memory h.marks c.args.queue.now free keys) es
    → Converts c.args.t x (scene h.space h.memory h.marks c.args.queue.now free keys) (scene new.heap.space new.heap.memory new.heap.marks new.queue free keys) es es)
    (λ (x : ConvertStep). (free : ℕ) (keys : List ℕ) (es : List Entry) → AgreesAt (scene h.space h.memory h.marks c.args.queue.now free keys) es
    → (es' : List Entry) × Converts c.args.t x (scene h.space h.memory h.marks c.args.queue.now free keys) (scene new.heap.space new.heap.memory new.heap.marks new.queue free keys) es es')
    c.write_next.ensures.converts (λ x f free keys es a. (es, f free keys es a))

pub fence_next-requires-clause-all : goal.fence_next-requires-clause-all
fence_next-requires-clause-all g c = c.in_default.ensures.none refl

pub returns-then-not-is_clean-clause-converts : goal.returns-then-not-is_clean-clause-converts
returns-then-not-is_clean-clause-converts g c =
    let h = c.args.heap.now in
    let new = c.fence_next.new in
    ok_on c.fence_next.result
    (λ (x : ConvertStep). (free : ℕ) (keys : List ℕ) (es : List Entry) → AgreesAt (scene h.space h.memory h.marks c.args.queue.now free keys) es
    → Converts c.args.t x (scene h.space h.memory h.marks c.args.queue.now free keys) (scene new.heap.space new.heap.memory new.heap.marks new.queue free keys) es es)
    (λ (x : ConvertStep). (free : ℕ) (keys : List ℕ) (es : List Entry) → AgreesAt (scene h.space h.memory h.marks c.args.queue.now free keys) es
    → (es' : List Entry) × Converts c.args.t x (scene h.space h.memory h.marks c.args.queue.now free keys) (scene new.heap.space new.heap.memory new.heap.marks new.queue free keys) es es')
    c.fence_next.ensures.converts (λ x f free keys es a. (es, f free keys es a))

pub returns-clause-known : goal.returns-clause-known
returns-clause-known g c = known_same c.args.heap.now.memory c.seal_next.new.heap.memory c.seal_next.ensures.memory c.requires.known
