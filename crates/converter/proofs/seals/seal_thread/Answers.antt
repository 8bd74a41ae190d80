use Rattle.std.proofs.Common.{◌+◌, List, refl, sym, ◌∙◌, ap, subst, arith}
use Rattle.twin_forms.specs.Table.{Entry, View}
use Rattle.twin_forms.specs.Sights.{sight}
use Rattle.convert_queue.specs.Threads.{has}
use Rattle.converter.specs.Sealing.{AreSealedTo}
use Rattle.converter.proofs.Sealed.{sealed_past}
use Rattle.converter.proofs.seals.seal_thread.Goals as goal

pub returns-in_default-clause-sealed : goal.returns-in_default-clause-sealed
returns-in_default-clause-sealed g c = λ v0 es0 es s. absurd (let past = c.in_default.ensures.none.0 refl in let few = c.requires.thread in omega (arith, past, few))

pub returns-then-not-is_member-clause-sealed : goal.returns-then-not-is_member-clause-sealed
returns-then-not-is_member-clause-sealed g c = λ v0 es0 es s.
    let h = c.args.heap.now in
    (es, sealed_past c.args.queue.now v0 es0 c.args.set c.args.u (sight h.space h.memory h.marks) es s (sym c.is_member.ensures ∙ c.if-not-is_member.true))

pub seal_objects-requires-clause-member : goal.seal_objects-requires-clause-member
seal_objects-requires-clause-member g c = ap (has c.args.set) c.in-Some.ensures.same ∙ sym c.is_member.ensures ∙ c.if-not-is_member.false

pub seal_objects-requires-clause-partly : goal.seal_objects-requires-clause-partly
seal_objects-requires-clause-partly g c =
    let h = c.args.heap.now in
    subst (λ y. (v0 : View) × (es0 es : List Entry) × AreSealedTo c.args.queue.now v0 es0 c.args.set y 0 (sight h.space h.memory h.marks) es) (sym c.in-Some.ensures.same) c.requires.partly

pub returns-clause-sealed : goal.returns-clause-sealed
returns-clause-sealed g c =
    let h = c.args.heap.now in
    let n = c.seal_objects.new.heap in
    subst (λ y. (v0 : View) (es0 es : List Entry) → AreSealedTo c.args.queue.now v0 es0 c.args.set y 0 (sight h.space h.memory h.marks) es
    → (es' : List Entry) × AreSealedTo c.args.queue.now v0 es0 c.args.set (y + 1) 0 (sight n.space n.memory n.marks) es') c.in-Some.ensures.same c.seal_objects.ensures.sealed
