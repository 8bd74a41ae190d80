use Rattle.std.proofs.Common.{◌≡◌, inl, inr, ◌+◌, sym, ◌∙◌, ap, subst, arith}
use Rattle.std.specs.Prelude.{slice_index}
use Rattle.ap_base.specs.References.{reference_word}
use Rattle.twin_forms.specs.Table.{entry, Leads, state_in, line_of}
use Rattle.twin_forms.specs.Sights.{sight}
use Rattle.twin_forms.proofs.States.{from_ordinary, from_claimed, from_copying, from_converted, from_durable}
use Rattle.twin_heap.proofs.Reading.{there, is_object, by_index}
use Rattle.twin_heap.proofs.heap.TwinHeap.copied_line.Goals as goal

pub state_at-requires : goal.state_at-requires
state_at-requires g c = let s = c.args.self.now.space in let m = c.args.self.now.memory in let k = c.args.self.now.marks in
    record { object = is_object s m k c.in-Volatile.at (subst (λ x. Leads (sight s m k) (reference_word x)) c.in-Volatile.is (let q = c.requires.slot in (q.0, q.1, q.2, q.3, q.4))) }

pub slot_of-requires-in-Converted : goal.slot_of-requires-in-Converted
slot_of-requires-in-Converted g c = let s = c.args.self.now.space in let m = c.args.self.now.memory in let k = c.args.self.now.marks in
    let q = c.requires.slot in
    let es = q.0 in
    let n = q.1 in
    let h = q.2 in
    let ln = q.3 in
    let li = q.5 in
    let e = entry es n in
    let t = there s m k es n c.in-Volatile.at h ln (by_index (entry es n) c.args.r c.in-Volatile.at c.in-Volatile.is q.4) in
    let st : c.state_at.result ≡ state_in e = c.state_at.ensures.again (state_in e) t.state in
    let x : (e.stage ≡ 2) × (e.line ≡ c.in-Converted.line) = (elim c.in-Converted.is [
      | inl y ↦ (let z = from_converted e y.0 c.in-Converted.line t.young (sym st ∙ y.1) in (z.0, z.2))
      | inr y ↦ (let z = from_durable e c.in-Converted.line t.young (sym st ∙ y) in (z.0, z.2))
    ]) in
    let b = h.table.copy_in n ln (omega (arith, x.0)) in
    let f = h.table.few_lines in
    omega (arith, b, f, x.1, li)

pub returns-in-Copying-clause-none : goal.returns-in-Copying-clause-none
returns-in-Copying-clause-none g c = let s = c.args.self.now.space in let m = c.args.self.now.memory in let k = c.args.self.now.marks in
    λ es n h ln names none has.
    let e = entry es n in
    let t = there s m k es n c.in-Volatile.at h ln (by_index (entry es n) c.args.r c.in-Volatile.at c.in-Volatile.is names) in
    let st : c.state_at.result ≡ state_in e = c.state_at.ensures.again (state_in e) t.state in
    let x = from_copying e c.in-Copying.field-0 c.in-Copying.line t.young (h.table.copying n ln) (sym st ∙ c.in-Copying.is) in
    let most = c.line_done.ensures.none none in
    let count : slice_index k.copies c.in-Copying.line ≡ e.copied = ap (λ l. slice_index k.copies l) (sym x.2) ∙ (h.sits n ln).count x.0 in
    elim has [ inl y ↦ omega (arith, y, x.0) | inr y ↦ omega (arith, y.1, most, count) ]

pub returns-in-Ordinary-clause-none : goal.returns-in-Ordinary-clause-none
returns-in-Ordinary-clause-none g c = let s = c.args.self.now.space in let m = c.args.self.now.memory in let k = c.args.self.now.marks in
    λ es n h ln names none has.
    let e = entry es n in
    let t = there s m k es n c.in-Volatile.at h ln (by_index (entry es n) c.args.r c.in-Volatile.at c.in-Volatile.is names) in
    let st : c.state_at.result ≡ state_in e = c.state_at.ensures.again (state_in e) t.state in
    let x : e.stage ≡ 0 = (elim c.in-Ordinary.is [
      | inl y ↦ (from_ordinary e t.young (sym st ∙ y)).0
      | inr y ↦ (from_claimed e y.0 t.young (sym st ∙ y.1)).0
    ]) in
    elim has [ inl y ↦ omega (arith, y, x) | inr y ↦ omega (arith, y.0, x) ]

pub returns-in-Converted-clause-copied : goal.returns-in-Converted-clause-copied
returns-in-Converted-clause-copied g c = let s = c.args.self.now.space in let m = c.args.self.now.memory in let k = c.args.self.now.marks in
    λ es n h ln names li.
    let e = entry es n in
    let t = there s m k es n c.in-Volatile.at h ln (by_index (entry es n) c.args.r c.in-Volatile.at c.in-Volatile.is names) in
    let st : c.state_at.result ≡ state_in e = c.state_at.ensures.again (state_in e) t.state in
    let x : (e.stage ≡ 2) × (e.line ≡ c.in-Converted.line) = (elim c.in-Converted.is [
      | inl y ↦ (let z = from_converted e y.0 c.in-Converted.line t.young (sym st ∙ y.1) in (z.0, z.2))
      | inr y ↦ (let z = from_durable e c.in-Converted.line t.young (sym st ∙ y) in (z.0, z.2))
    ]) in
    (inl (omega (arith, x.0)), c.slot_of-in-Converted.ensures.line ∙ ap (λ l. l + line_of c.args.index) (sym x.1))
