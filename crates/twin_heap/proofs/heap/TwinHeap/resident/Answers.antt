use Rattle.std.proofs.Common.{◌≡◌, inl, inr, ◌+◌, ◌<◌, ℕ, refl, sym, ◌∙◌, ap, subst, arith}
use Rattle.std.specs.Prelude.{IfSome, IsNone}
use Rattle.line_memory.specs.Memory.{IsResident}
use Rattle.line_memory.specs.declared.memory.Touch.{Touch}
use Rattle.twin_forms.specs.Table.{entry, line_of}
use Rattle.twin_heap.specs.Here.{IsFetched}
use Rattle.twin_heap.proofs.Reading.{if_ok}
use Rattle.twin_heap.proofs.heap.TwinHeap.resident.Goals as goal

pub returns-in-None-clause-ready : goal.returns-in-None-clause-ready
returns-in-None-clause-ready g c = λ _ es n h ln names some.
    let none = c.first_line.ensures.none es n h ln names (subst IsNone (sym c.in-None.is) refl) in
    absurd (omega (arith, some, none))

pub returns-in-Some-clause-ready : goal.returns-in-Some-clause-ready
returns-in-Some-clause-ready g c =
    if_ok c.touch_both.result _ _ (λ (touch : Touch) both ready es n h ln names some.
    let x = subst (λ o. IfSome o (λ (line : ℕ). (0 < (entry es n).stage) × (line ≡ (entry es n).line))) c.in-Some.is (c.first_line.ensures.some es n h ln names) in
    let b = both ready in (
      subst (λ l. IsResident c.touch_both.new.memory l) x.1 b.0,
      subst (λ l. IsResident c.touch_both.new.memory l) (c.slot_of.ensures.line ∙ ap (λ l. l + line_of c.args.index) x.1) b.1,
    )) c.touch_both.ensures.ready

pub returns-in-Some-clause-at_once : goal.returns-in-Some-clause-at_once
returns-in-Some-clause-at_once g c = λ es n h ln names here.
    let m = c.args.self.now.memory in
    let x = subst (λ o. IfSome o (λ (line : ℕ). (0 < (entry es n).stage) × (line ≡ (entry es n).line))) c.in-Some.is (c.first_line.ensures.some es n h ln names) in
    let b = here x.0 in
    c.touch_both.ensures.at_once (subst (λ l. IsResident m l) (sym x.1) b.0)
    (subst (λ l. IsResident m l) (sym (c.slot_of.ensures.line ∙ ap (λ l. l + line_of c.args.index) x.1)) b.1)

pub returns-in-Some-clause-fetched : goal.returns-in-Some-clause-fetched
returns-in-Some-clause-fetched g c =
    let m = c.args.self.now.memory in
    if_ok c.touch_both.result _ _ (λ (touch : Touch) some again es n h ln names.
    let x = subst (λ o. IfSome o (λ (line : ℕ). (0 < (entry es n).stage) × (line ≡ (entry es n).line))) c.in-Some.is (c.first_line.ensures.some es n h ln names) in
    elim (some again) [
      | inl a ↦ inl (subst (λ l. IsFetched l m c.touch_both.new.memory) x.1 a)
      | inr b ↦ inr (subst (λ l. IsFetched l m c.touch_both.new.memory) (c.slot_of.ensures.line ∙ ap (λ l. l + line_of c.args.index) x.1) b)
    ]) c.touch_both.ensures.fetched
