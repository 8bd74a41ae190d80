use Rattle.std.proofs.Common.{◌≡◌, inl, inr, ◌-◌, ◌==◌, sym, ◌∙◌, ap, subst, arith, if◌then◌else◌}
use Rattle.std.specs.Prelude.{None, Some, slice_index}
use Rattle.ap_base.specs.References.{reference_word}
use Rattle.twin_forms.specs.Table.{entry, Leads, Names, state_in}
use Rattle.twin_forms.specs.Sights.{sight}
use Rattle.twin_forms.proofs.Led.{even_moved}
use Rattle.twin_forms.proofs.States.{from_ordinary, from_claimed, from_copying, from_converted, from_durable}
use Rattle.twin_heap.proofs.Reading.{there, is_object, not_null, claimer_none, claimer_some, claims_is, by_index, by_line}
use Rattle.twin_heap.proofs.heap.TwinHeap.claimed_by.Goals as goal

pub state_at-requires : goal.state_at-requires
state_at-requires g c = let s = c.args.self.now.space in let m = c.args.self.now.memory in let k = c.args.self.now.marks in
    record { object = is_object s m k c.in-Volatile.at (subst (λ x. Leads (sight s m k) (reference_word x)) c.in-Volatile.is c.requires.object) }

pub returns-in-Claimed : goal.returns-in-Claimed
returns-in-Claimed g c = let s = c.args.self.now.space in let m = c.args.self.now.memory in let k = c.args.self.now.marks in
    record {
      claimer = λ es n h ln names.
          let e = entry es n in
          let t = there s m k es n c.in-Volatile.at h ln (by_index (entry es n) c.args.r c.in-Volatile.at c.in-Volatile.is names) in
          let st : c.state_at.result ≡ state_in e = c.state_at.ensures.again (state_in e) t.state in
          claims_is (Some c.in-Claimed.t) es n ln (sym (claimer_some e c.in-Claimed.t (elim c.in-Claimed.is [
            | inl x ↦ (from_claimed e c.in-Claimed.t t.young (sym st ∙ x)).1
            | inr y ↦ (elim y [
              | inl x ↦ (from_copying e c.in-Claimed.t x.0 t.young (h.table.copying n ln) (sym st ∙ x.1)).1
              | inr x ↦ (from_converted e c.in-Claimed.t x.0 t.young (sym st ∙ x.1)).1
            ])
          ])));
    }

pub returns-in-Persistent : goal.returns-in-Persistent
returns-in-Persistent g c = let s = c.args.self.now.space in let m = c.args.self.now.memory in let k = c.args.self.now.marks in
    record {
      claimer = λ es n h ln names.
          let x = even_moved (entry es n) c.in-Persistent.line (by_line (entry es n) c.args.r c.in-Persistent.line c.in-Persistent.is names) in
          let o : c.owner.result ≡ (entry es n).owner = c.owner.ensures ∙ ap (λ l. slice_index k.owners l) (sym x.1) ∙ (h.sits n ln).copy_owner (omega (arith, x.0)) in
          claims_is c.thread_of.result es n ln (c.thread_of.ensures ∙ ap (λ o. if o == 0 then None else Some (o - 1)) o);
    }

pub returns-in-Ordinary : goal.returns-in-Ordinary
returns-in-Ordinary g c = let s = c.args.self.now.space in let m = c.args.self.now.memory in let k = c.args.self.now.marks in
    record {
      claimer = λ es n h ln names.
          let e = entry es n in
          let t = there s m k es n c.in-Volatile.at h ln (by_index (entry es n) c.args.r c.in-Volatile.at c.in-Volatile.is names) in
          let st : c.state_at.result ≡ state_in e = c.state_at.ensures.again (state_in e) t.state in
          claims_is None es n ln (sym (claimer_none e (elim c.in-Ordinary.is [
            | inl x ↦ (from_ordinary e t.young (sym st ∙ x)).1
            | inr x ↦ (from_durable e x.0 t.young (sym st ∙ x.1)).1
          ])));
    }

pub returns-in-Null : goal.returns-in-Null
returns-in-Null g c = record {
  claimer = λ es n h ln names. absurd (not_null (entry es n) (subst (λ x. Names (entry es n) (reference_word x)) c.in-Null.is names));
}
