use Rattle.std.proofs.Common.{inl, inr, refl, sym, ◌∙◌, ap, subst, arith}
use Rattle.twin_forms.specs.Sights.{Twin}
use Rattle.twin_forms.specs.Table.{entry, state_in}
use Rattle.twin_forms.specs.Moves.{owned}
use Rattle.twin_forms.proofs.States.{from_ordinary}
use Rattle.space_rows.specs.Worlds.{HoldsOf, spaces_of}
use Rattle.space_rows.proofs.Moving.{as_it_lay, now_or, object_at, ordinary, same_twin, set_holds}
use Rattle.space_rows.proofs.world.World.claim.Goals as goal

pub claim-requires : goal.claim-requires
claim-requires c =
    let w = c.args.self.now in
    let s = spaces_of w.spaces in
    let h = c.requires.holds.1 in
    let es = h.table in
    let o = object_at s es h.whole.stands c.named.result c.in-Volatile.object c.named.ensures.known c.in-Volatile.is in
    record { object = (es, o.n, h.whole.stands.lies, o.below, o.lies) }

pub returns : goal.returns
returns c = record {
  holds = λ set h.
      (let w = c.args.self.now in
      let s = spaces_of w.spaces in
      let es = h.table in
      let o = object_at s es h.whole.stands c.named.result c.in-Volatile.object c.named.ensures.known c.in-Volatile.is in
      let e = entry es o.n in
      let t' : Twin = record { space = c.claim.new.self.space; memory = c.claim.new.self.memory; marks = c.claim.new.self.marks } in
      elim (now_or c.claim.result) [
        | inl now ↦
            (let st = ordinary (state_in e) (sym (c.claim.ensures.answer es o.n h.whole.stands.lies o.below o.lies) ∙ now) in
            let f = from_ordinary e o.lies.0 st in
            set_holds set s t' w.rest w.refs.items w.next w.next w.acts w.entered h o.n (owned c.args.t e) o.below
            (c.claim.ensures.claimed es o.n h.whole.stands.lies o.below (o.lies, f.0, f.1))
            (ap (λ m. m.kinds) c.claim.ensures.marks) c.claim.ensures.left (inl c.claim.ensures.memory)
            (as_it_lay set s w.rest w.refs.items w.next w.acts w.entered h o.n o.below) (omega arith)
            (ap (λ m. m.size) c.claim.ensures.memory) refl)
        | inr other ↦ subst (λ t. HoldsOf set (record s { twin = t }) w.rest w.refs.items w.next w.acts w.entered)
            (sym (same_twin s.twin t' (c.claim.ensures.same other) c.claim.ensures.memory c.claim.ensures.marks)) h
      ]);
}
