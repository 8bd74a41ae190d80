use Rattle.std.proofs.Common.{inl, inr, sym, ◌∙◌, ap, arith}
use Rattle.twin_forms.specs.Sights.{Twin, view_of}
use Rattle.twin_forms.specs.Table.{entry}
use Rattle.twin_forms.specs.Moves.{ToPlace, placed}
use Rattle.twin_forms.proofs.States.{from_claimed}
use Rattle.twin_heap.proofs.Reading.{is_object, when_old}
use Rattle.ap_base.specs.References.{reference_word}
use Rattle.space_rows.specs.Worlds.{spaces_of}
use Rattle.space_rows.proofs.Moving.{leads_at, object_at, set_holds, state_is}
use Rattle.space_rows.proofs.world.World.place.Goals as goal

pub state_at-requires : goal.state_at-requires
state_at-requires c =
    let w = c.args.self.now in
    let s = spaces_of w.spaces in
    let h = c.requires.holds.1 in
    let es = h.table in
    let o = object_at s es h.whole.stands c.named.result c.in-Volatile.object c.named.ensures.known c.in-Volatile.is in
    record { object = is_object s.twin.space s.twin.memory s.twin.marks c.in-Volatile.object (leads_at s es h.whole.stands c.in-Volatile.object o) }

pub slots_at-requires : goal.slots_at-requires
slots_at-requires c =
    let w = c.args.self.now in
    let s = spaces_of w.spaces in
    let h = c.requires.holds.1 in
    let es = h.table in
    let o = object_at s es h.whole.stands c.named.result c.in-Volatile.object c.named.ensures.known c.in-Volatile.is in
    record { object = (es, o.n, h.whole.stands.lies, o.below, o.lies) }

pub copy_at-requires : goal.copy_at-requires
copy_at-requires c =
    let w = c.args.self.now in
    let s = spaces_of w.spaces in
    let h = c.requires.holds.1 in
    let es = h.table in
    let o = object_at s es h.whole.stands c.named.result c.in-Volatile.object c.named.ensures.known c.in-Volatile.is in
    let st = state_is s es h.whole.stands c.in-Volatile.object o c.state_at.result c.state_at.ensures.again in
    let f = from_claimed (entry es o.n) c.in-Claimed.field-0 o.lies.0 (sym st ∙ c.in-Claimed.is) in
    let slots = c.slots_at.ensures.slots es o.n h.whole.stands.lies o.below o.lies in
    let sum = c.in-Some.ensures in
    let test = c.if-from-lines.false in
    let lines = c.lines.ensures in
    let end = c.from.ensures in
    let behind = h.whole.behind in
    let to : ToPlace c.in-Volatile.object w.next (view_of s.twin) es o.n = record {
      object = o.lies.1;
      young = f.0;
      claimed = omega (arith, f);
      some = omega (arith, behind);
      within = omega (arith, slots, sum, test, lines, end);
      free = λ m lm placed. inr (h.whole.below m lm placed);
    } in
    record { place = (es, o.n, h.whole.stands.lies, o.below, to) }

pub returns : goal.returns
returns c = record {
  holds = λ set h.
      (let w = c.args.self.now in
      let s = spaces_of w.spaces in
      let es = h.table in
      let o = object_at s es h.whole.stands c.named.result c.in-Volatile.object c.named.ensures.known c.in-Volatile.is in
      let st = state_is s es h.whole.stands c.in-Volatile.object o c.state_at.result c.state_at.ensures.again in
      let f = from_claimed (entry es o.n) c.in-Claimed.field-0 o.lies.0 (sym st ∙ c.in-Claimed.is) in
      let slots = c.slots_at.ensures.slots es o.n h.whole.stands.lies o.below o.lies in
      let sum = c.in-Some.ensures in
      let test = c.if-from-lines.false in
      let lines = c.lines.ensures in
      let end = c.from.ensures in
      let behind = h.whole.behind in
      let to : ToPlace c.in-Volatile.object w.next (view_of s.twin) es o.n = record {
        object = o.lies.1;
        young = f.0;
        claimed = omega (arith, f);
        some = omega (arith, behind);
        within = omega (arith, slots, sum, test, lines, end);
        free = λ m lm placed. inr (h.whole.below m lm placed);
      } in
      let t' : Twin = record { space = c.copy_at.new.self.space; memory = c.copy_at.new.self.memory; marks = c.copy_at.new.self.marks } in
      let e = entry es o.n in
      set_holds set s t' w.rest w.refs.items w.next c.in-Some.end w.acts w.entered h o.n (placed w.next e) o.below
      (c.copy_at.ensures.placed es o.n h.whole.stands.lies o.below to)
      c.copy_at.ensures.kinds c.copy_at.ensures.left (inl c.copy_at.ensures.memory)
      (λ is. (behind, omega (arith, slots, sum))) (omega (arith, sum)) (ap (λ m. m.size) c.copy_at.ensures.memory)
      (sym (ap reference_word (when_old e (omega (arith, f))))));
}
