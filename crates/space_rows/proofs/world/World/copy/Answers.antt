use Rattle.std.proofs.Common.{inr, ◌+◌, refl, sym, ◌∙◌, ap, arith}
use Rattle.twin_forms.specs.Sights.{Twin, view_of}
use Rattle.twin_forms.specs.Table.{entry}
use Rattle.twin_forms.specs.Moves.{ToCopy, one_more}
use Rattle.twin_forms.proofs.States.{from_copying}
use Rattle.twin_heap.proofs.Reading.{is_object}
use Rattle.line_memory.proofs.Residence.{every_line_is_resident}
use Rattle.space_rows.specs.Worlds.{spaces_of}
use Rattle.space_rows.proofs.Moving.{as_it_lay, leads_at, object_at, set_holds, state_is}
use Rattle.space_rows.proofs.world.World.copy.Goals as goal

pub state_at-requires : goal.state_at-requires
state_at-requires c =
    let w = c.args.self.now in
    let s = spaces_of w.spaces in
    let h = c.requires.holds.1 in
    let es = h.table in
    let o = object_at s es h.whole.stands c.named.result c.in-Volatile.object c.named.ensures.known c.in-Volatile.is in
    record { object = is_object s.twin.space s.twin.memory s.twin.marks c.in-Volatile.object (leads_at s es h.whole.stands c.in-Volatile.object o) }

pub lines_copied-copied-requires : goal.lines_copied-copied-requires
lines_copied-copied-requires c =
    let w = c.args.self.now in
    let s = spaces_of w.spaces in
    let h = c.requires.holds.1 in
    let es = h.table in
    let o = object_at s es h.whole.stands c.named.result c.in-Volatile.object c.named.ensures.known c.in-Volatile.is in
    let st = state_is s es h.whole.stands c.in-Volatile.object o c.state_at.result c.state_at.ensures.again in
    let f = from_copying (entry es o.n) c.in-Copying.field-0 c.in-Copying.field-1 o.lies.0
    (h.whole.stands.lies.table.copying o.n o.below) (sym st ∙ c.in-Copying.is) in
    record { object = (es, o.n, h.whole.stands.lies, o.below, (o.lies.1, f.0)) }

pub slots_at-requires : goal.slots_at-requires
slots_at-requires c =
    let w = c.args.self.now in
    let s = spaces_of w.spaces in
    let h = c.requires.holds.1 in
    let es = h.table in
    let o = object_at s es h.whole.stands c.named.result c.in-Volatile.object c.named.ensures.known c.in-Volatile.is in
    record { object = (es, o.n, h.whole.stands.lies, o.below, o.lies) }

pub copy_line-requires-clause-copy : goal.copy_line-requires-clause-copy
copy_line-requires-clause-copy c =
    let w = c.args.self.now in
    let s = spaces_of w.spaces in
    let h = c.requires.holds.1 in
    let es = h.table in
    let o = object_at s es h.whole.stands c.named.result c.in-Volatile.object c.named.ensures.known c.in-Volatile.is in
    let st = state_is s es h.whole.stands c.in-Volatile.object o c.state_at.result c.state_at.ensures.again in
    let f = from_copying (entry es o.n) c.in-Copying.field-0 c.in-Copying.field-1 o.lies.0
    (h.whole.stands.lies.table.copying o.n o.below) (sym st ∙ c.in-Copying.is) in
    let copied = c.lines_copied-copied.ensures.copied es o.n h.whole.stands.lies o.below (o.lies.1, f.0) in
    let slots = c.slots_at.ensures.slots es o.n h.whole.stands.lies o.below o.lies in
    let test = c.if-slots_at-copied.false in
    (es, o.n, h.whole.stands.lies, o.below, (o.lies.1, f.0, omega (arith, copied, slots, test)))

pub copy_line-requires-clause-here : goal.copy_line-requires-clause-here
copy_line-requires-clause-here c es n lies ln to =
    let in_image = lies.table.copy_in n ln (omega (arith, to)) in
    every_line_is_resident c.args.self.now.spaces.heap.memory ((entry es n).line + (entry es n).copied)
    (omega (arith, in_image, to))

pub returns : goal.returns
returns c = record {
  holds = λ set h.
      (let w = c.args.self.now in
      let s = spaces_of w.spaces in
      let es = h.table in
      let o = object_at s es h.whole.stands c.named.result c.in-Volatile.object c.named.ensures.known c.in-Volatile.is in
      let e = entry es o.n in
      let t' : Twin = record { space = c.copy_line.new.self.space; memory = c.copy_line.new.self.memory; marks = c.copy_line.new.self.marks } in
      let st = state_is s es h.whole.stands c.in-Volatile.object o c.state_at.result c.state_at.ensures.again in
      let f = from_copying (entry es o.n) c.in-Copying.field-0 c.in-Copying.field-1 o.lies.0
      (h.whole.stands.lies.table.copying o.n o.below) (sym st ∙ c.in-Copying.is) in
      let copied = c.lines_copied-copied.ensures.copied es o.n h.whole.stands.lies o.below (o.lies.1, f.0) in
      let slots = c.slots_at.ensures.slots es o.n h.whole.stands.lies o.below o.lies in
      let test = c.if-slots_at-copied.false in
      let to : ToCopy c.in-Volatile.object (view_of s.twin) es o.n = (o.lies.1, f.0, omega (arith, copied, slots, test)) in
      let lay = as_it_lay set s w.rest w.refs.items w.next w.acts w.entered h o.n o.below in
      let first = (lay (omega (arith, f))).0 in
      let line = c.copy_line.ensures.answer es o.n h.whole.stands.lies o.below to in
      set_holds set s t' w.rest w.refs.items w.next w.next w.acts w.entered h o.n (one_more e) o.below
      (c.copy_line.ensures.copied es o.n h.whole.stands.lies o.below to)
      c.copy_line.ensures.kinds (ap (λ x. x.left) c.copy_line.ensures.space)
      (inr (c.copy_line.result, omega (arith, first, line), c.copy_line.ensures.line))
      lay (omega arith) c.copy_line.ensures.line.size refl);
}
