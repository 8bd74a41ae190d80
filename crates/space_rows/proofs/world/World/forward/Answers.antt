use Rattle.std.proofs.Common.{◌≡◌, sym, ◌∙◌, ap, subst, arith}
use Rattle.twin_forms.specs.Sights.{Twin, view_of}
use Rattle.twin_forms.specs.Table.{entry}
use Rattle.twin_forms.specs.Moves.{ToForward}
use Rattle.twin_forms.proofs.States.{from_copying}
use Rattle.twin_heap.proofs.Reading.{is_object}
use Rattle.space_rows.specs.Worlds.{HoldsOf, spaces_of}
use Rattle.std.proofs.Common.{None}
use Rattle.ap_base.specs.declared.reference.Ref.TheVariants.{Persistent}
use Rattle.run_types.specs.declared.key.Key.TheVariants as key
use Rattle.monitors.specs.Held.{monitor_of}
use Rattle.space_rows.proofs.Moving.{rest_at, forward_holds, is_free, leads_at, object_at, state_is}
use Rattle.space_rows.proofs.world.World.forward.Goals as goal

pub state_at-requires : goal.state_at-requires
state_at-requires c =
    let w = c.args.self.now in
    let s = spaces_of w.spaces in
    let h = c.requires.holds.1 in
    let es = h.table in
    let o = object_at s es h.whole.stands c.named.result c.in-Volatile.object c.named.ensures.known c.in-Volatile.is in
    record { object = is_object s.twin.space s.twin.memory s.twin.marks c.in-Volatile.object (leads_at s es h.whole.stands c.in-Volatile.object o) }

pub lines_copied-copied-requires : goal.lines_copied-copied-requires
lines_copied-copied-requires c =
    let w = c.args.self.now in
    let s = spaces_of w.spaces in
    let h = c.requires.holds.1 in
    let es = h.table in
    let o = object_at s es h.whole.stands c.named.result c.in-Volatile.object c.named.ensures.known c.in-Volatile.is in
    let st = state_is s es h.whole.stands c.in-Volatile.object o c.state_at.result c.state_at.ensures.again in
    let f = from_copying (entry es o.n) c.in-Copying.field-0 c.in-Copying.line o.lies.0
    (h.whole.stands.lies.table.copying o.n o.below) (sym st ∙ c.in-Copying.is) in
    record { object = (es, o.n, h.whole.stands.lies, o.below, (o.lies.1, f.0)) }

pub slots_at-requires : goal.slots_at-requires
slots_at-requires c =
    let w = c.args.self.now in
    let s = spaces_of w.spaces in
    let h = c.requires.holds.1 in
    let es = h.table in
    let o = object_at s es h.whole.stands c.named.result c.in-Volatile.object c.named.ensures.known c.in-Volatile.is in
    record { object = (es, o.n, h.whole.stands.lies, o.below, o.lies) }

pub forward-requires : goal.forward-requires
forward-requires c =
    let w = c.args.self.now in
    let s = spaces_of w.spaces in
    let h = c.requires.holds.1 in
    let es = h.table in
    let o = object_at s es h.whole.stands c.named.result c.in-Volatile.object c.named.ensures.known c.in-Volatile.is in
    let st = state_is s es h.whole.stands c.in-Volatile.object o c.state_at.result c.state_at.ensures.again in
    let f = from_copying (entry es o.n) c.in-Copying.field-0 c.in-Copying.line o.lies.0
    (h.whole.stands.lies.table.copying o.n o.below) (sym st ∙ c.in-Copying.is) in
    let copied = c.lines_copied-copied.ensures.copied es o.n h.whole.stands.lies o.below (o.lies.1, f.0) in
    let slots = c.slots_at.ensures.slots es o.n h.whole.stands.lies o.below o.lies in
    let test = c.if-copied-slots_at.false in
    record { forward = (es, o.n, h.whole.stands.lies, o.below, (o.lies.1, f.0, omega (arith, copied, slots, test))) }

pub rekey-requires : goal.rekey-requires
rekey-requires c =
    let w = c.args.self.now in
    let s = spaces_of w.spaces in
    let h = c.requires.holds.1 in
    let es = h.table in
    let o = object_at s es h.whole.stands c.named.result c.in-Volatile.object c.named.ensures.known c.in-Volatile.is in
    let st = state_is s es h.whole.stands c.in-Volatile.object o c.state_at.result c.state_at.ensures.again in
    let f = from_copying (entry es o.n) c.in-Copying.field-0 c.in-Copying.line o.lies.0
    (h.whole.stands.lies.table.copying o.n o.below) (sym st ∙ c.in-Copying.is) in
    record {
      free = subst (λ line. monitor_of w.rest.monitors (key.Object (Persistent line)) ≡ None) f.2
          (is_free s es h.whole.stands o.n o.below f.0 w.rest.monitors h.agrees.monitors);
    }

pub returns : goal.returns
returns c = record {
  holds = λ set h.
      (let w = c.args.self.now in
      let s = spaces_of w.spaces in
      let es = h.table in
      let o = object_at s es h.whole.stands c.named.result c.in-Volatile.object c.named.ensures.known c.in-Volatile.is in
      let e = entry es o.n in
      let t' : Twin = record { space = c.forward.new.self.space; memory = c.forward.new.self.memory; marks = c.forward.new.self.marks } in
      let st = state_is s es h.whole.stands c.in-Volatile.object o c.state_at.result c.state_at.ensures.again in
      let f = from_copying (entry es o.n) c.in-Copying.field-0 c.in-Copying.line o.lies.0
      (h.whole.stands.lies.table.copying o.n o.below) (sym st ∙ c.in-Copying.is) in
      let copied = c.lines_copied-copied.ensures.copied es o.n h.whole.stands.lies o.below (o.lies.1, f.0) in
      let slots = c.slots_at.ensures.slots es o.n h.whole.stands.lies o.below o.lies in
      let test = c.if-copied-slots_at.false in
      let one = c.if-self-gt1.false in
      let to : ToForward c.in-Volatile.object (view_of s.twin) es o.n = (o.lies.1, f.0, omega (arith, copied, slots, test)) in
      let holds = forward_holds set s t' w.rest w.refs.items w.next w.acts w.entered h o.n o.below f.0 (omega (arith, one))
      (c.forward.ensures.forwarded es o.n h.whole.stands.lies o.below to) (ap (λ m. m.kinds) c.forward.ensures.marks)
      c.forward.ensures.left c.forward.ensures.memory in
      let at_it = subst (λ at. HoldsOf set (record s { twin = t' }) (rest_at w.rest at e.line) w.refs.items w.next w.acts w.entered)
      o.lies.1 holds in
      let on_it = subst (λ line. HoldsOf set (record s { twin = t' }) (rest_at w.rest c.in-Volatile.object line) w.refs.items w.next w.acts w.entered)
      f.2 at_it in
      subst (λ ms. HoldsOf set (record s { twin = t' }) (record w.rest { monitors = ms }) w.refs.items w.next w.acts w.entered)
      (sym c.rekey.ensures.rekeyed) on_it);
}
