use Rattle.std.proofs.Common.{inl, refl, sym, ◌∙◌, ap, arith}
use Rattle.twin_forms.specs.Sights.{Twin}
use Rattle.twin_forms.specs.Table.{entry}
use Rattle.twin_forms.specs.Moves.{sealed}
use Rattle.twin_forms.proofs.States.{from_converted}
use Rattle.twin_heap.proofs.Reading.{is_object}
use Rattle.space_rows.specs.Worlds.{spaces_of}
use Rattle.space_rows.proofs.Moving.{as_it_lay, leads_at, object_at, set_holds, state_is}
use Rattle.space_rows.proofs.world.World.seal.Goals as goal

pub state_at-requires : goal.state_at-requires
state_at-requires c =
    let w = c.args.self.now in
    let s = spaces_of w.spaces in
    let h = c.requires.holds.1 in
    let es = h.table in
    let o = object_at s es h.whole.stands c.named.result c.in-Volatile.object c.named.ensures.known c.in-Volatile.is in
    record { object = is_object s.twin.space s.twin.memory s.twin.marks c.in-Volatile.object (leads_at s es h.whole.stands c.in-Volatile.object o) }

pub seal-requires : goal.seal-requires
seal-requires c =
    let w = c.args.self.now in
    let s = spaces_of w.spaces in
    let h = c.requires.holds.1 in
    let es = h.table in
    let o = object_at s es h.whole.stands c.named.result c.in-Volatile.object c.named.ensures.known c.in-Volatile.is in
    let st = state_is s es h.whole.stands c.in-Volatile.object o c.state_at.result c.state_at.ensures.again in
    let f = from_converted (entry es o.n) c.in-Converted.field-0 c.in-Converted.field-1 o.lies.0 (sym st ∙ c.in-Converted.is) in
    record { seal = (es, o.n, h.whole.stands.lies, o.below, (o.lies.1, f.0, omega (arith, f))) }

pub returns : goal.returns
returns c = record {
  holds = λ set h.
      (let w = c.args.self.now in
      let s = spaces_of w.spaces in
      let es = h.table in
      let o = object_at s es h.whole.stands c.named.result c.in-Volatile.object c.named.ensures.known c.in-Volatile.is in
      let e = entry es o.n in
      let t' : Twin = record { space = c.seal.new.self.space; memory = c.seal.new.self.memory; marks = c.seal.new.self.marks } in
      let st = state_is s es h.whole.stands c.in-Volatile.object o c.state_at.result c.state_at.ensures.again in
      let f = from_converted e c.in-Converted.field-0 c.in-Converted.field-1 o.lies.0 (sym st ∙ c.in-Converted.is) in
      set_holds set s t' w.rest w.refs.items w.next w.next w.acts w.entered h o.n (sealed e) o.below
      (c.seal.ensures.sealed es o.n h.whole.stands.lies o.below (o.lies.1, f.0, omega (arith, f)))
      c.seal.ensures.kinds c.seal.ensures.left (inl c.seal.ensures.memory)
      (as_it_lay set s w.rest w.refs.items w.next w.acts w.entered h o.n o.below) (omega arith)
      (ap (λ m. m.size) c.seal.ensures.memory) refl);
}
