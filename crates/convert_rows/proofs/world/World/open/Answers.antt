use Rattle.std.proofs.Common.{◌≡◌, sym, ◌∙◌, ap, subst, arith}
use Rattle.line_memory.specs.Memory.{Memory}
use Rattle.twin_forms.specs.Sights.{AllKnown, Twin}
use Rattle.convert_rows.proofs.Keeping.{opened_world}
use Rattle.convert_rows.proofs.world.World.open.Goals as goal

pub returns : goal.returns
returns c =
    let made = c.in_ok-heap.field-0 in
    let h : Twin = record { space = made.space; memory = made.memory; marks = made.marks } in
    let told = c.in_ok-heap.ensures in
    let same : made.memory ≡ c.in-Ok.memory = told.memory in
    let size : made.memory.size ≡ 32768 = ap (λ (m : Memory). m.size) same ∙ (let l = c.lines.ensures in let f = c.if-lines-from.false in omega (arith, l, f)) in
    record {
      whole = opened_world h c.in_ok-reserve.field-0 c.new.result c.in_ok-reserve-2.field-0 c.new-2.result.items
          c.args.size.free told.lies c.in_ok-reserve.ensures.empty c.new.ensures.made c.in_ok-reserve-2.ensures.none
          c.new-2.ensures.items size
          (let f = c.if-size-eq0.false in omega (arith, f)) (let f = c.if-size-gt-LINES.false in omega (arith, f)) (subst AllKnown (sym same) c.in-Ok.ensures.attached.known) told.shapes;
    }
