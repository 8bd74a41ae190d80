use Rattle.std.proofs.Common.{rules, arith}
use Rattle.std.specs.Prelude.{IsNone}
use Rattle.twin_forms.specs.Sights.{view_of}
use Rattle.two_spaces.proofs.Numbering.{number_named}
use Rattle.space_rows.specs.Worlds.{spaces_of}
use Rattle.space_rows.proofs.Here.{head_here}
use Rattle.space_rows.proofs.Moving.{refers_to}
use Rattle.space_rows.proofs.world.World.is_old.Goals as goal

pub length_of-requires : goal.length_of-requires
length_of-requires c =
    let s = spaces_of c.args.self.now.spaces in
    let h = c.requires.holds.1 in
    let f = refers_to s h.table h.whole.stands c.args.holder c.requires.known c.requires.some in
    record { head = (h.table, f.n, h.whole.stands.lies, f.below, f.names, head_here s h.table h.whole.stands h.whole.long f.n) }

pub copied_line-requires : goal.copied_line-requires
copied_line-requires c =
    let s = spaces_of c.args.self.now.spaces in
    let h = c.requires.holds.1 in
    let f = refers_to s h.table h.whole.stands c.args.holder c.requires.known c.requires.some in
    let slots = c.length_of.ensures.length h.table f.n h.whole.stands.lies f.below f.names in
    let test = c.if-length_of-index.false in
    record { slot = (h.table, f.n, h.whole.stands.lies, f.below, f.names, omega (arith, slots, test)) }

pub returns-in-None : goal.returns-in-None
returns-in-None c = record {
  none = λ is es stands n number copied.
      (let s = spaces_of c.args.self.now.spaces in
      let named = number_named (view_of s.twin) es n c.args.holder stands.lies number in
      let no : IsNone c.copied_line.result = search (rules, c.in-None.is) in
      c.copied_line.ensures.none es n stands.lies named.0 named.1 no copied);
}
