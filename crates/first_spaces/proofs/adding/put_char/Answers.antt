use Rattle.std.proofs.Common.{◌≡◌, ◌<◌, ◌^◌, pos, ap, ◌∙◌, arith}
use Rattle.std.specs.Int.{w32, cast_signed, cast_unsigned}
use Rattle.std.proofs.lemmas.Int.{to_z_pos}
use Rattle.first_spaces.specs.Spaces.{spaces_of}
use Rattle.first_spaces.proofs.Chars.{char_numbers, char_table, char_spares, char_young}
use Rattle.first_spaces.proofs.adding.put_char.Goals as goal

pub returns-clause-spares : goal.returns-clause-spares
returns-clause-spares g c =
    char_spares (spaces_of c.args.spaces.now) (spaces_of c.store.new.self) c.args.object c.args.index _
    c.requires.young c.store.ensures.stored c.store.ensures.heap

pub returns-clause-table : goal.returns-clause-table
returns-clause-table g c =
    char_table (spaces_of c.args.spaces.now) (spaces_of c.store.new.self) c.args.object c.args.index _
    c.requires.young c.store.ensures.stored c.store.ensures.heap

pub returns-clause-numbers : goal.returns-clause-numbers
returns-clause-numbers g c =
    let small : c.args.char < 2 ^ 16 = c.ranges.char.fits in
    let is : cast_signed w32 (cast_unsigned w32 c.from.result) ≡ pos c.args.char =
    ap (λ i. cast_signed w32 (cast_unsigned w32 i)) c.from.ensures
    ∙ to_z_pos w32 c.args.char (omega (arith, small)) in
    char_numbers (spaces_of c.args.spaces.now) (spaces_of c.store.new.self) c.args.object c.args.index _
    c.requires.young c.store.ensures.stored c.store.ensures.heap c.args.char is small c.requires.kind

pub returns-clause-young : goal.returns-clause-young
returns-clause-young g c =
    char_young (spaces_of c.args.spaces.now) (spaces_of c.store.new.self) c.args.object c.args.index _
    c.requires.young c.store.ensures.stored c.store.ensures.heap
