use Rattle.std.proofs.Common.{◌≡◌, ap, sym, ◌∙◌, rules}
use Rattle.std.specs.Int.{w32, cast_signed, cast_unsigned}
use Rattle.std.specs.Int.RustNames.{FitsSigned}
use Rattle.std.proofs.lemmas.Int.{to_z-of_z}
use Rattle.natives.specs.declared.positions.Reading.{Reading}
use Rattle.natives.specs.Texts.{characters}
use Rattle.natives.specs.Coded.{items}
use Rattle.natives.specs.Positions as move
use Rattle.natives.proofs.Ends.{poured_none}
use Rattle.natives.proofs.print_stream.gathers.Goals as goal

-- no piece is full
pub returns-in-None : goal.returns-in-None
returns-in-None c =
    let reading = c.args.reading in
    let at_fits : FitsSigned w32 reading.at = search rules in
    let length_fits : FitsSigned w32 reading.length = search rules in
    let poured : c.pour-poured.result ≡ move.pour c.args.piece (characters reading.held c.args.char) =
    c.pour-poured.ensures ∙ ap (λ cs. move.pour c.args.piece cs) c.characters.ensures.same in
    let rest = c.pour-poured.result.rest in
    c.reads_on.ensures
    ∙ ap (λ at. move.reads_on items c.args.to (record {
      text = reading.text;
      at = at;
      length = cast_signed w32 (cast_unsigned w32 reading.length);
      held = c.held_after.result;
    }) rest) (to_z-of_z w32 reading.at at_fits)
    ∙ ap (λ n. move.reads_on items c.args.to (record {
      text = reading.text;
      at = reading.at;
      length = n;
      held = c.held_after.result;
    }) rest) (to_z-of_z w32 reading.length length_fits)
    ∙ ap (λ held. move.reads_on items c.args.to (record {
      text = reading.text;
      at = reading.at;
      length = reading.length;
      held = held;
    }) rest) c.held_after.ensures
    ∙ poured_none items c.args.to reading c.args.char c.args.piece
    (characters reading.held c.args.char) c.pour-poured.result poured c.in-None.is
