use Rattle.std.proofs.Common.{◌≡◌, ap, ◌∙◌}
use Rattle.std.specs.Int.{w64}
use Rattle.std.specs.Fmt.{signed_decimal}
use Rattle.std.proofs.lemmas.Int.{to_z-of_z}
use Rattle.natives.proofs.Wholes.{signed_piece}
use Rattle.natives.proofs.texts.number_text.Goals as goal

-- a number has digits
pub ascii-requires-clause-some : goal.ascii-requires-clause-some
ascii-requires-clause-some c =
    let text : c.as_bytes.result.now ≡ signed_decimal c.args.number =
    c.as_bytes.ensures.value ∙ c.format.ensures.text ∙ ap signed_decimal
    (to_z-of_z w64 c.args.number c.ranges.number) in
    rw text ((signed_piece c.args.number c.ranges.number).0)
