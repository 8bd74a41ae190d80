use Rattle.std.proofs.Common.{◌≡◌, ℕ, ◌+◌, ◌%◌, ◌^◌, pos, ap, ◌∙◌, arith}
use Rattle.std.specs.Int.{w32, cast_signed, cast_unsigned}
use Rattle.std.specs.Prelude.{ℤ, slice_index, unwrap_or}
use Rattle.std.proofs.lemmas.Int.{to_z_pos}
use Rattle.std.proofs.lemmas.Option.{unwrap_or-slice_get}
use Rattle.ap_base.specs.declared.kind.Kind.TheVariants.{C}
use Rattle.ap_base.specs.declared.reference.Item.TheVariants as item
use Rattle.natives.specs.declared.requests.Request.TheVariants as ask
use Rattle.natives.specs.Texts.{chars_of}
use Rattle.natives.proofs.builders.char_request.Goals as goal

-- the index and the char that are asked
pub returns : goal.returns
returns c =
    let char : c.unwrap_or.result ≡ slice_index (chars_of c.args.spelling) c.args.at =
    c.unwrap_or.ensures ∙ ap (λ o. unwrap_or o 0) c.char_at.ensures
    ∙ unwrap_or-slice_get (chars_of c.args.spelling) c.args.at 0 in
    let value : cast_signed w32 (cast_unsigned w32 c.from-2.result) ≡ pos (slice_index
    (chars_of c.args.spelling) c.args.at) =
    ap (λ i. cast_signed w32 (cast_unsigned w32 i)) c.from-2.ensures
    ∙ to_z_pos w32 c.unwrap_or.result (omega (arith, c.unwrap_or.type_inv)) ∙ ap pos char in
    ap (λ i. ask.PutElement c.args.from c.args.array
    (cast_signed w32 ((cast_unsigned w32 c.args.count + cast_unsigned w32 i) % 4294967296)) C
    (item.Int (cast_signed w32 (cast_unsigned w32 c.from-2.result)))) c.from.ensures
    ∙ ap (λ v. ask.PutElement c.args.from c.args.array
    (cast_signed w32 ((cast_unsigned w32 c.args.count + c.args.at) % 4294967296)) C (item.Int v)) value
