use Rattle.std.proofs.Common.{◌≡◌, ◌<◌, ◌∷◌, [], Some, length, map, ap, sym, subst, ◌∙◌, arith}
use Rattle.std.specs.Prelude.{All, slice_get}
use Rattle.std.proofs.lemmas.Option.{slice_get-get_or}
use Rattle.class_file.specs.Classes.{CanBeRead}
use Rattle.text_table.specs.Texts.{with_texts}
use Rattle.class_code.specs.Entries.{rows_before, rows_in, rows_of, run_signature, signature_rows, to_string_signature}
use Rattle.class_code.specs.Signatures.{signature_texts, text_of}
use Rattle.class_code.proofs.Rowed.{class_more}
use Rattle.class_code.proofs.Signed.{first_two, texts_more, texts_with, two_texts}
use Rattle.class_code.proofs.Sizes.{before_few, signature_few, signed_few}
use Rattle.class_code.proofs.signatures.signatures_of.Goals as goal

pub add_entries-requires : goal.add_entries-requires
add_entries-requires c =
    let files = c.files-file-items.result.now in
    let k = c.loop-file.file-index in
    let same = c.files-file-items.ensures in
    let counted = ap length c.loop-file.invariant in
    let two = ap length two_texts in
    let signed = signed_few first_two (rows_before signature_rows files k) in
    let few = before_few signature_rows signature_few files (subst (All CanBeRead) (sym same) c.requires.linked.readable) k in
    let size = c.requires.few in
    omega (arith, counted, two, signed, few, size, ap length same)

pub loop-file-preserved : goal.loop-file-preserved
loop-file-preserved c =
    let files = c.files-file-items.result.now in
    let class = c.loop-file.file-index in
    let file = c.file-item.result in
    let within : class < length files = omega arith in
    let there : slice_get files class ≡ Some file = slice_get-get_or files class file within ∙ ap Some (sym c.file-item.is) in
    let more = rows_in signature_rows class file.pool (length file.pool) in
    c.in_ok-add_entries.ensures class
    ∙ ap (λ ts. with_texts ts (map text_of more)) c.loop-file.invariant
    ∙ texts_more first_two (rows_before signature_rows files class) more
    ∙ ap (λ ss. with_texts first_two (map text_of ss)) (sym (class_more signature_rows files class file there))

pub returns : goal.returns
returns c =
    let files = c.files-file-items.result.now in
    let all : c.loop-file.file-index ≡ length files = omega arith in
    c.loop-file.invariant
    ∙ ap (λ n. with_texts first_two (map text_of (rows_before signature_rows files n))) all
    ∙ ap (λ ts. with_texts ts (map text_of (rows_of signature_rows files))) two_texts
    ∙ sym (texts_with (run_signature ∷ to_string_signature ∷ []) (rows_of signature_rows files))
    ∙ ap signature_texts c.files-file-items.ensures
