use Rattle.std.proofs.Common.{◌≡◌, ◌+◌, List, ℕ, length, take, ap, ◌∙◌, arith}
use Rattle.std.proofs.lemmas.List.{length-append}
use Rattle.image_meaning.specs.Entries.{name_words, field_words, fields_words}
use Rattle.image_compact.proofs.Spellings.{fields_more, field_count}
use Rattle.image_compact.proofs.spelling.fields_length.Goals as goal

pub loop-field-preserved : goal.loop-field-preserved
loop-field-preserved c =
    let fields = c.args.fields.now in
    let i = c.loop-field.field-index in
    let field = c.field-item.result in
    let more : length (fields_words (take (i + 1) fields)) ≡ length (fields_words (take i fields)) + length (field_words field) =
    ap length (fields_more fields field i c.loop-field-test.true c.field-item.is)
    ∙ length-append (fields_words (take i fields)) (field_words field) in
    let name : length (name_words c.as_slice.result.now) ≡ length (name_words field.name) =
    ap (λ (name : List ℕ). length (name_words name)) c.as_slice.ensures.same in
    omega (arith, more, name, field_count field, c.loop-field.invariant, c.name_length.ensures, c.saturating_add.ensures, c.saturating_add-count.ensures)
