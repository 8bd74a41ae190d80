use Rattle.std.proofs.Common.{◌++◌, List, ℕ, take, ap, ◌∙◌, sym, append_assoc, arith}
use Rattle.image_meaning.specs.Entries.{field_words, fields_words}
use Rattle.image_compact.proofs.Spellings.{fields_more, field_within}
use Rattle.image_compact.proofs.spelling.push_fields.Goals as goal

pub push_field-requires : goal.push_field-requires
push_field-requires c =
    omega (arith, field_within c.args.fields.now c.field-item.result c.loop-field.field-index c.loop-field-test.true c.field-item.is, c.requires)

pub loop-field-preserved : goal.loop-field-preserved
loop-field-preserved c =
    let fields = c.args.fields.now in
    let i = c.loop-field.field-index in
    let field = c.field-item.result in
    let before = c.args.words.now.items in
    c.in_ok-push_field.ensures
    ∙ ap (λ (words : List ℕ). words ++ field_words field) c.loop-field.invariant
    ∙ append_assoc before (fields_words (take i fields)) (field_words field)
    ∙ ap (λ (words : List ℕ). before ++ words) (sym (fields_more fields field i c.loop-field-test.true c.field-item.is))
