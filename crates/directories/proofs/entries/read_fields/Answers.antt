use Rattle.std.proofs.Common.{◌<◌, ◌-◌, ◌++◌, ◌∷◌, [], List, ℕ, length, ap, ◌∙◌, arith}
use Rattle.graph_model.specs.declared.types.Field.{Field}
use Rattle.image_meaning.specs.Entries.{fields_from}
use Rattle.directories.specs.Read.{field_at}
use Rattle.directories.proofs.Readings.{fields_on}
use Rattle.directories.proofs.entries.read_fields.Goals as goal

pub loop-left-preserved : goal.loop-left-preserved
loop-left-preserved c =
    let rest = c.loop-left.rest.now in
    let left = c.loop-left.left in
    let before = c.loop-left.fields.items in
    let some : 0 < left = omega arith in
    let more : 0 < length rest = omega arith in
    ap (λ (done : List Field). done ++ fields_from (left - 1) c.behind_field-rest.result.now)
    (c.in_ok-push.ensures.items ∙ ap (λ (f : Field). before ++ f ∷ []) c.in_ok-read_field.ensures)
    ∙ ap (λ (words : List ℕ). (before ++ field_at rest ∷ []) ++ fields_from (left - 1) words) c.behind_field-rest.ensures
    ∙ fields_on before (fields_from c.args.count c.args.words.now) left rest some more c.loop-left.invariant
