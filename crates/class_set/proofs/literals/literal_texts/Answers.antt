use Rattle.std.proofs.Common.{◌+◌, drop, ap, ◌∙◌, arith}
use Rattle.std.specs.List.{flat_map}
use Rattle.text_table.specs.Texts.{with_texts}
use Rattle.class_set.specs.Literals.{strings_in}
use Rattle.class_set.proofs.Needed.{strings_next}
use Rattle.class_set.proofs.literals.literal_texts.Goals as goal

pub loop-file-preserved : goal.loop-file-preserved
loop-file-preserved c =
    let files = c.args.files.now in
    let i = c.loop-file.file-index in
    ap (λ ts. with_texts ts (flat_map strings_in (drop (i + 1) files))) c.in_ok-add_strings.ensures
    ∙ strings_next strings_in files i c.file-item.result c.loop-file.texts (omega arith) c.file-item.is
    ∙ c.loop-file.invariant
