use Rattle.std.proofs.Common.{◌++◌, [], map, ap, ◌∙◌}
use Rattle.text_table.specs.Texts.{with_texts}
use Rattle.built_in_table.specs.Members.{built_in_names}
use Rattle.class_links.specs.Names.{name_of}
use Rattle.class_set.proofs.Numbers.{with_texts-append, with_texts-new, names-new}
use Rattle.class_set.proofs.names.class_names.Goals as goal

pub returns : goal.returns
returns c =
    let files = c.args.files.now in
    c.in_ok-add_built_ins.ensures
    ∙ ap (λ ts. with_texts ts built_in_names) c.in_ok-names.ensures.names
    ∙ with_texts-append [] (map name_of files) built_in_names
    ∙ with_texts-new [] (map name_of files ++ built_in_names) (names-new files c.requires.single)
