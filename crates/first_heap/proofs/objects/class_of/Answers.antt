use Rattle.std.proofs.Common.{◌∙◌, ap, sym}
use Rattle.class_set.specs.Linked.{names_of}
use Rattle.text_table.specs.Texts.{place_of}
use Rattle.first_heap.proofs.Classes.{class_numbered, class_there}
use Rattle.first_heap.proofs.objects.class_of.Goals as goal

pub unwrap-requires : goal.unwrap-requires
unwrap-requires c =
    class_there c.args.set.now c.args.node.now.shape.name c.class_named.result
    (c.class_named.ensures ∙ ap (place_of (names_of c.args.set.now)) c.as_slice.ensures.same) c.requires.class

pub returns : goal.returns
returns c =
    class_numbered c.args.set.now c.args.node.now.shape.name c.unwrap.result
    (sym (c.class_named.ensures ∙ ap (place_of (names_of c.args.set.now)) c.as_slice.ensures.same)
    ∙ c.unwrap.ensures)
