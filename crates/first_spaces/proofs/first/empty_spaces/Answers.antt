use Rattle.std.proofs.Common.{◌∙◌, ap, refl, map}
use Rattle.twin_heap.specs.Here.{kinds_of}
use Rattle.first_spaces.specs.Spaces.{spaces_of}
use Rattle.first_spaces.proofs.Emptied.{is_empty}
use Rattle.first_spaces.proofs.first.empty_spaces.Goals as goal

pub returns-in-Ok-new-clause-empty : goal.returns-in-Ok-new-clause-empty
returns-in-Ok-new-clause-empty g c =
    is_empty c.heaps_begin_whole.ensures.begins c.args.tables c.args.lines.now c.args.words c.args.memory
    (spaces_of (record {
      heap = c.in-Ok-new.heap;
      shapes = c.args.tables.shapes;
      classes = c.args.tables.classes;
      numbers = c.args.tables.numbers;
      statics = c.new-in-Ok-new.result;
    })) c.requires.can
    (record {
      shapes = refl;
      classes = refl;
      numbers = refl;
      kinds = c.in-Ok-new.ensures.kinds ∙ ap (map kinds_of) c.as_slice.ensures;
    })
    c.in-Ok-new.ensures.memory (c.in-Ok-new.ensures.space ∙ c.in-Ok.ensures.empty)
    c.new-in-Ok-new.ensures.items
    c.in-Ok-new.ensures.valid
