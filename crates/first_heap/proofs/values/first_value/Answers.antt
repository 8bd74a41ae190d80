use Rattle.std.proofs.Common.{◌∙◌, ap}
use Rattle.plain_model.specs.Kinds.{narrowed}
use Rattle.first_heap.specs.Values.{at_numbers}
use Rattle.first_heap.proofs.values.first_value.Goals as goal

pub returns-in-Some : goal.returns-in-Some
returns-in-Some c set =
    rw c.in-Some.is
    (c.value_of.ensures ∙ c.narrow.ensures.value at_numbers
    ∙ ap (narrowed c.args.kind) (c.constant_item.ensures set))
