use Rattle.std.proofs.Common.{ap}
use Rattle.graph_model.specs.declared.types.Value.TheVariants.{Obj as Object}
use Rattle.first_heap.proofs.values.constant_item.Goals as goal

pub returns-in-Literal : goal.returns-in-Literal
returns-in-Literal c set = rw c.in-Literal.is (ap (λ n. Object n) (c.literal_number.ensures set))
