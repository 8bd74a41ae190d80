use Rattle.std.proofs.Common.{◌≡◌, take}
use Rattle.graph_model.proofs.types.Shape.copy.Given as goal

abbrev pub invariant-loop-field : goal.invariant-loop-field
invariant-loop-field l = l.fields.items ≡ take l.field-index l.self.fields
