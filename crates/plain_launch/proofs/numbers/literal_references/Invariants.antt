use Rattle.std.proofs.Common.{◌≡◌}
use Rattle.plain_model.specs.Facts.{SetFacts}
use Rattle.plain_launch.specs.Launches.{references_to}
use Rattle.plain_launch.proofs.numbers.literal_references.Given as goal

abbrev pub invariant-loop-literal : goal.invariant-loop-literal
invariant-loop-literal l = (set : SetFacts) → l.references.items ≡ references_to set l.opening l.literal
