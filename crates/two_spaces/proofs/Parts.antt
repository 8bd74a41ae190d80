-- A heap by its parts.
use Rattle.std.specs.Prelude.{ℕ, List}
use Rattle.graph_model.specs.declared.types.Shape.{Shape}
use Rattle.line_memory.specs.Memory.{Memory}
use Rattle.twin_forms.specs.Sights.{Marks}
use Rattle.volatile_space.specs.Spaces.{Space}
use Rattle.two_spaces.specs.declared.spaces.Static.{Static}
use Rattle.two_spaces.specs.Seen.{Spaces}

abbrev pub parts : Space → Memory → Marks → List Shape → List ℕ → List ℕ → List Static → Spaces
parts space memory marks shapes classes numbers statics = record {
  twin = record { space = space; memory = memory; marks = marks };
  shapes = shapes;
  classes = classes;
  numbers = numbers;
  statics = statics;
}
