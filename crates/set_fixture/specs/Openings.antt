-- Roots of opening graphs.
use Rattle.graph_model.specs.declared.types.NamedValue.{NamedValue}
use Rattle.graph_model.specs.declared.types.Root.{Root}
use Rattle.graph_model.specs.declared.types.Value.TheVariants.{Null}

abbrev pub null_root : Root → NamedValue
null_root root = record { name = root.name; value = Null }
