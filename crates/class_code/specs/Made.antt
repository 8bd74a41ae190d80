-- Of which built-in classes there are instances, by place: of all but the interfaces Serializable, Cloneable
-- and Runnable.
use Rattle.std.specs.Prelude.{Bool, List, map}
use Rattle.plain_model.specs.Classes.{is_made}
use Rattle.plain_model.specs.BuiltIn.{built_in_classes}

unfoldable pub made_places : List Bool
made_places = map is_made (built_in_classes 0)
