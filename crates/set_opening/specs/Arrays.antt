-- Array types of a directory, to which a class set gives numbers.
use Rattle.std.specs.Prelude.{List, [], ◌∷◌, if◌then◌else◌}
use Rattle.graph_model.specs.declared.types.Shape.{Shape}
use Rattle.image_meaning.specs.Entries.{is_array_name}
use Rattle.class_set.specs.Linked.{Linked, with_array}

-- the set where this shape, if it is an array type's, has a number
abbrev pub with_array_of : Linked → Shape → Linked
with_array_of set shape = if is_array_name shape.name then with_array set shape.name else set

-- and where each of these has, the new ones in their order
abbrev pub with_arrays_of : Linked → List Shape → Linked
with_arrays_of set [] = set
with_arrays_of set (shape ∷ shapes) = with_arrays_of (with_array_of set shape) shapes
