-- The entries that a directory has for a class set, by the numbers and the names of its classes. Of this project's own format.
use Rattle.std.specs.Prelude.{ℕ, true, false, nat_lt, ◌&&◌, not, Bool, List, filter, map, slice_get, Option, Some, None}
use Rattle.std.specs.Prelude.{if◌then◌else◌}
use Rattle.std.specs.List.{flat_map}
use Rattle.std.specs.Option.{option_to_list}
use Rattle.graph_model.specs.declared.types.Root.{Root}
use Rattle.graph_model.specs.declared.types.Shape.{Shape}
use Rattle.plain_model.specs.Facts.{class_at, shapes_of, innermost_of}
use Rattle.text_table.specs.Sorted.{sorted_texts}
use Rattle.class_set.specs.Linked.{Linked, class_count, class_named, names_of}
use Rattle.class_set.specs.ArrayTypes.{makes}
use Rattle.class_set.specs.Facts.{facts_of, roots_of}
use Rattle.class_set.specs.Sets.{is_there}

-- A class or an array type, by its number, has a shape in a directory: each class but the interfaces, and the array types that the code makes,
-- but for those of objects of a class that the set lacks.
abbrev pub is_written : Linked → ℕ → Bool
is_written set n =
    if nat_lt n (class_count set) then not (class_at (facts_of set) n).is_interface
    else makes set n && is_there (innermost_of (facts_of set) n)

abbrev pub is_written_at : Linked → Option ℕ → Bool
is_written_at set None = false
is_written_at set (Some n) = is_written set n

-- the same by its name
abbrev pub has_shape : Linked → List ℕ → Bool
has_shape set name = is_written_at set (class_named set name)

-- the names of all that have one, by their bytes
abbrev pub written_names : Linked → List (List ℕ)
written_names set = sorted_texts (filter (has_shape set) (names_of set))

abbrev pub shape_numbered : Linked → Option ℕ → Option Shape
shape_numbered set None = None
shape_numbered set (Some n) = slice_get (shapes_of (facts_of set)) n

-- the shape of the class or the array type with this name
abbrev pub shape_called : Linked → List ℕ → Option Shape
shape_called set name = shape_numbered set (class_named set name)

abbrev pub shapes_called : Linked → List (List ℕ) → List Shape
shapes_called set names = flat_map (λ name. option_to_list (shape_called set name)) names

-- the shapes in the order of their names
abbrev pub written_shapes : Linked → List Shape
written_shapes set = shapes_called set (written_names set)

-- the names of the durable roots by their bytes, each once
abbrev pub written_roots : Linked → List (List ℕ)
written_roots set = sorted_texts (map (λ (root : Root). root.name) (roots_of (facts_of set)))
