-- What a heap shows.
use Rattle.std.specs.Prelude.{ℕ, true, nat_lt, List, length, Some, None, if◌then◌else◌}
use Rattle.ap_base.specs.declared.reference.Ref.TheVariants.{Null, Persistent, Volatile}
use Rattle.graph_model.specs.declared.types.Value.{Value}
use Rattle.graph_model.specs.declared.types.Obj.{Obj}
use Rattle.graph_model.specs.declared.types.Shape.{Shape}
use Rattle.shared_objects.specs.Shown.{Numbers, Shown}

-- The reference of the object of a number is that number, where there are so many objects.
abbrev pub number_in : ℕ → Numbers
number_in count Null = None
number_in count (Persistent line) = None
number_in count (Volatile n) = if nat_lt n count then Some n else None

abbrev pub shown_with : List Shape → List Obj → List Value → (left : ℕ) → Shown
shown_with shapes objects statics left = record {
  shapes = shapes;
  objects = objects;
  statics = statics;
  number = number_in (length objects);
  is_key = λ r. true;
  left = left;
}
