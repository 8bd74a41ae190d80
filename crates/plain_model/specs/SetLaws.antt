-- What class sets keep: the classes that the runtime knows are there, and a subtype has its supertype's
-- fields.
use Rattle.std.specs.Prelude.{◌≡◌, ℕ, ◌<◌, true, false, length, codes, slice_get, slice_index_or, Some, None}
use Rattle.graph_model.specs.declared.types.Field.{Field}
use Rattle.graph_model.specs.Heaps.{has_number}
use Rattle.plain_model.specs.Classes.{ArrayType, no_class}
use Rattle.plain_model.specs.BuiltIn.{built_in_count, built_in_classes, array_class, chars_array, arguments_array}
use Rattle.plain_model.specs.Facts.{SetFacts, built_in_number, class_count, classes_of, class_at, element_of, array_at}
use Rattle.plain_model.specs.Facts.{array_named, arguments_class, is_sub}
use Rattle.plain_model.specs.Consistent.{IsConsistent, supers_of}

-- In every class set a built-in class has its number.
pub record IsBuiltIn (set : SetFacts) (k : ℕ) : Type 0 where
  pub there : built_in_number set k < length (classes_of set)
  pub class : class_at set (built_in_number set k)
      ≡ slice_index_or (built_in_classes (length set.program)) k no_class

abbrev pub BuiltInsAreThere : Type 0
BuiltInsAreThere = (set : SetFacts) (k : ℕ) → k < built_in_count → IsBuiltIn set k

-- this number is that of an array type
pub record IsArrayNumber (set : SetFacts) (n : ℕ) (a : ArrayType) : Type 0 where
  pub there : n < length (classes_of set)
  pub array : array_at set n ≡ Some a
  pub class : class_at set n ≡ array_class (length set.program) a

pub record HasGivenArrays (set : SetFacts) : Type 0 where
  pub chars : IsArrayNumber set (array_named set (codes "[C")) chars_array
  pub arguments : IsArrayNumber set (arguments_class set) (arguments_array (length set.program))

abbrev pub GivenArraysAreThere : Type 0
GivenArraysAreThere = (set : SetFacts) → IsConsistent set → HasGivenArrays set

-- Each class, interface and array type is a subtype of itself (JVMS 4.10.1.2).
abbrev pub TypesAreTheirOwnSubtypes : Type 0
TypesAreTheirOwnSubtypes = (set : SetFacts) (n : ℕ) → IsConsistent set → is_sub set n n ≡ true

-- The superclass and the superinterfaces of a class are supertypes of it.
abbrev pub DirectSupertypesAreAbove : Type 0
DirectSupertypesAreAbove = (set : SetFacts) (n super : ℕ) → IsConsistent set → n < class_count set
    → has_number (supers_of (class_at set n)) super ≡ true → is_sub set n super ≡ true

-- an object of this class has a slot for the field, at its place
pub record HasField (set : SetFacts) (n i : ℕ) (f : Field) : Type 0 where
  pub no_elements : element_of set n ≡ None
  pub field : slice_get (class_at set n).shape.fields i ≡ Some f

-- A subtype of a class has the class's fields, at the same places, and no elements (JVMS 5.4.5). An
-- interface has no slots.
abbrev pub SubtypesHaveFields : Type 0
SubtypesHaveFields = (set : SetFacts) (m n i : ℕ) (f : Field) → IsConsistent set → is_sub set m n ≡ true
    → (class_at set n).is_interface ≡ false → slice_get (class_at set n).shape.fields i ≡ Some f
    → HasField set m i f
