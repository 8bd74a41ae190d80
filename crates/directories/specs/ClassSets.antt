-- The entries of a class set, and which shapes of a directory agree with one. Of this project's own format; descriptors are those
-- of JVMS 4.3.2.
use Rattle.std.specs.Prelude.{◌≡◌, ◌<◌, ◌-◌, ◌==◌, ℕ, Bool, true, false, List, [], ◌∷◌, ◌++◌, length, map, take, slice_index_or}
use Rattle.std.specs.Prelude.{Option, Some, None, if◌then◌else◌, Contains, ◌↔◌, ◌⊎◌}
use Rattle.std.specs.List.Sorted.{IsStrictlySortedBy}
use Rattle.std.specs.Str.{bytes_eq}
use Rattle.std.specs.Ordering.{nat_cmp}
use Rattle.std.specs.Cmp.Lexicographic.{slice_cmp}
use Rattle.ap_base.specs.declared.kind.Kind.{Kind}
use Rattle.graph_model.specs.declared.types.Field.{Field}
use Rattle.graph_model.specs.declared.types.Shape.{Shape}
use Rattle.graph_model.specs.Heaps.{no_shape}
use Rattle.run_types.specs.declared.fault.Full.{Full}
use Rattle.image_meaning.specs.Entries.{DirectoryEntry, ShapeEntry, RootEntry, is_array_name, IsShape, AreBytes}
use Rattle.plain_model.specs.Classes.{ClassFacts, ArrayType, Innermost, Numbers, Objects, Missing}
use Rattle.plain_model.specs.BuiltIn.{built_in_classes, array_class, chars_array, arguments_array}
use Rattle.plain_model.specs.Facts.{StaticFacts, SetFacts}
use Rattle.directories.specs.declared.planning.PlanFault.{PlanFault}
use Rattle.directories.specs.declared.planning.PlanFault.TheVariants.{Full as TooMuch, OutOfMemory}
use Rattle.directories.specs.Kept.{Kept}
use Rattle.directories.specs.Planning.{lacking, directory_of_kept, no_room, IsPlanned, CanBePlanned}

-- the classes of the set that aren't array types, the built-in ones included
abbrev pub named_classes : SetFacts → List ClassFacts
named_classes set = set.program ++ built_in_classes (length set.program)

-- ---- its entries

-- the shape of a class that isn't an interface
abbrev pub IsClassShape : SetFacts → Shape → Type 0
IsClassShape set shape = (c : ClassFacts) × Contains (named_classes set) c × (c.is_interface ≡ false) × (shape ≡ c.shape)

-- the innermost elements are no objects of a class that the set lacks
abbrev pub IsInSet : Innermost → Type 0
IsInSet (Numbers kind) = Unit {0}
IsInSet (Objects n) = Unit {0}
IsInSet (Missing name) = ⊥

-- the shape of an array type that the code makes
abbrev pub IsMadeShape : SetFacts → List (List ℕ) → Shape → Type 0
IsMadeShape set made shape = (a : ArrayType) × Contains set.arrays a × Contains made a.descriptor × IsInSet a.innermost
    × (shape ≡ (array_class (length set.program) a).shape)

-- the name of a durable root
abbrev pub IsRootName : SetFacts → List ℕ → Type 0
IsRootName set name = (s : StaticFacts) × Contains set.statics s × (s.is_root ≡ true) × (name ≡ s.name)

-- The code makes arrays of these types, each of which the set has. Those of chars and of Strings are always among them: a StringBuilder has
-- the one, and `main` is given the other.
pub record AreMade (set : SetFacts) (made : List (List ℕ)) : Type 0 where
  pub chars : Contains made chars_array.descriptor
  pub arguments : Contains made (arguments_array (length set.program)).descriptor
  pub known : (descriptor : List ℕ) → Contains made descriptor → (a : ArrayType) × Contains set.arrays a × (a.descriptor ≡ descriptor)

-- each before the next by its bytes
abbrev pub AreInOrder : List (List ℕ) → Type 0
AreInOrder names = IsStrictlySortedBy (slice_cmp nat_cmp) names

-- The entries of a class set whose code makes arrays of these descriptors: the shapes of all classes that aren't interfaces and of these
-- array types, if their innermost class is in the set, in the order of names' bytes; and then the durable roots likewise.
pub record AreEntriesOf (set : SetFacts) (made : List (List ℕ)) (entries : List DirectoryEntry) : Type 0 where
  pub shapes : List Shape
  pub roots : List (List ℕ)
  pub are : entries ≡ map ShapeEntry shapes ++ map RootEntry roots
  pub made_are : AreMade set made
  pub all_shapes : (shape : Shape) → Contains shapes shape ↔ (IsClassShape set shape ⊎ IsMadeShape set made shape)
  pub all_roots : (name : List ℕ) → Contains roots name ↔ IsRootName set name
  pub shapes_in_order : AreInOrder (map (λ (shape : Shape). shape.name) shapes)
  pub roots_in_order : AreInOrder roots

-- An image can have the shapes and the names: they are of bytes, a class's name is no array's, and each field is one that an image keeps.
pub record CanBeWritten (set : SetFacts) (made : List (List ℕ)) : Type 0 where
  pub shapes : (shape : Shape) → IsClassShape set shape ⊎ IsMadeShape set made shape → IsShape shape
  pub roots : (name : List ℕ) → IsRootName set name → AreBytes name

-- Then the entries can be planned.
abbrev pub ClassSetEntriesCanBePlanned : Type 0
ClassSetEntriesCanBePlanned = (set : SetFacts) (made : List (List ℕ)) (entries : List DirectoryEntry) → AreEntriesOf set made entries
    → CanBeWritten set made → CanBePlanned entries

-- those that the directory lacks are planned
pub record IsPlannedFor (set : SetFacts) (made : List (List ℕ)) (old new : Kept) : Type 0 where
  pub entries : List DirectoryEntry
  pub are_its : AreEntriesOf set made entries
  pub planned : IsPlanned (lacking (directory_of_kept old) entries) old new
  pub room : no_room old (lacking (directory_of_kept old) entries) ≡ None

-- there is too little room for them
pub record LacksRoomFor (set : SetFacts) (made : List (List ℕ)) (old : Kept) (full : Full) : Type 0 where
  pub entries : List DirectoryEntry
  pub are_its : AreEntriesOf set made entries
  pub lacks : no_room old (lacking (directory_of_kept old) entries) ≡ Some full

abbrev pub IsRefusedFor : SetFacts → List (List ℕ) → Kept → PlanFault → Type 0
IsRefusedFor set made old (TooMuch full) = LacksRoomFor set made old full
IsRefusedFor set made old OutOfMemory = Unit {0}

-- ---- which shapes agree

-- the first class of this name
abbrev pub class_in : List ClassFacts → List ℕ → Option Shape
class_in [] name = None
class_in (c ∷ classes) name = if bytes_eq c.shape.name name then Some c.shape else class_in classes name

abbrev pub class_named : SetFacts → List ℕ → Option Shape
class_named set name = class_in (named_classes set) name

-- the name and kind of a field; any reference is of kind L
abbrev pub field_of : Field → List ℕ × Kind
field_of field = (field.name, field.kind)

-- what stands behind the [ of a descriptor
abbrev pub behind_brackets : List ℕ → List ℕ
behind_brackets [] = []
behind_brackets (b ∷ bytes) = if b == 91 then behind_brackets bytes else b ∷ bytes

-- the class between L and ;
abbrev pub class_between : List ℕ → Option (List ℕ)
class_between [] = None
class_between (b ∷ bytes) = if b == 76 then Some (take (length bytes - 1) bytes) else None

-- the innermost class of an array type, if it has one
abbrev pub innermost_class : List ℕ → Option (List ℕ)
innermost_class descriptor = class_between (behind_brackets descriptor)

-- the set has a class of this name
abbrev pub HasClass : SetFacts → List ℕ → Type 0
HasClass set name = (class : Shape) × (class_named set name ≡ Some class)

abbrev pub HasInnermost : SetFacts → Option (List ℕ) → Type 0
HasInnermost set None = Unit {0}
HasInnermost set (Some name) = HasClass set name

-- A shape of the directory agrees with the set: it is an array type whose innermost class, if any, is in the set, or else a class of the set
-- with equal fields.
abbrev pub AgreesAs : SetFacts → Bool → Shape → Type 0
AgreesAs set true shape = HasInnermost set (innermost_class shape.name)
AgreesAs set false shape = (class : Shape) × (class_named set shape.name ≡ Some class) × (map field_of class.fields ≡ map field_of shape.fields)

abbrev pub Agrees : SetFacts → Shape → Type 0
Agrees set shape = AgreesAs set (is_array_name shape.name) shape

-- the n-th of the shapes is the first that doesn't agree
pub record IsFirstOther (set : SetFacts) (shapes : List Shape) (n : ℕ) : Type 0 where
  pub there : n < length shapes
  pub other : Agrees set (slice_index_or shapes n no_shape) → ⊥
  pub before : (k : ℕ) → k < n → Agrees set (slice_index_or shapes k no_shape)
