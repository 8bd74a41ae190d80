-- What the table of built-in classes keeps: names ascend by their bytes, superclasses may be extended,
-- interfaces are interfaces
-- (JVMS 4.1), and a superclass's fields stand first (JVMS 5.4.5). And to which classes a few of them lead
-- (JVMS 4.10.1.2).
use Rattle.std.specs.Prelude.{◌≡◌, ℕ, Bool, true, false, nat_eq, nat_lt, ◌||◌, ◌&&◌, List, [], ◌∷◌, map, length, codes, Option}
use Rattle.std.specs.Prelude.{Some, None, All}
use Rattle.ap_base.specs.declared.kind.Kind.TheVariants.{I, L}
use Rattle.graph_model.specs.declared.types.Field.{Field}
use Rattle.plain_model.specs.Classes.{ClassFacts}
use Rattle.plain_model.specs.BuiltIn.{built_in_count, built_in_classes, chars_array, arguments_array, field}
use Rattle.plain_model.specs.BuiltIn as place
use Rattle.plain_model.specs.Facts.{SetFacts, supertypes_of}
use Rattle.plain_model.specs.Consistent.{IsExtendedBy, IsInterface}

-- one name stands before another, byte by byte
abbrev pub is_before : List ℕ → List ℕ → Bool
is_before [] [] = false
is_before [] (y ∷ ys) = true
is_before (x ∷ xs) [] = false
is_before (x ∷ xs) (y ∷ ys) = nat_lt x y || (nat_eq x y && is_before xs ys)

abbrev pub is_before_all : List ℕ → List ClassFacts → Bool
is_before_all name [] = true
is_before_all name (c ∷ cs) = is_before name c.shape.name && is_before_all name cs

abbrev pub names_ascend : List ClassFacts → Bool
names_ascend [] = true
names_ascend (c ∷ cs) = is_before_all c.shape.name cs && names_ascend cs

pub record BuiltInsAreClasses : Type 0 where
  pub count : length (built_in_classes 0) ≡ built_in_count
  pub names : names_ascend (built_in_classes 0) ≡ true

-- what stands above a class, and its fields
pub record Above : Type 0 where
  pub superclass : Option ℕ
  pub interfaces : List ℕ
  pub fields : List Field

abbrev pub row : Option ℕ → List ℕ → List Field → Above
row superclass interfaces fields =
    record { superclass = superclass; interfaces = interfaces; fields = fields }

-- under Object, and without fields
abbrev pub plain : Above
plain = row (Some place.object_place) [] []

-- a throwable under this one
abbrev pub thrown_under : ℕ → Above
thrown_under super = row (Some super) [] (field (codes "message") L ∷ [])

-- the built-in classes by their names' bytes, as docs/MODEL.md says what stands above each
abbrev pub built_in_table : List Above
built_in_table =
    plain
    ∷ plain
    ∷ plain
    ∷ thrown_under place.runtime_exception_place
    ∷ thrown_under place.index_out_of_bounds_exception_place
    ∷ thrown_under place.runtime_exception_place
    ∷ thrown_under place.runtime_exception_place
    ∷ plain
    ∷ thrown_under place.throwable_place
    ∷ thrown_under place.throwable_place
    ∷ thrown_under place.runtime_exception_place
    ∷ thrown_under place.runtime_exception_place
    ∷ thrown_under place.runtime_exception_place
    ∷ thrown_under place.illegal_argument_exception_place
    ∷ thrown_under place.runtime_exception_place
    ∷ thrown_under place.exception_place
    ∷ thrown_under place.runtime_exception_place
    ∷ thrown_under place.runtime_exception_place
    ∷ row None [] []
    ∷ plain
    ∷ thrown_under place.exception_place
    ∷ row (Some place.object_place) (place.serializable_place ∷ []) []
    ∷ row (Some place.object_place) (place.serializable_place ∷ [])
    (field (codes "value") L ∷ field (codes "count") I ∷ [])
    ∷ thrown_under place.index_out_of_bounds_exception_place
    ∷ plain
    ∷ row (Some place.object_place) (place.runnable_place ∷ []) (field (codes "target") L ∷ [])
    ∷ row (Some place.object_place) (place.serializable_place ∷ []) (field (codes "message") L ∷ [])
    ∷ thrown_under place.runtime_exception_place
    ∷ []

abbrev pub BuiltInsAreThoseOfTheTable : Type 0
BuiltInsAreThoseOfTheTable =
    map (λ (c : ClassFacts). row c.superclass c.interfaces c.shape.fields) (built_in_classes 0)
    ≡ built_in_table

abbrev pub IsUnder : SetFacts → ClassFacts → Option ℕ → Type 0
IsUnder set c None = Unit {0}
IsUnder set c (Some super) = IsExtendedBy set c super

-- In every class set the built-in classes link, whatever the program's classes are.
pub record BuiltInsLink (set : SetFacts) : Type 0 where
  pub supers : All (λ (c : ClassFacts). IsUnder set c c.superclass) (built_in_classes (length set.program))
  pub interfaces : All (λ (c : ClassFacts). All (IsInterface set) c.interfaces)
      (built_in_classes (length set.program))

abbrev pub BuiltInsOfSetsLink : Type 0
BuiltInsOfSetsLink = (set : SetFacts) → BuiltInsLink set

-- a set without a program
abbrev pub built_in_set : SetFacts
built_in_set = record {
  program = [];
  arrays = chars_array ∷ arguments_array 0 ∷ [];
  statics = [];
  literals = [];
}

-- the class itself, its superclasses, and all their superinterfaces
pub record SupertypesAreFollowed : Type 0 where
  pub exception : supertypes_of built_in_set place.array_index_out_of_bounds_exception_place
      ≡ (place.array_index_out_of_bounds_exception_place ∷ place.index_out_of_bounds_exception_place
      ∷ place.runtime_exception_place ∷ place.exception_place ∷ place.throwable_place ∷ place.object_place
      ∷ place.serializable_place ∷ [])
  pub thread : supertypes_of built_in_set place.thread_place
      ≡ (place.thread_place ∷ place.object_place ∷ place.runnable_place ∷ [])
  pub builder : supertypes_of built_in_set place.string_builder_place
      ≡ (place.string_builder_place ∷ place.object_place ∷ place.serializable_place ∷ [])
  pub interface : supertypes_of built_in_set place.runnable_place
      ≡ (place.runnable_place ∷ place.object_place ∷ [])
  pub object : supertypes_of built_in_set place.object_place ≡ (place.object_place ∷ [])
