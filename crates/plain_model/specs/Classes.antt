-- Classes and array types as plain data (JVMS 2.2, 2.4, 4.1).
use Rattle.std.specs.Prelude.{ℕ, zero, suc, Bool, false, not, ◌||◌, List, [], Option, None}
use Rattle.ap_base.specs.declared.kind.Kind.{Kind}
use Rattle.ap_base.specs.declared.kind.Kind.TheVariants.{L}
use Rattle.graph_model.specs.declared.types.Shape.{Shape}
use Rattle.graph_model.specs.Heaps.{no_shape}

-- A class or an interface (JVMS 4.1).
pub record ClassFacts : Type 0 where
  -- its name, its instance fields, a superclass's first, and the kind of its elements: of the classes
  -- String alone has elements, its chars
  pub shape : Shape
  -- the number of its superclass, which Object alone lacks
  pub superclass : Option ℕ
  -- the numbers of its direct superinterfaces, in order
  pub interfaces : List ℕ
  pub is_interface : Bool
  pub is_abstract : Bool
  pub is_final : Bool

-- What an array's elements are in the end: numbers of a kind, objects of a class by number, or of a class
-- that the set lacks, by name.
pub data Innermost : Type 0 where
  Numbers : Kind → Innermost
  Objects : ℕ → Innermost
  Missing : List ℕ → Innermost

-- An array type by its descriptor (JVMS 2.4, 4.3.2): how many dimensions it has, at least one, and what its
-- innermost elements are.
pub record ArrayType : Type 0 where
  pub descriptor : List ℕ
  pub dimensions : ℕ
  pub innermost : Innermost

abbrev pub no_class : ClassFacts
no_class = record { shape = no_shape; superclass = None; interfaces = []; is_interface = false; is_abstract = false; is_final = false }

-- `new` makes objects of it (JVMS 6.5, new)
abbrev pub is_made : ClassFacts → Bool
is_made c = not (c.is_interface || c.is_abstract)

-- the kind of an array's elements: arrays of arrays have references
abbrev pub element_kind : ℕ → Innermost → Kind
element_kind (suc zero) (Numbers kind) = kind
element_kind dimensions innermost = L
