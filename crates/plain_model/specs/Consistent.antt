-- What the facts of a class set keep. A set is complete where what the runtime names itself is there. It is
-- consistent where it is that of class files that link: names differ, superclasses and superinterfaces are
-- there, of the right sort and without a circle, fields begin with those of the superclass, and static
-- fields and array types are of their kinds.
use Rattle.std.specs.Prelude.{◌≡◌, ◌≢◌, ℕ, ◌<◌, ◌^◌, true, false, List, [], ◌∷◌, ◌++◌, length, take, replicate, Option, Some}
use Rattle.std.specs.Prelude.{None, All, AllPairs, Contains}
use Rattle.ap_base.specs.declared.kind.Kind.{Kind}
use Rattle.ap_base.specs.declared.kind.Kind.TheVariants.{Z, B, C, S, I, J, L, Text}
use Rattle.graph_model.specs.declared.types.Field.{Field}
use Rattle.graph_model.specs.declared.types.Value.TheVariants.{Int, Long}
use Rattle.plain_model.specs.Classes.{ClassFacts, ArrayType, Innermost, Numbers, Objects, Missing}
use Rattle.plain_model.specs.BuiltIn.{chars_array, arguments_array}
use Rattle.plain_model.specs.Facts.{StaticFacts, Constant, IntConstant, LongConstant, LiteralConstant, SetFacts, class_count}
use Rattle.plain_model.specs.Facts.{classes_of, class_at, is_subclass}
use Rattle.plain_model.specs.Kinds.{HasKind}

-- ---- complete sets

-- the constant is a number, or one of so many literals
abbrev pub IsConstantBelow : ℕ → Option Constant → Type 0
IsConstantBelow n None = Unit {0}
IsConstantBelow n (Some (IntConstant i)) = Unit {0}
IsConstantBelow n (Some (LongConstant i)) = Unit {0}
IsConstantBelow n (Some (LiteralConstant k)) = k < n

pub record IsComplete (set : SetFacts) : Type 0 where
  pub chars : Contains set.arrays chars_array
  pub arguments : Contains set.arrays (arguments_array (length set.program))
  pub constants : All (λ (s : StaticFacts). IsConstantBelow (length set.literals) s.constant) set.statics

-- ---- classes

-- This class may be extended (JVMS 4.1, 5.3.5), and the fields of the one that does so begin with its own
-- (JVMS 5.4.5).
pub record IsExtendedBy (set : SetFacts) (c : ClassFacts) (super : ℕ) : Type 0 where
  pub there : super < class_count set
  pub is_class : (class_at set super).is_interface ≡ false
  pub not_final : (class_at set super).is_final ≡ false
  pub fields : take (length (class_at set super).shape.fields) c.shape.fields ≡ (class_at set super).shape.fields

abbrev pub IsInterface : SetFacts → ℕ → Type 0
IsInterface set n = (n < class_count set) × ((class_at set n).is_interface ≡ true)

-- a kind of fields: that of a descriptor, and not of a String's chars
abbrev pub IsFieldKind : Kind → Type 0
IsFieldKind Text = ⊥
IsFieldKind kind = Unit {0}

pub record IsProgramClass (set : SetFacts) (c : ClassFacts) : Type 0 where
  pub super : (s : ℕ) × (c.superclass ≡ Some s) × IsExtendedBy set c s
  pub interfaces : All (IsInterface set) c.interfaces
  pub no_elements : c.shape.element ≡ None
  pub kinds : All (λ (f : Field). IsFieldKind f.kind) c.shape.fields

abbrev pub super_list : Option ℕ → List ℕ
super_list None = []
super_list (Some super) = super ∷ []

-- the superclass, if there is one, and the superinterfaces
abbrev pub supers_of : ClassFacts → List ℕ
supers_of c = super_list c.superclass ++ c.interfaces

-- ---- array types

-- the letter of a kind of numbers in a descriptor (JVMS 4.3.2)
abbrev pub kind_letter : Kind → ℕ
kind_letter Z = 90
kind_letter B = 66
kind_letter C = 67
kind_letter S = 83
kind_letter I = 73
kind_letter J = 74
kind_letter L = 76
kind_letter Text = 76

abbrev pub class_descriptor : List ℕ → List ℕ
class_descriptor name = 76 ∷ name ++ 59 ∷ []

abbrev pub innermost_descriptor : SetFacts → Innermost → List ℕ
innermost_descriptor set (Numbers kind) = kind_letter kind ∷ []
innermost_descriptor set (Objects n) = class_descriptor (class_at set n).shape.name
innermost_descriptor set (Missing name) = class_descriptor name

abbrev pub IsNumberKind : Kind → Type 0
IsNumberKind L = ⊥
IsNumberKind Text = ⊥
IsNumberKind kind = Unit {0}

-- a kind of numbers, a class of the set, or the name of none
abbrev pub IsInnermost : SetFacts → Innermost → Type 0
IsInnermost set (Numbers kind) = IsNumberKind kind
IsInnermost set (Objects n) = n < class_count set
IsInnermost set (Missing name) = All (λ (c : ClassFacts). c.shape.name ≢ name) (take (class_count set) (classes_of set))

pub record IsArrayType (set : SetFacts) (a : ArrayType) : Type 0 where
  pub dimensions : 0 < a.dimensions
  pub innermost : IsInnermost set a.innermost
  pub descriptor : a.descriptor ≡ replicate a.dimensions 91 ++ innermost_descriptor set a.innermost

-- ---- static fields

abbrev pub IsConstantOf : Kind → Option Constant → Type 0
IsConstantOf kind None = Unit {0}
IsConstantOf kind (Some (IntConstant i)) = HasKind kind (Int i)
IsConstantOf kind (Some (LongConstant i)) = HasKind kind (Long i)
IsConstantOf kind (Some (LiteralConstant k)) = kind ≡ L

-- the name of the class and a field's, joined by a dot
abbrev pub IsNameIn : SetFacts → ℕ → List ℕ → Type 0
IsNameIn set class name = (field : List ℕ) × (name ≡ (class_at set class).shape.name ++ 46 ∷ field)

-- A static field is of a class of the program, whose name stands first in its own, its constant is of its
-- kind, and a durable root is a reference.
pub record IsStaticOfProgram (set : SetFacts) (s : StaticFacts) : Type 0 where
  pub class : s.class < length set.program
  pub name : IsNameIn set s.class s.name
  pub kind : IsFieldKind s.kind
  pub constant : IsConstantOf s.kind s.constant
  pub root : s.is_root ≡ true → s.kind ≡ L

-- ---- the set

pub record IsConsistent (set : SetFacts) : Type 0 where
  pub complete : IsComplete set
  pub names_differ : AllPairs (λ (c d : ClassFacts). c.shape.name ≢ d.shape.name) (classes_of set)
  pub classes : All (IsProgramClass set) set.program
  -- no class above another is its subclass
  pub no_circle : (n : ℕ) → n < class_count set → All (λ super. is_subclass set super n ≡ false) (supers_of (class_at set n))
  pub arrays : All (IsArrayType set) set.arrays
  pub statics : All (IsStaticOfProgram set) set.statics
  -- literals have chars, and no two are the same
  pub chars : All (λ (chars : List ℕ). All (λ c. c < 2 ^ 16) chars) set.literals
  pub literals_differ : AllPairs (λ (left right : List ℕ). left ≢ right) set.literals
