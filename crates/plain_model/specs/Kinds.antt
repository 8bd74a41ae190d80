-- Kinds of values (JVMS 2.3, 2.4): their form, what a store into a place of a kind keeps, and what such a place may hold. What it
-- holds at first is `default_of`.
use Rattle.std.specs.Prelude.{◌≡◌, pos, ◌^◌, List, Option, Some, None, All}
use Rattle.std.specs.Int.{w8, w16, int_wrap, int_rem_euclid}
use Rattle.std.specs.List.{AllZip}
use Rattle.ap_base.specs.declared.kind.Kind.{Kind}
use Rattle.ap_base.specs.declared.kind.Kind.TheVariants.{Z, B, C, S, J, L}
use Rattle.graph_model.specs.declared.types.Value.{Value}
use Rattle.graph_model.specs.declared.types.Value.TheVariants.{Int, Long, Null, Obj as Object}
use Rattle.graph_model.specs.declared.types.Field.{Field}

-- What a store into a place of this kind keeps of a value (JVMS 2.11.1: narrowing). A boolean place keeps the lowest bit.
abbrev pub narrowed : Kind → Value → Value
narrowed Z (Int i) = Int (int_rem_euclid i (pos 2))
narrowed B (Int i) = Int (int_wrap w8 i)
narrowed C (Int i) = Int (int_rem_euclid i (pos (2 ^ 16)))
narrowed S (Int i) = Int (int_wrap w16 i)
narrowed kind value = value

-- a value of this kind's form: a reference, a long, or an int for every other kind
abbrev pub HasKind : Kind → Value → Type 0
HasKind L Null = Unit {0}
HasKind L (Object n) = Unit {0}
HasKind L value = ⊥
HasKind J (Long i) = Unit {0}
HasKind J value = ⊥
HasKind kind (Int i) = Unit {0}
HasKind kind value = ⊥

-- A boolean is 0 or 1, a char has 16 bits. A byte and a short may be any int: an image has the 32 bits of one in such a slot, and
-- stores alone narrow.
abbrev pub HasRange : Kind → Value → Type 0
HasRange Z value = narrowed Z value ≡ value
HasRange C value = narrowed C value ≡ value
HasRange kind value = Unit {0}

-- a value that a place of this kind may hold
pub record IsOf (kind : Kind) (value : Value) : Type 0 where
  pub form : HasKind kind value
  pub range : HasRange kind value

-- values of an object with these elements or, where it has none, these fields
abbrev pub AreOf : Option Kind → List Field → List Value → Type 0
AreOf None fields values = AllZip (λ (f : Field) value. IsOf f.kind value) fields values
AreOf (Some kind) fields values = All (IsOf kind) values
