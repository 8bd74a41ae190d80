-- The kinds of slots: no class of a consistent set has a slot of kind Text, and what a slot of an object
-- holds is of the slot's kind.
use Rattle.std.proofs.Common.{◌≡◌, ◌≢◌, ℕ, zero, suc, ◌<◌, ◌&&◌, Bool, true, false, List, [], ◌∷◌, ◌++◌, map, length, Option}
use Rattle.std.proofs.Common.{Some, None, slice_get, refl, sym, ◌∙◌, ap, subst, arith}
use Rattle.std.specs.Prelude.{All, slice_index_or}
use Rattle.std.specs.List.{AllZip}
use Rattle.std.proofs.lemmas.Bool.{and_from, and_parts, false≢true}
use Rattle.std.proofs.lemmas.List.Elements.{All-append, All-cons, All-get_or, All-head, All-map, All-tail, All-weaker}
use Rattle.ap_base.specs.declared.kind.Kind.{Kind}
use Rattle.ap_base.specs.declared.kind.Kind.TheVariants.{Z, B, C, S, I, J, L, Text}
use Rattle.graph_model.specs.declared.types.Field.{Field}
use Rattle.graph_model.specs.declared.types.Shape.{Shape}
use Rattle.graph_model.specs.declared.types.Value.{Value}
use Rattle.graph_model.specs.declared.types.Value.TheVariants.{Null}
use Rattle.plain_model.specs.BuiltIn.{array_class, built_in_classes}
use Rattle.plain_model.specs.Classes.{ClassFacts, ArrayType, Innermost, Numbers, Objects, Missing, element_kind, no_class}
use Rattle.plain_model.specs.Consistent.{IsConsistent, IsProgramClass, IsArrayType, IsFieldKind, IsInnermost}
use Rattle.plain_model.specs.Facts.{SetFacts, classes_of, class_at}
use Rattle.plain_model.specs.Kinds.{IsOf, AreOf}
use Rattle.twin_forms.specs.Sights.{kind_in}
use Rattle.twin_heap.specs.Here.{kind_of_field, kinds_of}

-- ---- which classes

abbrev pub is_plain : Kind → Bool
is_plain Text = false
is_plain kind = true

abbrev plain_element : Option Kind → Bool
plain_element None = true
plain_element (Some kind) = is_plain kind

abbrev plain_fields : List Field → Bool
plain_fields [] = true
plain_fields (f ∷ fs) = is_plain f.kind && plain_fields fs

abbrev pub is_plain_shape : Shape → Bool
is_plain_shape shape = plain_element shape.element && plain_fields shape.fields

abbrev are_plain : List ClassFacts → Bool
are_plain [] = true
are_plain (c ∷ cs) = is_plain_shape c.shape && are_plain cs

abbrev IsPlain : ClassFacts → Type 0
IsPlain c = is_plain_shape c.shape ≡ true

all_plain : (cs : List ClassFacts) → are_plain cs ≡ true → All IsPlain cs
all_plain [] is = λ k d lt. absurd (omega (arith, lt))
all_plain (c ∷ cs) is =
    let parts = and_parts (is_plain_shape c.shape) (are_plain cs) is in
    All-cons IsPlain c cs parts.0 (all_plain cs parts.1)

field_plain : (kind : Kind) → IsFieldKind kind → is_plain kind ≡ true
field_plain Text is = absurd is
field_plain Z is = refl
field_plain B is = refl
field_plain C is = refl
field_plain S is = refl
field_plain I is = refl
field_plain J is = refl
field_plain L is = refl

fields_plain : (fs : List Field) → All (λ (f : Field). IsFieldKind f.kind) fs → plain_fields fs ≡ true
fields_plain [] all = refl
fields_plain (f ∷ fs) all =
    let Is : Field → Type 0 = λ (x : Field). IsFieldKind x.kind in
    and_from (is_plain f.kind) (plain_fields fs) (field_plain f.kind (All-head Is f fs all))
    (fields_plain fs (All-tail Is f fs all))

program_plain : (set : SetFacts) (c : ClassFacts) → IsProgramClass set c → IsPlain c
program_plain set c is =
    and_from (plain_element c.shape.element) (plain_fields c.shape.fields) (ap plain_element is.no_elements)
    (fields_plain c.shape.fields is.kinds)

innermost_plain : (set : SetFacts) (dimensions : ℕ) (innermost : Innermost) → IsInnermost set innermost
    → is_plain (element_kind dimensions innermost) ≡ true
innermost_plain set zero innermost is = refl
innermost_plain set (suc zero) (Numbers Z) is = refl
innermost_plain set (suc zero) (Numbers B) is = refl
innermost_plain set (suc zero) (Numbers C) is = refl
innermost_plain set (suc zero) (Numbers S) is = refl
innermost_plain set (suc zero) (Numbers I) is = refl
innermost_plain set (suc zero) (Numbers J) is = refl
innermost_plain set (suc zero) (Numbers L) is = absurd is
innermost_plain set (suc zero) (Numbers Text) is = absurd is
innermost_plain set (suc zero) (Objects n) is = refl
innermost_plain set (suc zero) (Missing name) is = refl
innermost_plain set (suc (suc n)) innermost is = refl

array_plain : (set : SetFacts) (first : ℕ) (a : ArrayType) → IsArrayType set a → IsPlain (array_class first a)
array_plain set first a is =
    and_from (is_plain (element_kind a.dimensions a.innermost)) true
    (innermost_plain set a.dimensions a.innermost is.innermost) refl

pub classes_plain : (set : SetFacts) → IsConsistent set → All IsPlain (classes_of set)
classes_plain set consistent =
    let first = length set.program in
    let arrays = map (array_class first) set.arrays in
    All-append IsPlain (set.program ++ built_in_classes first) arrays
    (All-append IsPlain set.program (built_in_classes first)
    (All-weaker (IsProgramClass set) IsPlain (program_plain set) set.program consistent.classes)
    (all_plain (built_in_classes first) refl))
    (All-map IsPlain (array_class first) set.arrays
    (All-weaker (IsArrayType set) (λ a. IsPlain (array_class first a)) (array_plain set first) set.arrays
    consistent.arrays))

pub class_plain : (set : SetFacts) → IsConsistent set → (c : ℕ) → c < length (classes_of set)
    → is_plain_shape (class_at set c).shape ≡ true
class_plain set consistent c lt = All-get_or IsPlain (classes_of set) c no_class lt
    (classes_plain set consistent)

-- ---- slots of a shape

some_kind : (a b : Kind) → Some a ≡ Some b → a ≡ b
some_kind a b e = ap (λ (o : Option Kind). elim o [ None ↦ a | Some k ↦ k ]) e

not_text : (kind : Kind) → is_plain kind ≡ true → kind ≢ Text
not_text kind plain is = false≢true (ap is_plain (sym is) ∙ plain)

field_not_text : (fs : List Field) (k : ℕ) (kind : Kind) → plain_fields fs ≡ true
    → slice_get (map kind_of_field fs) k ≡ Some kind → kind ≢ Text
field_not_text [] k kind plain is = absurd (let no = is in cc)
field_not_text (f ∷ fs) zero kind plain is =
    let parts = and_parts (is_plain f.kind) (plain_fields fs) plain in
    not_text kind (ap is_plain (sym (some_kind f.kind kind is)) ∙ parts.0)
field_not_text (f ∷ fs) (suc k) kind plain is =
    let parts = and_parts (is_plain f.kind) (plain_fields fs) plain in
    field_not_text fs k kind parts.1 is

pub slot_not_text : (shape : Shape) (k : ℕ) (kind : Kind) → is_plain_shape shape ≡ true
    → kind_in (kinds_of shape) k ≡ Some kind → kind ≢ Text
slot_not_text shape k kind plain is =
    let parts = and_parts (plain_element shape.element) (plain_fields shape.fields) plain in
    elim shape.element as (λ element. plain_element element ≡ true
    → (elim element [ None ↦ slice_get (map kind_of_field shape.fields) k | Some own ↦ Some own ])
    ≡ Some kind → kind ≢ Text) [
      | None ↦ λ p e. field_not_text shape.fields k kind parts.1 e
      | Some own ↦ λ p e. not_text kind (ap is_plain (sym (some_kind own kind e)) ∙ p)
    ] parts.0 is

-- ---- what a slot holds

by_field : (fs : List Field) (values : List Value) (k : ℕ) (kind : Kind)
    → AllZip (λ (f : Field) value. IsOf f.kind value) fs values
    → slice_get (map kind_of_field fs) k ≡ Some kind → IsOf kind (slice_index_or values k Null)
by_field [] values k kind all is = absurd (let no = is in cc)
by_field (f ∷ fs) [] k kind all is = absurd all
by_field (f ∷ fs) (x ∷ xs) zero kind all is = subst (λ own. IsOf own x) (some_kind f.kind kind is) all.0
by_field (f ∷ fs) (x ∷ xs) (suc k) kind all is = by_field fs xs k kind all.1 is

-- an object of the shape, with values of its kinds
pub slot_is_of : (shape : Shape) (values : List Value) (k : ℕ) (kind : Kind)
    → AreOf shape.element shape.fields values → k < length values → kind_in (kinds_of shape) k ≡ Some kind
    → IsOf kind (slice_index_or values k Null)
slot_is_of shape values k kind are lk is =
    elim shape.element as (λ element. AreOf element shape.fields values
    → (elim element [ None ↦ slice_get (map kind_of_field shape.fields) k | Some own ↦ Some own ]) ≡ Some kind
    → IsOf kind (slice_index_or values k Null)) [
      | None ↦ λ a e. by_field shape.fields values k kind a e
      | Some own ↦ λ a e. subst (λ x. IsOf x (slice_index_or values k Null)) (some_kind own kind e)
          (All-get_or (IsOf own) values k Null lk a)
    ] are is
