-- Heaps of a class set: where the places are that fit requests name, and of which kind they are.
use Rattle.std.proofs.Common.{◌≡◌, ℕ, ◌≤◌, pos, true, refl, ap, sym, ◌∙◌, length, not, ◌&&◌, inl, inr, arith}
use Rattle.std.specs.Prelude.{Option, Some, None}
use Rattle.std.proofs.Math.ListN.{get_or-map}
use Rattle.std.proofs.lemmas.Bool.{false≢true, eqb-true, and_parts}
use Rattle.std.proofs.lemmas.Option.{slice_get_within}
use Rattle.ap_base.specs.declared.kind.Kind.{Kind}
use Rattle.ap_base.specs.declared.kind.Kind.TheVariants.{Z, B, C, S, I, J, L, Text}
use Rattle.run_types.specs.declared.resolved.FieldAt.{FieldAt}
use Rattle.graph_model.specs.declared.types.Value.{Value}
use Rattle.graph_model.specs.declared.types.Value.TheVariants.{Int, Long, Null, Obj as Object}
use Rattle.graph_model.specs.declared.types.Field.{Field}
use Rattle.graph_model.specs.declared.types.Heap.{Heap}
use Rattle.graph_model.specs.Heaps.{IsBelow, shape_at}
use Rattle.run_history.specs.Worlds.{World}
use Rattle.plain_model.specs.Classes.{ClassFacts, no_class}
use Rattle.plain_model.specs.Facts.{SetFacts, classes_of, class_at, element_of, shapes_of, string_number}
use Rattle.plain_model.specs.Kinds.{HasKind, IsOf}
use Rattle.plain_model.specs.Consistent.{IsConsistent}
use Rattle.plain_model.specs.SetLaws.{HasField}
use Rattle.plain_model.specs.Steps.{shape_of, is_of, is_kind, is_string, is_array_of, has_elements, own_kind}
use Rattle.plain_model.specs.Duties.{IsOfKind, IsStaticField, IsInstanceField}
use Rattle.plain_model.specs.Typed.{static_kind}
use Rattle.plain_model.specs.Replies.{read_kind}
use Rattle.plain_model.proofs.Consistent.{text_elements}
use Rattle.plain_model.proofs.Subtypes.{subtypes_have_fields}

-- the heap's shapes are those of the set's classes
pub shape_is : (set : SetFacts) (heap : Heap) → heap.shapes ≡ shapes_of set → (n : ℕ)
    → shape_at heap n ≡ (class_at set n).shape
shape_is set heap same n = rw same (get_or-map (λ (c : ClassFacts). c.shape) (classes_of set) n no_class)

-- ---- values

pub form_is : (world : World) (kind : Kind) (value : Value) → IsOfKind world kind value → HasKind kind value
form_is world L Null of = tt
form_is world L (Object n) of = tt
form_is world J (Long i) of = tt
form_is world Z (Int i) of = tt
form_is world B (Int i) of = tt
form_is world C (Int i) of = tt
form_is world S (Int i) of = tt
form_is world I (Int i) of = tt
form_is world Text (Int i) of = tt
form_is world kind value of = absurd of

pub value_below : (world : World) (kind : Kind) (value : Value) → IsOfKind world kind value
    → IsBelow (length world.heap.objects) value
value_below world kind (Int i) of = tt
value_below world kind (Long i) of = tt
value_below world kind Null of = tt
value_below world L (Object n) of = of
value_below world kind (Object n) of = absurd of

int_form : (value : Value) → HasKind I value → (kind : Kind) → HasKind kind (Int (pos 0)) → HasKind kind value
int_form (Int i) form Z is = tt
int_form (Int i) form B is = tt
int_form (Int i) form C is = tt
int_form (Int i) form S is = tt
int_form (Int i) form I is = tt
int_form (Int i) form Text is = tt
int_form (Int i) form kind is = absurd is
int_form value form kind is = absurd form

-- a bit is a byte
bit_is_byte : (value : Value) → IsOf Z value → IsOf B value
bit_is_byte (Int i) is = record { form = tt; range = tt }
bit_is_byte (Long i) is = absurd is.form
bit_is_byte Null is = absurd is.form
bit_is_byte (Object n) is = absurd is.form

-- ---- elements

-- an array with elements of the second kind serves requests for the first
pub record Serves (world : World) (kind element : Kind) : Type 0 where
  pub stores : (value : Value) → IsOfKind world kind value → HasKind element value
  pub reads : (value : Value) → IsOf element value → IsOf (read_kind kind) value

own_serves : (world : World) (kind : Kind) → read_kind kind ≡ kind → Serves world kind kind
own_serves world kind same = record { stores = form_is world kind; reads = λ value is. rw same is }

kinds_serve : (world : World) (kind element : Kind) → is_kind kind element ≡ true → Serves world kind element
kinds_serve world Z Z is = own_serves world Z refl
kinds_serve world B B is = own_serves world B refl
kinds_serve world B Z is =
    record { stores = λ value of. int_form value (form_is world B value of) Z tt; reads = bit_is_byte }
kinds_serve world C C is = own_serves world C refl
kinds_serve world S S is = own_serves world S refl
kinds_serve world I I is = own_serves world I refl
kinds_serve world J J is = own_serves world J refl
kinds_serve world L L is = own_serves world L refl
kinds_serve world kind element is = absurd (false≢true is)

text_serves : (world : World) → Serves world Text C
text_serves world =
    record { stores = λ value of. int_form value (form_is world Text value of) C tt; reads = λ value is. is }

-- the array's own elements serve the request
pub record HasServing (set : SetFacts) (world : World) (kind : Kind) (n : ℕ) : Type 0 where
  pub elements : element_of set (shape_of set world n) ≡ Some (own_kind set world kind n)
  pub serves : Serves world kind (own_kind set world kind n)

module _ (set : SetFacts) (world : World) where
  text_serving : (n : ℕ) → is_string set world n ≡ true → HasServing set world Text n
  text_serving n string =
      let same = eqb-true (shape_of set world n) (string_number set) string in
      let its : element_of set (shape_of set world n) ≡ Some C =
      ap (element_of set) same ∙ text_elements set in
      let own : own_kind set world Text n ≡ C = rw its refl in
      record { elements = its ∙ ap Some (sym own); serves = rw own (text_serves world) }

  serving : (kind : Kind) (n : ℕ) (element : Option Kind) → element_of set (shape_of set world n) ≡ element
      → is_array_of set world kind element ≡ true → HasServing set world kind n
  serving kind n None its is = absurd (false≢true is)
  serving kind n (Some element) its is =
      let own : own_kind set world kind n ≡ element = rw its refl in
      record { elements = its ∙ ap Some (sym own); serves = rw own (kinds_serve world kind element is) }

  array_serving : (kind : Kind) (n : ℕ)
      → (not (is_string set world n) && is_array_of set world kind (element_of set (shape_of set world n)))
      ≡ true
      → HasServing set world kind n
  array_serving kind n has =
      let element = element_of set (shape_of set world n) in
      serving kind n element refl
      (and_parts (not (is_string set world n)) (is_array_of set world kind element) has).1

  pub has_serving : (kind : Kind) (n : ℕ) → has_elements set world kind n ≡ true → HasServing set world kind n
  has_serving Text n has = text_serving n has
  has_serving Z n has = array_serving Z n has
  has_serving B n has = array_serving B n has
  has_serving C n has = array_serving C n has
  has_serving S n has = array_serving S n has
  has_serving I n has = array_serving I n has
  has_serving J n has = array_serving J n has
  has_serving L n has = array_serving L n has

  -- ---- fields

  -- the object has a slot of the field's kind at the field's place
  pub record HasSlotOf (n : ℕ) (field : FieldAt) : Type 0 where
    pub own : Field
    pub has : HasField set (shape_of set world n) field.at own
    pub kind : own.kind ≡ field.kind

  pub field_there : IsConsistent set → (n : ℕ) (field : FieldAt) → is_of set world field.class n ≡ true
      → IsInstanceField set field → HasSlotOf n field
  field_there consistent n field of (class, not_static, not_interface, (own, at, kind)) = record {
    own = own;
    has = subtypes_have_fields set consistent (shape_of set world n) field.class field.at own
        of not_interface at;
    kind = kind;
  }

-- ---- static fields

pub static_there : (set : SetFacts) (field : FieldAt) → IsStaticField set field
    → field.at ≤ length set.statics
static_there set field (class, is_static, inl stream) = omega (arith, stream.0)
static_there set field (class, is_static, inr (k, s, at, is, kind, same)) =
    omega (arith, at, slice_get_within set.statics k s is)

pub static_kind_is : (set : SetFacts) (field : FieldAt) → IsStaticField set field
    → static_kind set field.at ≡ field.kind
static_kind_is set field (class, is_static, inl stream) = rw (stream.0) (sym stream.1)
static_kind_is set field (class, is_static, inr (k, s, at, is, kind, same)) = rw (at, is) kind
