-- Kinds of values, and which places take them.
use Rattle.std.proofs.Common.{◌≡◌, ℕ, pos, ◌<◌, [], true, not, ◌&&◌, nat_eq, length, slice_get, Option, Some, None, refl, ap}
use Rattle.std.proofs.Common.{◌∙◌, sym, subst}
use Rattle.std.proofs.lemmas.Bool.{false≢true, eqb-true, and_parts}
use Rattle.std.proofs.lemmas.List.Elements.{All-get_or}
use Rattle.std.proofs.lemmas.Option.{slice_get_within}
use Rattle.ap_base.specs.declared.kind.Kind.{Kind}
use Rattle.ap_base.specs.declared.kind.Kind.TheVariants.{Z, B, C, S, I, J, L, Text}
use Rattle.run_types.specs.declared.resolved.FieldAt.{FieldAt}
use Rattle.graph_model.specs.declared.types.Value.{Value}
use Rattle.graph_model.specs.declared.types.Value.TheVariants.{Int, Long, Null, Obj as Object}
use Rattle.graph_model.specs.declared.types.Shape.{Shape}
use Rattle.graph_model.specs.declared.types.Field.{Field}
use Rattle.graph_model.specs.Heaps.{no_object}
use Rattle.run_history.specs.Worlds.{World}
use Rattle.plain_model.specs.Facts.{SetFacts, class_at, element_of, is_sub, string_number}
use Rattle.plain_model.specs.Kinds.{HasKind, narrowed}
use Rattle.plain_model.specs.Laws.{HasItsSlots}
use Rattle.plain_model.specs.Duties.{IsInstanceField}
use Rattle.plain_model.specs.Steps.{is_kind}
use Rattle.plain_model.proofs.Consistent.{text_elements}
use Rattle.plain_model.proofs.Typing.{narrowed_is}
use Rattle.plain_model.proofs.SetHeaps.{shape_is, field_there, HasSlotOf}
use Rattle.shared_objects.specs.Shown.{Shown, IsSameForm, IsOfKindIn, object_in, shape_in, slot_kind, kind_in, field_kind}
use Rattle.shared_objects.specs.Worlds.{heap_of}
use Rattle.step_forms.specs.Follows.{IsHeapOf}
use Rattle.object_steps.specs.Elements.{serves, has_elements_of}

pub narrowed_form : (kind : Kind) (value : Value) → HasKind kind value → HasKind kind (narrowed kind value)
narrowed_form kind value form = (narrowed_is kind value form).form

pub same_form : (kind : Kind) (left right : Value) → HasKind kind left → HasKind kind right
    → IsSameForm left right
same_form L Null right a b = b
same_form L (Object n) right a b = b
same_form J (Long i) (Long j) a b = tt
same_form Z (Int i) (Int j) a b = tt
same_form B (Int i) (Int j) a b = tt
same_form C (Int i) (Int j) a b = tt
same_form S (Int i) (Int j) a b = tt
same_form I (Int i) (Int j) a b = tt
same_form Text (Int i) (Int j) a b = tt
same_form J (Long i) right a b = absurd b
same_form Z (Int i) right a b = absurd b
same_form B (Int i) right a b = absurd b
same_form C (Int i) right a b = absurd b
same_form S (Int i) right a b = absurd b
same_form I (Int i) right a b = absurd b
same_form Text (Int i) right a b = absurd b
same_form kind left right a b = absurd a

-- an object that a place keeps is the one that was given
pub kept_object : (kind : Kind) (value : Value) (n : ℕ) → narrowed kind value ≡ Object n → value ≡ Object n
kept_object Z (Int i) n e = cc
kept_object B (Int i) n e = cc
kept_object C (Int i) n e = cc
kept_object S (Int i) n e = cc
kept_object Z (Long i) n e = e
kept_object B (Long i) n e = e
kept_object C (Long i) n e = e
kept_object S (Long i) n e = e
kept_object Z Null n e = e
kept_object B Null n e = e
kept_object C Null n e = e
kept_object S Null n e = e
kept_object Z (Object m) n e = e
kept_object B (Object m) n e = e
kept_object C (Object m) n e = e
kept_object S (Object m) n e = e
kept_object I value n e = e
kept_object J value n e = e
kept_object L value n e = e
kept_object Text value n e = e

-- ---- elements

int_form : (kind : Kind) (value : Value) → HasKind I value → HasKind kind (Int (pos 0)) → HasKind kind value
int_form Z (Int i) form is = tt
int_form B (Int i) form is = tt
int_form C (Int i) form is = tt
int_form S (Int i) form is = tt
int_form I (Int i) form is = tt
int_form Text (Int i) form is = tt
int_form J (Int i) form is = absurd is
int_form L (Int i) form is = absurd is
int_form kind value form is = absurd form

served_form : (kind element : Kind) (value : Value) → is_kind kind element ≡ true → HasKind kind value
    → HasKind element value
served_form Z Z value is form = form
served_form B B value is form = form
served_form B Z (Int i) is form = tt
served_form B Z value is form = absurd form
served_form C C value is form = form
served_form S S value is form = form
served_form I I value is form = form
served_form J J value is form = form
served_form L L value is form = form
served_form kind element value is form = absurd (false≢true is)

text_form : (value : Value) → HasKind Text value → HasKind C value
text_form (Int i) form = tt
text_form value form = absurd form

-- the class has elements that take values for this kind
pub record IsServed (set : SetFacts) (kind : Kind) (class : ℕ) : Type 0 where
  pub element : Kind
  pub is : element_of set class ≡ Some element
  pub takes : (value : Value) → HasKind kind value → HasKind element value

by_element : (set : SetFacts) (kind : Kind) (class : ℕ) (o : Option Kind) → element_of set class ≡ o
    → serves kind o ≡ true
    → IsServed set kind class
by_element set kind class None is test = absurd (false≢true test)
by_element set kind class (Some element) is test =
    record { element = element; is = is; takes = λ value form. served_form kind element value test form }

array_served : (set : SetFacts) (kind : Kind) (class : ℕ)
    → (not (nat_eq class (string_number set)) && serves kind (element_of set class)) ≡ true
    → IsServed set kind class
array_served set kind class test =
    by_element set kind class (element_of set class) refl
    (and_parts (not (nat_eq class (string_number set))) (serves kind (element_of set class)) test).1

pub served : (set : SetFacts) (kind : Kind) (class : ℕ) → has_elements_of set kind class ≡ true
    → IsServed set kind class
served set Text class test = record {
  element = C;
  is = ap (element_of set) (eqb-true class (string_number set) test) ∙ text_elements set;
  takes = text_form;
}
served set Z class test = array_served set Z class test
served set B class test = array_served set B class test
served set C class test = array_served set C class test
served set S class test = array_served set S class test
served set I class test = array_served set I class test
served set J class test = array_served set J class test
served set L class test = array_served set L class test

-- ---- slots

-- what the place and its kind are
pub record HasItsSlot (shown : Shown) (n i : ℕ) (k : Kind) : Type 0 where
  pub within : i < length (object_in shown n).values
  pub kind : slot_kind shown n i ≡ Some k

kind_of_field : (fields : _) (element : Option Kind) (i : ℕ) (f : Field) → element ≡ None
    → slice_get fields i ≡ Some f
    → kind_in (record { name = []; fields = fields; element = element }) i ≡ Some f.kind
kind_of_field fields None i f none is = ap field_kind is
kind_of_field fields (Some kind) i f none is = cc

kind_of_element : (fields : _) (element : Option Kind) (i : ℕ) (kind : Kind) → element ≡ Some kind
    → kind_in (record { name = []; fields = fields; element = element }) i ≡ Some kind
kind_of_element fields element i kind is =
    subst (λ (o : Option Kind). kind_in (record { name = []; fields = fields; element = o }) i ≡ Some kind)
    (sym is) refl

-- the world of a heap alone
abbrev heap_world : Shown → World
heap_world shown = record { heap = heap_of [] shown; monitors = []; classes = []; threads = [] }

module _ (set : SetFacts) (shown : Shown) (heap : IsHeapOf set shown) where
  pub its_shape : (class : ℕ) → shape_in shown class ≡ (class_at set class).shape
  its_shape class = shape_is set (heap_of [] shown) heap.of_set.shapes class

  pub element_slot : (n i : ℕ) (kind : Kind) → element_of set (object_in shown n).shape ≡ Some kind
      → slot_kind shown n i ≡ Some kind
  element_slot n i kind is =
      let class = (object_in shown n).shape in
      ap (λ (s : Shape). kind_in s i) (its_shape class)
      ∙ kind_of_element (class_at set class).shape.fields (element_of set class) i kind is

  field_by : (n : ℕ) (field : FieldAt) → n < length shown.objects → HasSlotOf set (heap_world shown) n field
      → HasItsSlot shown n field.at field.kind
  field_by n field there slot =
      let class = (object_in shown n).shape in
      let none : (shape_in shown class).element ≡ None =
      ap (λ (s : Shape). s.element) (its_shape class) ∙ slot.has.no_elements in
      let long : length (object_in shown n).values ≡ length (shape_in shown class).fields =
      All-get_or (HasItsSlots (heap_of [] shown)) shown.objects n no_object there heap.of_set.slots none in
      let fields : length (object_in shown n).values ≡ length (class_at set class).shape.fields =
      long ∙ ap (λ (s : Shape). length s.fields) (its_shape class) in
      let below = slice_get_within (class_at set class).shape.fields field.at slot.own slot.has.field in
      record {
        within = subst (λ (k : ℕ). field.at < k) (sym fields) below;
        kind = ap (λ (s : Shape). kind_in s field.at) (its_shape class)
            ∙ kind_of_field (class_at set class).shape.fields (element_of set class) field.at slot.own
            slot.has.no_elements slot.has.field
            ∙ ap Some slot.kind;
      }

  pub field_slot : (n : ℕ) (field : FieldAt) → n < length shown.objects → IsInstanceField set field
      → is_sub set (object_in shown n).shape field.class ≡ true → HasItsSlot shown n field.at field.kind
  field_slot n field there is of =
      field_by n field there (field_there set (heap_world shown) heap.consistent n field of is)

pub of_kind_in : (o : Option Kind) (kind : Kind) (value : Value) → o ≡ Some kind → HasKind kind value
    → IsOfKindIn o value
of_kind_in o kind value is form = subst (λ (k : Option Kind). IsOfKindIn k value) (sym is) form
