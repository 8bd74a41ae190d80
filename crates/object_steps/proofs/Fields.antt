-- Fields by the plain step.
use Rattle.std.proofs.Common.{◌≡◌, ℕ, ◌<◌, true, false, Option, Some, None, refl, ap, ◌∙◌, sym}
use Rattle.ap_base.specs.declared.place.Place.TheVariants.{Static, Slot}
use Rattle.run_types.specs.declared.resolved.At.{At}
use Rattle.run_types.specs.declared.resolved.FieldAt.{FieldAt}
use Rattle.graph_model.specs.declared.types.Value.{Value}
use Rattle.natives.specs.declared.requests.Request.TheVariants as ask
use Rattle.run_history.specs.Worlds.{World}
use Rattle.plain_model.specs.declared.throws.Throws.TheVariants as exception
use Rattle.plain_model.specs.Facts.{SetFacts, is_sub}
use Rattle.plain_model.specs.Steps.{WrongOperand, step, throws, with_object, with_class, is_of, reads, stores, shape_of}
use Rattle.plain_model.specs.Steps.{next_number}
use Rattle.shared_objects.specs.Shown.{number_value}
use Rattle.step_forms.proofs.Ways.{object_none, object_wrong, object_right}

module _ (set : SetFacts) (world : World) (t taken : ℕ) (from : At) (field : FieldAt) where
  pub step_get_static : step set world t taken (ask.GetStatic from field)
      ≡ with_class set world t field.class (reads set world (Static field.at))
  unfolding step
  step_get_static = refl

  pub step_put_static : (value : Value) → step set world t taken (ask.PutStatic from field value)
      ≡ with_class set world t field.class (stores set world field.kind (Static field.at) value)
  unfolding step
  step_put_static value = refl

  step_get_field : (holder : Value) → step set world t taken (ask.GetField from holder field)
      ≡ with_object set world holder (is_of set world field.class) (λ n. reads set world (Slot n field.at))
  unfolding step
  step_get_field holder = refl

  step_put_field : (holder value : Value) → step set world t taken (ask.PutField from holder field value)
      ≡ with_object set world holder (is_of set world field.class) (λ n. stores set world field.kind (Slot n
      field.at) value)
  unfolding step
  step_put_field holder value = refl

  module _ (o : Option ℕ) where
    pub get_field_none : o ≡ None
        → step set world t taken (ask.GetField from (number_value o) field) ≡ throws set world
        exception.NullPointer
    get_field_none e = step_get_field (number_value o) ∙ object_none set world o _ _ e

    pub put_field_none : (value : Value) → o ≡ None
        → step set world t taken (ask.PutField from (number_value o) field value) ≡ throws set world
        exception.NullPointer
    put_field_none value e = step_put_field (number_value o) value ∙ object_none set world o _ _ e

    -- of an object n of this class
    module _ (n shape : ℕ) (e : o ≡ Some n) (below : n < next_number set world) (is : shape ≡ shape_of set
        world n) where
      pub get_field_wrong : is_sub set shape field.class ≡ false
          → step set world t taken (ask.GetField from (number_value o) field) ≡ WrongOperand
      get_field_wrong test = step_get_field (number_value o)
          ∙ object_wrong set world o n _ _ e below (ap (λ s. is_sub set s field.class) (sym is) ∙ test)

      pub get_field_right : is_sub set shape field.class ≡ true
          → step set world t taken (ask.GetField from (number_value o) field) ≡ reads set world (Slot n
          field.at)
      get_field_right test = step_get_field (number_value o)
          ∙ object_right set world o n _ _ e below (ap (λ s. is_sub set s field.class) (sym is) ∙ test)

      pub put_field_wrong : (value : Value) → is_sub set shape field.class ≡ false
          → step set world t taken (ask.PutField from (number_value o) field value) ≡ WrongOperand
      put_field_wrong value test = step_put_field (number_value o) value
          ∙ object_wrong set world o n _ _ e below (ap (λ s. is_sub set s field.class) (sym is) ∙ test)

      pub put_field_right : (value : Value) → is_sub set shape field.class ≡ true
          → step set world t taken (ask.PutField from (number_value o) field value)
          ≡ stores set world field.kind (Slot n field.at) value
      put_field_right value test = step_put_field (number_value o) value
          ∙ object_right set world o n _ _ e below (ap (λ s. is_sub set s field.class) (sym is) ∙ test)
