-- Tests of classes and references by the plain step.
use Rattle.std.proofs.Common.{◌≡◌, ℕ, ◌<◌, Bool, true, false, Option, Some, None, if◌then◌else◌, refl, ap, ◌∙◌, sym}
use Rattle.run_types.specs.declared.resolved.At.{At}
use Rattle.graph_model.specs.declared.types.Value.{Value}
use Rattle.natives.specs.declared.requests.Request.TheVariants as ask
use Rattle.natives.specs.declared.requests.Reply.TheVariants as reply
use Rattle.run_history.specs.declared.act.Op.TheVariants as op
use Rattle.run_history.specs.Worlds.{World}
use Rattle.plain_model.specs.declared.throws.Throws.TheVariants as exception
use Rattle.plain_model.specs.Facts.{SetFacts, is_sub}
use Rattle.plain_model.specs.Steps.{Does, WrongOperand, step, throws, with_object, with_reference, is_of, class_act, null_class}
use Rattle.plain_model.specs.Steps.{shape_of, next_number, casts, tests, compares, is_same, bool_value}
use Rattle.shared_objects.specs.Shown.{Numbers, IsKnownItem, number_value, item_value}
use Rattle.step_forms.proofs.Ways.{object_none, object_wrong, object_right, reference_none, reference_some}
use Rattle.object_steps.specs.Tests.{same_number, item_of}

pub bool_by_item : (number : Numbers) (b : Bool) → bool_value b ≡ item_value number (item_of b)
bool_by_item number true = refl
bool_by_item number false = refl

pub known_bool : (number : Numbers) (b : Bool) → IsKnownItem number (item_of b)
known_bool number true = tt
known_bool number false = tt

module _ (set : SetFacts) (world : World) (t taken : ℕ) (from : At) (o : Option ℕ) where
  step_class_of : (v : Value) (within : ℕ) → step set world t taken (ask.ClassOf from v within)
      ≡ with_object set world v (is_of set world within) (λ n. Does (class_act set world n) (reply.Shape
      (shape_of set world n)))
  unfolding step
  step_class_of v within = refl

  step_cast : (v : Value) (target : ℕ) → step set world t taken (ask.Cast from v target)
      ≡ with_reference set world v (Does (null_class set world) reply.Done) (casts set world target)
  unfolding step
  step_cast v target = refl

  step_is_a : (v : Value) (target : ℕ) → step set world t taken (ask.IsA from v target)
      ≡ with_reference set world v (Does (null_class set world) (reply.Item (bool_value false))) (tests set
      world target)
  unfolding step
  step_is_a v target = refl

  pub class_none : (within : ℕ) → o ≡ None
      → step set world t taken (ask.ClassOf from (number_value o) within) ≡ throws set world
      exception.NullPointer
  class_none within e = step_class_of (number_value o) within ∙ object_none set world o _ _ e

  pub cast_none : (target : ℕ) → o ≡ None
      → step set world t taken (ask.Cast from (number_value o) target) ≡ Does (op.Class None None) reply.Done
  cast_none target e = step_cast (number_value o) target ∙ reference_none set world o _ _ e

  pub is_a_none : (target : ℕ) → o ≡ None
      → step set world t taken (ask.IsA from (number_value o) target) ≡ Does (op.Class None None) (reply.Item
      (bool_value false))
  is_a_none target e = step_is_a (number_value o) target ∙ reference_none set world o _ _ e

  -- of an object n of this class
  module _ (n shape : ℕ) (e : o ≡ Some n) (below : n < next_number set world) (is : shape ≡ shape_of set
      world n) where
    of_class : (b : Bool) (target : ℕ) → is_sub set shape target ≡ b → is_of set world target n ≡ b
    of_class b target test = ap (λ s. is_sub set s target) (sym is) ∙ test

    pub class_wrong : (within : ℕ) → is_sub set shape within ≡ false
        → step set world t taken (ask.ClassOf from (number_value o) within) ≡ WrongOperand
    class_wrong within test = step_class_of (number_value o) within
        ∙ object_wrong set world o n _ _ e below (of_class false within test)

    pub class_right : (within : ℕ) → is_sub set shape within ≡ true
        → step set world t taken (ask.ClassOf from (number_value o) within)
        ≡ Does (op.Class (Some n) (Some shape)) (reply.Shape shape)
    class_right within test = step_class_of (number_value o) within
        ∙ object_right set world o n _ _ e below (of_class true within test)
        ∙ ap (λ s. Does (op.Class (Some n) (Some s)) (reply.Shape s)) (sym is)

    pub cast_wrong : (target : ℕ) → is_sub set shape target ≡ false
        → step set world t taken (ask.Cast from (number_value o) target) ≡ throws set world
        exception.ClassCast
    cast_wrong target test = step_cast (number_value o) target ∙ reference_some set world o n _ _ e below
        ∙ ap (λ b. if b then Does (class_act set world n) reply.Done else throws set world
        exception.ClassCast)
        (of_class false target test)

    pub cast_right : (target : ℕ) → is_sub set shape target ≡ true
        → step set world t taken (ask.Cast from (number_value o) target) ≡ Does (op.Class (Some n) (Some
        shape)) reply.Done
    cast_right target test = step_cast (number_value o) target ∙ reference_some set world o n _ _ e below
        ∙ ap (λ b. if b then Does (class_act set world n) reply.Done else throws set world
        exception.ClassCast)
        (of_class true target test)
        ∙ ap (λ s. Does (op.Class (Some n) (Some s)) reply.Done) (sym is)

    pub is_a_told : (target : ℕ) (b : Bool) (number : Numbers) → is_sub set shape target ≡ b
        → step set world t taken (ask.IsA from (number_value o) target)
        ≡ Does (op.Class (Some n) (Some shape)) (reply.Item (item_value number (item_of b)))
    is_a_told target b number test = step_is_a (number_value o) target
        ∙ reference_some set world o n _ _ e below
        ∙ ap (λ s. Does (op.Class (Some n) (Some s)) (reply.Item (bool_value (is_sub set s target)))) (sym is)
        ∙ ap (λ x. Does (op.Class (Some n) (Some shape)) (reply.Item (bool_value x))) test
        ∙ ap (λ (v : Value). Does (op.Class (Some n) (Some shape)) (reply.Item v)) (bool_by_item number b)

step_same : (set : SetFacts) (world : World) (t taken : ℕ) (from : At) (left right : Value)
    → step set world t taken (ask.Same from left right) ≡ compares set world (is_same left right)
unfolding step
step_same set world t taken from left right = refl

same_by_number : (a b : Option ℕ) → is_same (number_value a) (number_value b) ≡ Some (same_number a b)
same_by_number None None = refl
same_by_number None (Some n) = refl
same_by_number (Some m) None = refl
same_by_number (Some m) (Some n) = refl

pub same_is : (set : SetFacts) (world : World) (t taken : ℕ) (from : At) (a b : Option ℕ) (number : Numbers)
    → step set world t taken (ask.Same from (number_value a) (number_value b))
    ≡ Does (op.Same (same_number a b)) (reply.Item (item_value number (item_of (same_number a b))))
same_is set world t taken from a b number = step_same set world t taken from (number_value a) (number_value b)
    ∙ ap (compares set world) (same_by_number a b)
    ∙ ap (λ (v : Value). Does (op.Same (same_number a b)) (reply.Item v)) (bool_by_item number (same_number a
    b))
