-- New objects by the plain step.
use Rattle.std.proofs.Common.{◌≡◌, ℕ, ℤ, pos, negsuc, true, List, [], length, Option, Some, None, IsSome, refl, ap, ◌∙◌, sym}
use Rattle.std.proofs.Common.{subst, rules}
use Rattle.ap_base.specs.declared.kind.Kind.{Kind}
use Rattle.run_types.specs.declared.resolved.At.{At}
use Rattle.graph_model.specs.declared.types.Shape.{Shape}
use Rattle.graph_model.specs.declared.types.Field.{Field}
use Rattle.natives.specs.declared.requests.Request.TheVariants as ask
use Rattle.run_history.specs.Worlds.{World, may_have}
use Rattle.plain_model.specs.declared.throws.Throws.TheVariants as exception
use Rattle.plain_model.specs.Facts.{SetFacts, class_at, element_of, shapes_of, string_number}
use Rattle.plain_model.specs.Steps.{step, throws, new_array, allocates, new_length, with_class}
use Rattle.plain_model.proofs.SetHeaps.{shape_is}
use Rattle.shared_objects.specs.Shown.{Shown, shape_in}
use Rattle.shared_objects.specs.Worlds.{heap_of}
use Rattle.object_steps.specs.Elements.{IsCount}

-- ---- slots that a new object may have

fields_may : (fields : List Field) (element : Option Kind)
    → may_have (record { name = []; fields = fields; element = element }) (length fields) ≡ true
fields_may fields None = search rules
fields_may fields (Some kind) = refl

elements_may : (element : Option Kind) (fields : List Field) (count : ℕ) → IsSome element
    → may_have (record { name = []; fields = fields; element = element }) count ≡ true
elements_may None fields count some = cc
elements_may (Some kind) fields count some = refl

pub new_may : (set : SetFacts) (shown : Shown) (class count : ℕ) → shown.shapes ≡ shapes_of set
    → count ≡ length (class_at set class).shape.fields → may_have (shape_in shown class) count ≡ true
new_may set shown class count shapes is =
    ap (λ (s : Shape). may_have s count) (shape_is set (heap_of [] shown) shapes class)
    ∙ ap (may_have (class_at set class).shape) is
    ∙ fields_may (class_at set class).shape.fields (class_at set class).shape.element

pub array_may : (set : SetFacts) (shown : Shown) (class count : ℕ) → shown.shapes ≡ shapes_of set
    → IsSome (element_of set class) → may_have (shape_in shown class) count ≡ true
array_may set shown class count shapes some =
    ap (λ (s : Shape). may_have s count) (shape_is set (heap_of [] shown) shapes class)
    ∙ elements_may (element_of set class) (class_at set class).shape.fields count some

-- ---- ways

module _ (set : SetFacts) (world : World) where
  pub step_new : (t taken : ℕ) (from : At) (class : ℕ) → step set world t taken (ask.New from class)
      ≡ with_class set world t class (allocates set world class (new_length set world class))
  unfolding step
  step_new t taken from class = refl

  pub step_array : (t taken : ℕ) (from : At) (shape : ℕ) (count : ℤ)
      → step set world t taken (ask.NewArray from shape count) ≡ new_array set world shape count
  unfolding step
  step_array t taken from shape count = refl

  pub step_text : (t taken : ℕ) (from : At) (count : ℤ)
      → step set world t taken (ask.NewText from count) ≡ new_array set world (string_number set) count
  unfolding step
  step_text t taken from count = refl

  pub array_negative : (shape : ℕ) (count : ℤ) → IsCount count None
      → new_array set world shape count ≡ throws set world exception.NegativeArraySize
  array_negative shape (pos i) is = absurd is
  array_negative shape (negsuc i) is = refl

  pub array_made : (shape n : ℕ) (count : ℤ) → count ≡ pos n
      → new_array set world shape count ≡ allocates set world shape n
  array_made shape n count is = ap (new_array set world shape) is

pub some_kind : {o : Option Kind} {kind : Kind} → o ≡ Some kind → IsSome o
some_kind {o} {kind} e = let s : IsSome (Some kind) = refl in subst IsSome (sym e) s
