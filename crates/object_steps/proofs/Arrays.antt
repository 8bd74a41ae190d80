-- Elements and lengths by the plain step.
use Rattle.std.proofs.Common.{◌≡◌, ℕ, ℤ, pos, negsuc, ◌<◌, ◌≤◌, Bool, true, false, not, ◌&&◌, nat_eq, nat_lt, length, Option}
use Rattle.std.proofs.Common.{Some, None, is_some, unwrap_or, if◌then◌else◌, refl, ap, ◌∙◌, sym, subst, rules}
use Rattle.ap_base.specs.declared.kind.Kind.{Kind}
use Rattle.ap_base.specs.declared.kind.Kind.TheVariants.{Z, B, C, S, I, J, L, Text}
use Rattle.ap_base.specs.declared.place.Place.TheVariants.{Slot}
use Rattle.run_types.specs.declared.resolved.At.{At}
use Rattle.graph_model.specs.declared.types.Value.{Value}
use Rattle.graph_model.specs.declared.types.Value.TheVariants.{Int, Long, Null, Obj as Object}
use Rattle.graph_model.specs.declared.types.Obj.{Obj}
use Rattle.graph_model.specs.Heaps.{object_at}
use Rattle.natives.specs.declared.requests.Request.TheVariants as ask
use Rattle.run_history.specs.Worlds.{World}
use Rattle.plain_model.specs.declared.throws.Throws.{Throws}
use Rattle.plain_model.specs.declared.throws.Throws.TheVariants as exception
use Rattle.plain_model.specs.Facts.{SetFacts, element_of, may_hold, string_number}
use Rattle.plain_model.specs.Kinds.{narrowed}
use Rattle.plain_model.specs.Steps.{Step, WrongOperand, step, throws, with_object, with_index, has_elements, has_length}
use Rattle.plain_model.specs.Steps.{past_end, reads, measures, shape_of, next_number, is_array_of, puts_element, may_store}
use Rattle.plain_model.specs.Steps.{own_kind, stores}
use Rattle.shared_objects.specs.Shown.{Shown, number_value, object_in}
use Rattle.step_forms.specs.Follows.{stored_as}
use Rattle.object_steps.specs.Stores.{holds_by_class}
use Rattle.step_forms.proofs.Ways.{object_none, object_wrong, object_right}
use Rattle.object_steps.specs.Elements.{serves, has_elements_of, end_thrown, IsBelowIndex}

module _ (set : SetFacts) (world : World) where
  -- ---- an index

  pub index_past : (n count : ℕ) (index : ℤ) (past : Throws) (go : ℕ → Step)
      → count ≡ length (object_at world.heap n).values
      → IsBelowIndex index count None → with_index set world n index past go ≡ throws set world past
  index_past n count (pos i) past go long over =
      let over' : length (object_at world.heap n).values ≤ i = subst (λ (k : ℕ). k ≤ i) long over in
      let lt : nat_lt i (length (object_at world.heap n).values) ≡ false = search (rules, over') in
      ap (λ x. if x then go i else throws set world past) lt
  index_past n count (negsuc i) past go long over = refl

  pub index_in : (n count i : ℕ) (index : ℤ) (past : Throws) (go : ℕ → Step)
      → count ≡ length (object_at world.heap n).values
      → IsBelowIndex index count (Some i) → with_index set world n index past go ≡ go i
  index_in n count i index past go long (is, below) =
      let below' : i < length (object_at world.heap n).values = subst (λ (k : ℕ). i < k) long below in
      let lt : nat_lt i (length (object_at world.heap n).values) ≡ true = search (rules, below') in
      ap (λ x. with_index set world n x past go) is ∙ ap (λ x. if x then go i else throws set world past) lt

  -- ---- by the number of the class

  serves_is : (kind : Kind) (element : Option Kind) → is_array_of set world kind element ≡ serves kind element
  serves_is kind None = refl
  serves_is kind (Some element) = refl

  array_is : (kind : Kind) (n : ℕ)
      → (not (nat_eq (shape_of set world n) (string_number set)) && is_array_of set world kind (element_of
      set (shape_of set world n)))
      ≡ (not (nat_eq (shape_of set world n) (string_number set)) && serves kind (element_of set (shape_of set
      world n)))
  array_is kind n = ap (λ b. not (nat_eq (shape_of set world n) (string_number set)) && b)
      (serves_is kind (element_of set (shape_of set world n)))

  elements_by_class : (kind : Kind) (n : ℕ)
      → has_elements set world kind n ≡ has_elements_of set kind (shape_of set world n)
  elements_by_class Text n = refl
  elements_by_class Z n = array_is Z n
  elements_by_class B n = array_is B n
  elements_by_class C n = array_is C n
  elements_by_class S n = array_is S n
  elements_by_class I n = array_is I n
  elements_by_class J n = array_is J n
  elements_by_class L n = array_is L n

  pub elements_are : (kind : Kind) (n shape : ℕ) (b : Bool) → shape ≡ shape_of set world n
      → has_elements_of set kind shape ≡ b
      → has_elements set world kind n ≡ b
  elements_are kind n shape b is test = elements_by_class kind n ∙ ap (has_elements_of set kind) (sym is)
      ∙ test

  pub end_by_kind : (kind : Kind) → past_end set world kind ≡ end_thrown kind
  end_by_kind Z = refl
  end_by_kind B = refl
  end_by_kind C = refl
  end_by_kind S = refl
  end_by_kind I = refl
  end_by_kind J = refl
  end_by_kind L = refl
  end_by_kind Text = refl

module _ (set : SetFacts) (world : World) (t taken : ℕ) (from : At) (o : Option ℕ) where
  -- ---- reads

  step_get : (array : Value) (index : ℤ) (kind : Kind)
      → step set world t taken (ask.GetElement from array index kind)
      ≡ with_object set world array (has_elements set world kind)
      (λ n. with_index set world n index (past_end set world kind) (λ i. reads set world (Slot n i)))
  unfolding step
  step_get array index kind = refl

  pub get_none : (index : ℤ) (kind : Kind) → o ≡ None
      → step set world t taken (ask.GetElement from (number_value o) index kind) ≡ throws set world
      exception.NullPointer
  get_none index kind e = step_get (number_value o) index kind ∙ object_none set world o _ _ e

  step_length : (array : Value)
      → step set world t taken (ask.Length from array) ≡ with_object set world array (has_length set world)
      (measures set world)
  unfolding step
  step_length array = refl

  pub length_none : o ≡ None → step set world t taken (ask.Length from (number_value o)) ≡ throws set world
      exception.NullPointer
  length_none e = step_length (number_value o) ∙ object_none set world o _ _ e

  -- ---- stores

  step_put : (array : Value) (index : ℤ) (kind : Kind) (value : Value)
      → step set world t taken (ask.PutElement from array index kind value)
      ≡ with_object set world array (has_elements set world kind)
      (λ n. with_index set world n index exception.ArrayIndexOutOfBounds (λ i. puts_element set world n kind
      i value))
  unfolding step
  step_put array index kind value = refl

  pub put_none : (index : ℤ) (kind : Kind) (value : Value) → o ≡ None
      → step set world t taken (ask.PutElement from (number_value o) index kind value) ≡ throws set world
      exception.NullPointer
  put_none index kind value e = step_put (number_value o) index kind value ∙ object_none set world o _ _ e

  -- of an object n of this class
  module _ (n shape : ℕ) (e : o ≡ Some n) (below : n < next_number set world) (is : shape ≡ shape_of set
      world n) where
    pub get_wrong : (index : ℤ) (kind : Kind) → has_elements_of set kind shape ≡ false
        → step set world t taken (ask.GetElement from (number_value o) index kind) ≡ WrongOperand
    get_wrong index kind test = step_get (number_value o) index kind
        ∙ object_wrong set world o n _ _ e below (elements_are set world kind n shape false is test)

    get_right : (index : ℤ) (kind : Kind) → has_elements_of set kind shape ≡ true
        → step set world t taken (ask.GetElement from (number_value o) index kind)
        ≡ with_index set world n index (past_end set world kind) (λ i. reads set world (Slot n i))
    get_right index kind test = step_get (number_value o) index kind
        ∙ object_right set world o n _ _ e below (elements_are set world kind n shape true is test)

    pub get_past : (count : ℕ) (index : ℤ) (kind : Kind) → has_elements_of set kind shape ≡ true
        → count ≡ length (object_at world.heap n).values → IsBelowIndex index count None
        → step set world t taken (ask.GetElement from (number_value o) index kind) ≡ throws set world
        (end_thrown kind)
    get_past count index kind test long over = get_right index kind test
        ∙ index_past set world n count index (past_end set world kind) _ long over
        ∙ ap (throws set world) (end_by_kind set world kind)

    pub get_read : (count i : ℕ) (index : ℤ) (kind : Kind) → has_elements_of set kind shape ≡ true
        → count ≡ length (object_at world.heap n).values → IsBelowIndex index count (Some i)
        → step set world t taken (ask.GetElement from (number_value o) index kind) ≡ reads set world (Slot n
        i)
    get_read count i index kind test long inside = get_right index kind test
        ∙ index_in set world n count i index (past_end set world kind) _ long inside

    pub length_wrong : is_some (element_of set shape) ≡ false
        → step set world t taken (ask.Length from (number_value o)) ≡ WrongOperand
    length_wrong test = step_length (number_value o)
        ∙ object_wrong set world o n _ _ e below (ap (λ s. is_some (element_of set s)) (sym is) ∙ test)

    pub length_right : is_some (element_of set shape) ≡ true
        → step set world t taken (ask.Length from (number_value o)) ≡ measures set world n
    length_right test = step_length (number_value o)
        ∙ object_right set world o n _ _ e below (ap (λ s. is_some (element_of set s)) (sym is) ∙ test)

    pub put_wrong : (index : ℤ) (kind : Kind) (value : Value) → has_elements_of set kind shape ≡ false
        → step set world t taken (ask.PutElement from (number_value o) index kind value) ≡ WrongOperand
    put_wrong index kind value test = step_put (number_value o) index kind value
        ∙ object_wrong set world o n _ _ e below (elements_are set world kind n shape false is test)

    put_right : (index : ℤ) (kind : Kind) (value : Value) → has_elements_of set kind shape ≡ true
        → step set world t taken (ask.PutElement from (number_value o) index kind value)
        ≡ with_index set world n index exception.ArrayIndexOutOfBounds (λ i. puts_element set world n kind i
        value)
    put_right index kind value test = step_put (number_value o) index kind value
        ∙ object_right set world o n _ _ e below (elements_are set world kind n shape true is test)

    pub put_past : (count : ℕ) (index : ℤ) (kind : Kind) (value : Value)
        → has_elements_of set kind shape ≡ true
        → count ≡ length (object_at world.heap n).values → IsBelowIndex index count None
        → step set world t taken (ask.PutElement from (number_value o) index kind value)
        ≡ throws set world exception.ArrayIndexOutOfBounds
    put_past count index kind value test long over = put_right index kind value test
        ∙ index_past set world n count index exception.ArrayIndexOutOfBounds _ long over

    pub put_in : (count i : ℕ) (index : ℤ) (kind : Kind) (value : Value)
        → has_elements_of set kind shape ≡ true
        → count ≡ length (object_at world.heap n).values → IsBelowIndex index count (Some i)
        → step set world t taken (ask.PutElement from (number_value o) index kind value) ≡ puts_element set
        world n kind i value
    put_in count i index kind value test long inside = put_right index kind value test
        ∙ index_in set world n count i index exception.ArrayIndexOutOfBounds _ long inside

    -- whether the array may hold the value, by the number of its class
    holds_is : (kind : Kind) (value : Value) (b : Bool) (shown : Shown) → ((m : ℕ)
        → object_in shown m ≡ object_at world.heap m)
        → holds_by_class set shown kind shape value ≡ b → may_store set world kind n value ≡ b
    holds_is L (Object m) b shown same test =
        ap (λ (x : Obj). may_hold set (shape_of set world n) x.shape) (sym (same m))
        ∙ ap (λ s. may_hold set s (object_in shown m).shape) (sym is) ∙ test
    holds_is L (Int i) b shown same test = test
    holds_is L (Long i) b shown same test = test
    holds_is L Null b shown same test = test
    holds_is Z value b shown same test = test
    holds_is B value b shown same test = test
    holds_is C value b shown same test = test
    holds_is S value b shown same test = test
    holds_is I value b shown same test = test
    holds_is J value b shown same test = test
    holds_is Text value b shown same test = test

    pub put_refused : (count i : ℕ) (index : ℤ) (kind : Kind) (value : Value)
        → has_elements_of set kind shape ≡ true
        → count ≡ length (object_at world.heap n).values → IsBelowIndex index count (Some i)
        → (shown : Shown) → ((m : ℕ) → object_in shown m ≡ object_at world.heap m)
        → holds_by_class set shown kind shape value ≡ false
        → step set world t taken (ask.PutElement from (number_value o) index kind value) ≡ throws set world
        exception.ArrayStore
    put_refused count i index kind value test long inside shown same refused = put_in count i index kind
        value test long inside
        ∙ ap (λ b. if b then stores set world (own_kind set world kind n) (Slot n i) value else throws set
        world exception.ArrayStore)
        (holds_is kind value false shown same refused)

    pub put_right_value : (count i : ℕ) (index : ℤ) (kind : Kind) (value : Value)
        → has_elements_of set kind shape ≡ true
        → count ≡ length (object_at world.heap n).values → IsBelowIndex index count (Some i)
        → (shown : Shown) → ((m : ℕ) → object_in shown m ≡ object_at world.heap m)
        → holds_by_class set shown kind shape value ≡ true
        → step set world t taken (ask.PutElement from (number_value o) index kind value)
        ≡ stored_as (Slot n i) (narrowed (unwrap_or (element_of set shape) kind) value)
    put_right_value count i index kind value test long inside shown same holds = put_in count i index kind
        value test long inside
        ∙ ap (λ b. if b then stores set world (own_kind set world kind n) (Slot n i) value else throws set
        world exception.ArrayStore)
        (holds_is kind value true shown same holds)
        ∙ ap (λ s. stored_as (Slot n i) (narrowed (unwrap_or (element_of set s) kind) value)) (sym is)
