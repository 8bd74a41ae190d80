-- The world with one more object.
use Rattle.std.proofs.Common.{◌≡◌, ◌<◌, ℕ, ◌+◌, ◌≤◌, ◌↔◌, inl, inr, true, false, List, [], ◌∷◌, ◌++◌, length, map, Option, Some}
use Rattle.std.proofs.Common.{None, refl, ap, ◌∙◌, sym, subst, rules}
use Rattle.std.proofs.lemmas.Bool.{cases_lt, false≢true}
use Rattle.std.proofs.lemmas.List.{length-map, length-replicate}
use Rattle.ap_base.specs.declared.kind.Kind.{Kind}
use Rattle.ap_base.specs.declared.reference.Ref.{Ref}
use Rattle.run_types.specs.declared.fault.Full.{Full}
use Rattle.run_types.specs.declared.fault.Which.TheVariants.{VolatileWords}
use Rattle.run_types.specs.declared.fault.StepFault.TheVariants as fault
use Rattle.graph_model.specs.declared.types.Shape.{Shape}
use Rattle.graph_model.specs.declared.types.Field.{Field}
use Rattle.graph_model.specs.declared.types.Obj.{Obj}
use Rattle.graph_model.specs.declared.types.Value.{Value}
use Rattle.graph_model.specs.declared.types.Value.TheVariants.{Obj as Object}
use Rattle.graph_model.specs.declared.types.Root.{Root}
use Rattle.graph_model.specs.declared.types.Heap.{Heap}
use Rattle.graph_model.specs.Heaps.{default_of, fresh_values, with_fresh}
use Rattle.natives.specs.declared.requests.Reply.TheVariants as reply
use Rattle.run_history.specs.declared.act.Op.TheVariants as op
use Rattle.run_history.specs.declared.plain.Monitor.{Monitor as PlainMonitor}
use Rattle.run_history.specs.Worlds.{World, after, may_have}
use Rattle.plain_model.specs.Facts.{SetFacts, class_at, shapes_of}
use Rattle.plain_model.specs.Steps.{Does, throwing, allocates}
use Rattle.plain_model.proofs.SetHeaps.{shape_is}
use Rattle.shared_objects.specs.declared.rest.Rest.{Rest}
use Rattle.shared_objects.specs.Shown.{Shown, number_value, shape_in}
use Rattle.shared_objects.specs.Changes.{GoesOn, Allocates}
use Rattle.shared_objects.specs.Worlds.{plain_monitor, heap_of, world_of, KnowsMonitors}
use Rattle.step_forms.specs.declared.stepped.Stepped.TheVariants as stepped
use Rattle.step_forms.specs.Follows.{Goes, TakesWords}
use Rattle.step_forms.specs.Needs.{own_slots}
use Rattle.step_forms.proofs.Going.{limit_goes}
use Rattle.step_forms.proofs.Kept.{kept_monitors, kept_known, known_ref, some_of, same_number}

-- the world by its heap and its monitors
abbrev world_by : List Root → Shown → Rest → Heap → List PlainMonitor → World
world_by roots before rest h ms =
    record {
      heap = h;
      monitors = ms;
      classes = rest.classes.items;
      threads = (world_of roots before
          rest).threads;
    }

-- the worlds are the same where the heap's parts are and references keep their numbers
pub world_is : (roots : List Root) (before now : Shown) (rest : Rest) (heap : Heap) → GoesOn before now
    → heap_of roots now ≡ heap → KnowsMonitors before rest
    → world_of roots now rest ≡ record (world_of roots before rest) { heap = heap }
world_is roots before now rest heap goes is known =
    ap (λ h. world_by roots before rest h (map (plain_monitor now.number) rest.monitors)) is
    ∙ ap (λ ms. world_by roots before rest heap ms) (kept_monitors before now rest.monitors goes.keeps known)

pub heap_is : (roots : List Root) (now : Shown) (shapes : List Shape) (objects : List Obj) (statics : List
    Value)
    → now.shapes ≡ shapes → now.objects ≡ objects → now.statics ≡ statics
    → heap_of roots now ≡ record { shapes = shapes; objects = objects; statics = statics; roots = roots }
heap_is roots now shapes objects statics a b c =
    ap (λ (s : List Shape). record {
      shapes = s;
      objects = now.objects;
      statics = now.statics;
      roots = roots;
    }) a
    ∙ ap (λ (o : List Obj). record { shapes = shapes; objects = o; statics = now.statics; roots = roots }) b
    ∙ ap (λ (s : List Value). record { shapes = shapes; objects = objects; statics = s; roots = roots }) c

-- ---- slots of a new object

by_element : (fields : List Field) (element : Option Kind) (count : ℕ)
    → may_have (record { name = []; fields = fields; element = element }) count ≡ true
    → length (fresh_values (record { name = []; fields = fields; element = element }) count) ≡ count
by_element fields None count may =
    let same : count ≡ length fields = search (rules, may) in
    length-map fields (λ (f : Field). default_of f.kind) ∙ sym same
by_element fields (Some kind) count may = length-replicate count (default_of kind)

-- as many as were asked for
pub fresh_length : (shape : Shape) (count : ℕ) → may_have shape count ≡ true
    → length (fresh_values shape count) ≡ count
fresh_length shape count may = by_element shape.fields shape.element count may

thrown_by : (fields : List Field) (element : Option Kind)
    → let shape : Shape = record { name = []; fields = fields; element = element } in
    fresh_values shape (elim element [ None ↦ length fields | Some kind ↦ 0 ]) ≡ fresh_values shape 0
thrown_by fields None = refl
thrown_by fields (Some kind) = refl

-- those of a throwable are its class's fields
thrown_values : (shape : Shape)
    → fresh_values shape (elim shape.element [ None ↦ length shape.fields | Some kind ↦ 0 ]) ≡ fresh_values
    shape 0
thrown_values shape = thrown_by shape.fields shape.element

-- an object of any class may have its own slots
own_may : (fields : List Field) (element : Option Kind)
    → may_have (record { name = []; fields = fields; element = element })
    (elim element [ None ↦ length fields | Some kind ↦ 0 ]) ≡ true
own_may fields None = search rules
own_may fields (Some kind) = refl

pub own_slots_may : (set : SetFacts) (shown : Shown) (class count : ℕ) → shown.shapes ≡ shapes_of set
    → count ≡ own_slots set class → may_have (shape_in shown class) count ≡ true
own_slots_may set shown class count shapes is =
    let shape : shape_in shown class ≡ (class_at set class).shape = shape_is set (heap_of [] shown) shapes
    class in
    ap (λ (s : Shape). may_have s count) shape ∙ ap (may_have (class_at set class).shape) is
    ∙ own_may (class_at set class).shape.fields (class_at set class).shape.element

pub own_values : (set : SetFacts) (shown : Shown) (class count : ℕ) → shown.shapes ≡ shapes_of set
    → count ≡ own_slots set class → fresh_values (shape_in shown class) count ≡ fresh_values (shape_in shown
    class) 0
own_values set shown class count shapes is =
    let its : shape_in shown class ≡ (class_at set class).shape = shape_is set (heap_of [] shown) shapes
    class in
    ap (fresh_values (shape_in shown class))
    (is ∙ ap (λ (s : Shape). elim s.element [ None ↦ length s.fields | Some kind ↦ 0 ]) (sym its))
    ∙ thrown_values (shape_in shown class)

pub own_length : (set : SetFacts) (shown : Shown) (class count : ℕ) → shown.shapes ≡ shapes_of set
    → count ≡ own_slots set class → length (fresh_values (shape_in shown class) 0) ≡ count
own_length set shown class count shapes is =
    ap length (sym (own_values set shown class count shapes is))
    ∙ fresh_length (shape_in shown class) count (own_slots_may set shown class count shapes is)

-- a call that fails exactly where words are short has succeeded
pub enough : (left need : ℕ) → (false ≡ true) ↔ (left < need) → need ≤ left
enough left need short = elim (cases_lt left need) [
  | inl less ↦ absurd (false≢true (short.1 less))
  | inr more ↦ more
]

-- ---- what a new object comes to

module _ (set : SetFacts) (t shape slots n : ℕ) (r : Ref) (before now : Shown) (rest : Rest)
    (known : KnowsMonitors before rest) (made : Allocates shape slots r before now) (number : now.number r ≡
    Some n) where
  is_next : length before.objects ≡ n
  is_next = same_number (length before.objects) n (sym made.number ∙ number)

  heap_made : (roots : List Root) → heap_of roots now ≡ with_fresh (heap_of roots before) shape slots
  heap_made roots = heap_is roots now before.shapes
      (before.objects ++ record { shape = shape; values = fresh_values (shape_in before shape) slots } ∷ [])
      before.statics made.goes_on.shapes made.objects made.statics

  -- an object was made
  pub made_goes : may_have (shape_in before shape) slots ≡ true → 3 + slots ≤ before.left
      → Goes (λ roots taken. allocates set (world_of roots before rest) shape slots) t before rest
      (stepped.Did (op.Alloc n shape slots) (reply.Made r)) now rest
  made_goes may room = record {
    follows = λ roots. (
      ap (λ m. Does (op.Alloc m shape slots) (reply.Made (Object m))) is_next
          ∙ ap (λ v. Does (op.Alloc n shape slots) (reply.Made (number_value v))) (sym number),
      known_ref now.number r (some_of number),
      world_is roots before now rest (with_fresh (heap_of roots before) shape slots) made.goes_on (heap_made
          roots) known
          ∙ ap (λ m. after (world_of roots before rest) t (op.Alloc m shape slots)) is_next,
    );
    words = (let long = fresh_length (shape_in before shape) slots may in
        subst (λ (k : ℕ). TakesWords (Some (3 + k)) before.left now.left) (sym long) (room, made.left));
    monitor = tt;
    goes_on = made.goes_on;
    monitors = kept_known before now rest.monitors made.goes_on known;
  }

  -- a throwable was made
  pub throw_goes : before.shapes ≡ shapes_of set → slots ≡ own_slots set shape → 3 + slots ≤ before.left
      → Goes (λ roots taken. throwing set (world_of roots before rest) shape) t before rest
      (stepped.Did (op.Throw n shape) (reply.Thrown r shape)) now rest
  throw_goes shapes count room =
      let values = own_values set before shape slots shapes count in
      record {
        follows = λ roots. (
          ap (λ m. Does (op.Throw m shape) (reply.Thrown (Object m) shape)) is_next
              ∙ ap (λ v. Does (op.Throw n shape) (reply.Thrown (number_value v) shape)) (sym number),
          known_ref now.number r (some_of number),
          world_is roots before now rest (with_fresh (heap_of roots before) shape 0) made.goes_on
              (heap_made roots ∙ ap (λ (vs : List Value). record (heap_of roots before) {
                objects = before.objects ++ record { shape = shape; values = vs } ∷ [];
              }) values) known
              ∙ ap (λ m. after (world_of roots before rest) t (op.Throw m shape)) is_next,
        );
        words = subst (λ (k : ℕ). TakesWords (Some (3 + k)) before.left now.left)
            (sym (own_length set before shape slots shapes count)) (room, made.left);
        monitor = tt;
        goes_on = made.goes_on;
        monitors = kept_known before now rest.monitors made.goes_on known;
      }

-- ---- where too few words are left

module _ (set : SetFacts) (t shape slots : ℕ) (before now : Shown) (rest : Rest) (full : Full)
    (known : KnowsMonitors before rest)
    (is : full ≡ record { which = VolatileWords; need = 3 + slots; left = before.left }) (same : now ≡ before)
    (short : before.left < 3 + slots) where
  pub alloc_limit : may_have (shape_in before shape) slots ≡ true
      → Goes (λ roots taken. allocates set (world_of roots before rest) shape slots) t before rest
      (stepped.Over (fault.Full full)) now rest
  alloc_limit may =
      let long = fresh_length (shape_in before shape) slots may in
      subst (λ (f : Full). Goes (λ roots taken. allocates set (world_of roots before rest) shape slots) t
      before rest
      (stepped.Over (fault.Full f)) now rest) (sym is)
      (limit_goes (fault.Full (record { which = VolatileWords; need = 3 + slots; left = before.left }))
      (λ roots. record { need = ap (λ (k : ℕ). Some (3 + k)) long; left = refl; short = short }) same known)

  pub throw_limit : before.shapes ≡ shapes_of set → slots ≡ own_slots set shape
      → Goes (λ roots taken. throwing set (world_of roots before rest) shape) t before rest
      (stepped.Over (fault.Full full)) now rest
  throw_limit shapes count =
      let long = own_length set before shape slots shapes count in
      subst (λ (f : Full). Goes (λ roots taken. throwing set (world_of roots before rest) shape) t before rest
      (stepped.Over (fault.Full f)) now rest) (sym is)
      (limit_goes (fault.Full (record { which = VolatileWords; need = 3 + slots; left = before.left }))
      (λ roots. record { need = ap (λ (k : ℕ). Some (3 + k)) long; left = refl; short = short }) same known)
