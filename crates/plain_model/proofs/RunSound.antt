-- The heap is sound after a plain run of code that keeps its duties.
use Rattle.std.proofs.Common.{◌≡◌, ℕ, ◌<◌, ◌≤◌, ◌^◌, Bool, true, false, List, [], ◌∷◌, ◌++◌, refl, ap, ◌∙◌, length}
use Rattle.std.proofs.Common.{append_assoc, arith, length-append, if◌then◌else◌}
use Rattle.std.specs.Prelude.{Option, Some, None}
use Rattle.std.proofs.lemmas.List.{length-set, append-nil}
use Rattle.ap_base.specs.declared.place.Place.TheVariants.{Static, Slot}
use Rattle.graph_model.specs.declared.types.Graph.{Graph}
use Rattle.graph_model.specs.declared.types.Heap.{Heap}
use Rattle.graph_model.specs.Heaps.{IsSound, fresh_values, shape_at, object_at, with_slot}
use Rattle.run_history.specs.declared.act.Op.{Op}
use Rattle.run_history.specs.declared.act.Op.TheVariants as op
use Rattle.run_history.specs.Recorded.{Recorded}
use Rattle.run_history.specs.Worlds.{World, heap_after_op, after}
use Rattle.run_history.specs.Knowing.{Knowledge, next_known, known_after}
use Rattle.plain_model.specs.Facts.{SetFacts, shapes_of}
use Rattle.plain_model.specs.Consistent.{IsComplete}
use Rattle.plain_model.specs.First.{IsOpening, first_known, first_world, first_heap}
use Rattle.plain_model.specs.Requests.{PlainRequest, PlainReply}
use Rattle.plain_model.specs.Steps.{Step, Does, Waits, WrongOperand, IsOver, step, op_of}
use Rattle.plain_model.specs.Codes.{Code, is_persistent, taken_by}
use Rattle.plain_model.specs.Runs.{op_given, IsPlainRun, known_of, request_after}
use Rattle.plain_model.specs.Duties.{IsFit, KeepsDuties}
use Rattle.plain_model.proofs.Appended.{known_after-append}
use Rattle.plain_model.proofs.Durable.{world-known_after_op}
use Rattle.plain_model.proofs.FirstSound.{first_heap_is_sound}
use Rattle.plain_model.proofs.StepSound.{keeps-step}
use Rattle.plain_model.proofs.Visible.{plain_front, visible_is_step}

-- no operation takes an object away, or changes the shapes
objects_stay : (heap : Heap) (o : Op) → length heap.objects ≤ length (heap_after_op heap o).objects
objects_stay heap (op.Alloc n shape count) =
    omega (arith, length-append heap.objects (record { shape = shape; values = fresh_values (shape_at heap shape) count } ∷ []))
objects_stay heap (op.Throw n class) =
    omega (arith, length-append heap.objects (record { shape = class; values = fresh_values (shape_at heap class) 0 } ∷ []))
objects_stay heap (op.Stored (Static n) value) = omega arith
objects_stay heap (op.Stored (Slot n i) value) = omega (arith, length-set heap.objects n (with_slot (object_at heap n) i value))
objects_stay heap o = omega arith

pub shapes_stay : (heap : Heap) (o : Op) → (heap_after_op heap o).shapes ≡ heap.shapes
shapes_stay heap (op.Alloc n shape count) = refl
shapes_stay heap (op.Throw n class) = refl
shapes_stay heap (op.Stored (Static n) value) = refl
shapes_stay heap (op.Stored (Slot n i) value) = refl
shapes_stay heap o = refl

abbrev pub world_next : World → Recorded → Bool → World
world_next world a persistent = if persistent then world else after world a.act.thread a.act.op

pub world_of_next : (known : Knowledge) (a : Recorded) → (next_known known a).world ≡ world_next known.world a (is_persistent a.act.op)
world_of_next known a = world-known_after_op known a.act.thread a.named a.act.op

objects_stay_next : (known : Knowledge) (a : Recorded) → length known.world.heap.objects ≤ length (next_known known a).world.heap.objects
objects_stay_next known a = rw (world_of_next known a) (
    elim (is_persistent a.act.op) as (λ b. length known.world.heap.objects ≤ length (world_next known.world a b).heap.objects)
    [ true ↦ omega arith | false ↦ objects_stay known.world.heap a.act.op ])

objects_stay_after : (known : Knowledge) (acts : List Recorded) → length known.world.heap.objects ≤ length (known_after known acts).world.heap.objects
objects_stay_after known [] = omega arith
objects_stay_after known (a ∷ acts) = omega (arith, objects_stay_next known a, objects_stay_after (next_known known a) acts)

-- a step that does an operation replies
pub replies : (s : Step) (o : Op) → op_of s ≡ Some o → (r : PlainReply) × (s ≡ Does o r)
replies (Does p r) o is = (r, (let same : p ≡ o = (let it : Some p ≡ Some o = is in cc) in ap (λ q. Does q r) same))
replies (Waits on) o is = absurd (let no : None ≡ Some o = is in cc)
replies WrongOperand o is = absurd (let no : None ≡ Some o = is in cc)
replies (IsOver fault) o is = absurd (let no : None ≡ Some o = is in cc)

-- the world has a sound heap with the set's shapes
record IsGood (set : SetFacts) (world : World) : Type 0 where
  shapes : world.heap.shapes ≡ shapes_of set
  sound : IsSound world.heap

module _ (set : SetFacts) (main : ℕ) (opening : Graph) {Frames : Type 0} (code : Code set main opening Frames) (complete : IsComplete set) where
  good_step : (world : World) (t : ℕ) (request : Option PlainRequest) (o : Op) → IsGood set world
      → ((asked : PlainRequest) → request ≡ Some asked → IsFit set world t asked)
      → op_given set world t (taken_by o) request ≡ Some o → length (heap_after_op world.heap o).objects < 2 ^ 32
      → IsGood set (after world t o)
  good_step world t None o good fit is few = absurd (let no : None ≡ Some o = is in cc)
  good_step world t (Some asked) o good fit is few =
      let (r, does) = replies (step set world t (taken_by o) asked) o is in
      record {
        shapes = shapes_stay world.heap o ∙ good.shapes;
        sound = keeps-step set world complete good.shapes good.sound t (taken_by o) asked (fit asked refl) o r does few;
      }

  good_next : (front : List Recorded) (a : Recorded) (rest : List Recorded) → KeepsDuties set main opening code
      → IsPlainRun set main opening code (front ++ a ∷ rest) → IsGood set (known_of set main opening code front).world
      → length (next_known (known_of set main opening code front) a).world.heap.objects < 2 ^ 32
      → IsGood set (next_known (known_of set main opening code front) a).world
  good_next front a rest duties run good few =
      let world = (known_of set main opening code front).world in
      let is_next = world_of_next (known_of set main opening code front) a in
      rw is_next (elim (is_persistent a.act.op) as (λ b. is_persistent a.act.op ≡ b
      → length (world_next world a b).heap.objects < 2 ^ 32 → IsGood set (world_next world a b)) [
        | true ↦ λ e f. good
        | false ↦ λ e f. good_step world a.act.thread (request_after set main opening code front a.act.thread) a.act.op good
            (duties front (plain_front set main opening code front (a ∷ rest) run) a.act.thread)
            (visible_is_step set main opening code front a rest run e) f
      ] refl (rw is_next at few))

  pub known_of-push : (front : List Recorded) (a : Recorded)
      → known_of set main opening code (front ++ a ∷ []) ≡ next_known (known_of set main opening code front) a
  known_of-push front a = known_after-append (first_known set opening) front (a ∷ [])

  -- fewer objects at the end are fewer after each act
  fewer_next : (front : List Recorded) (a : Recorded) (rest : List Recorded)
      → length (known_of set main opening code (front ++ a ∷ rest)).world.heap.objects < 2 ^ 32
      → length (next_known (known_of set main opening code front) a).world.heap.objects < 2 ^ 32
  fewer_next front a rest few =
      let later = objects_stay_after (next_known (known_of set main opening code front) a) rest in
      omega (arith, later, rw (known_after-append (first_known set opening) front (a ∷ rest)) at few)

  good_after : (front rest : List Recorded) → KeepsDuties set main opening code → IsPlainRun set main opening code (front ++ rest)
      → IsGood set (known_of set main opening code front).world
      → length (known_of set main opening code (front ++ rest)).world.heap.objects < 2 ^ 32
      → IsGood set (known_of set main opening code (front ++ rest)).world
  good_after front [] duties run good few = rw (append-nil front) good
  good_after front (a ∷ rest) duties run good few =
      let regroup : (front ++ a ∷ []) ++ rest ≡ front ++ a ∷ rest = append_assoc front (a ∷ []) rest in
      let next = good_next front a rest duties run good (fewer_next front a rest few) in
      rw (← regroup) (good_after (front ++ a ∷ []) rest duties (rw regroup run) (rw (known_of-push front a) next) (rw regroup few))

  good_first : IsOpening set opening → IsGood set (first_world set opening)
  unfolding first_world first_heap
  good_first is = record { shapes = refl; sound = first_heap_is_sound set opening complete is }

  pub sound_after : (acts : List Recorded) → IsOpening set opening → KeepsDuties set main opening code → IsPlainRun set main opening code acts
      → length (known_of set main opening code acts).world.heap.objects < 2 ^ 32 → IsSound (known_of set main opening code acts).world.heap
  sound_after acts is duties run few = (good_after [] acts duties run (good_first is) few).sound
