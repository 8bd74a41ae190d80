-- Heaps of plain runs are typed, and acts of plain runs fit them.
use Rattle.std.proofs.Common.{◌≡◌, ℕ, ◌<◌, ◌^◌, Bool, true, false, List, [], ◌∷◌, ◌++◌, refl, ap, sym, subst, ◌∙◌, map, length}
use Rattle.std.proofs.Common.{append_assoc, length-append, length-set, arith}
use Rattle.std.specs.Prelude.{Option, Some, None}
use Rattle.std.proofs.lemmas.List.{append-nil, length-map}
use Rattle.ap_base.specs.declared.place.Place.TheVariants.{Static, Slot}
use Rattle.graph_model.specs.declared.types.Value.TheVariants.{Obj as Object}
use Rattle.graph_model.specs.declared.types.Heap.{Heap}
use Rattle.graph_model.specs.declared.types.NamedValue.{NamedValue}
use Rattle.graph_model.specs.declared.types.Graph.{Graph}
use Rattle.run_history.specs.declared.act.Op.{Op}
use Rattle.run_history.specs.declared.act.Op.TheVariants as op
use Rattle.run_history.specs.Recorded.{Recorded}
use Rattle.run_history.specs.Worlds.{World, fits, heap_after_op}
use Rattle.run_history.specs.Knowing.{Knowledge}
use Rattle.plain_model.specs.Facts.{SetFacts, shapes_of}
use Rattle.plain_model.specs.Consistent.{IsComplete, IsConsistent}
use Rattle.plain_model.specs.First.{IsOpening, first_heap, first_world, static_value, lacking_roots, stream_number}
use Rattle.plain_model.specs.Requests.{PlainRequest, PlainReply}
use Rattle.plain_model.specs.Steps.{Does, step}
use Rattle.plain_model.specs.Codes.{Code, is_persistent, taken_by}
use Rattle.plain_model.specs.Runs.{op_given, IsPlainRun, known_of, request_after}
use Rattle.plain_model.specs.Replies.{IsReplyTo}
use Rattle.plain_model.specs.Duties.{IsFit, KeepsDuties}
use Rattle.plain_model.specs.Typed.{IsTyped}
use Rattle.plain_model.specs.TypeLaws.{IsOfSet, FitsItsHeap}
use Rattle.plain_model.proofs.RunKeeps.{run_keeps}
use Rattle.plain_model.proofs.RunSound.{shapes_stay, replies, world_next, world_of_next, known_of-push}
use Rattle.plain_model.proofs.Slots.{objects_have_their_slots}
use Rattle.plain_model.proofs.StepFits.{quiet_fits, step_fits}
use Rattle.plain_model.proofs.StepGives.{is_quiet, quiet_keeps}
use Rattle.plain_model.proofs.StepReplies.{reply_is_of_its_kind}
use Rattle.plain_model.proofs.StepTyped.{step_leaves_typed}
use Rattle.plain_model.proofs.Typing.{first_heap_is_typed}
use Rattle.plain_model.proofs.Visible.{plain_front, visible_is_step}

-- ---- the set's parts

statics_stay : (heap : Heap) (o : Op) → length (heap_after_op heap o).statics ≡ length heap.statics
statics_stay heap (op.Alloc n shape count) = refl
statics_stay heap (op.Throw n class) = refl
statics_stay heap (op.Stored (Static n) value) = length-set heap.statics n value
statics_stay heap (op.Stored (Slot n i) value) = refl
statics_stay heap o = refl

-- the heap has the set's shapes and static fields
record HasParts (set : SetFacts) (heap : Heap) : Type 0 where
  shapes : heap.shapes ≡ shapes_of set
  statics : length set.statics < length heap.statics

parts_next : (set : SetFacts) (world : World) (a : Recorded) (persistent : Bool) → HasParts set world.heap
    → HasParts set (world_next world a persistent).heap
parts_next set world a true has = has
parts_next set world a false has = record {
  shapes = shapes_stay world.heap a.act.op ∙ has.shapes;
  statics = rw (statics_stay world.heap a.act.op) has.statics;
}

first_parts : (set : SetFacts) (opening : Graph) → HasParts set (first_world set opening).heap
unfolding first_world first_heap
first_parts set opening =
    let fields = map (static_value set opening) set.statics in
    let lacking = map (λ (r : NamedValue). r.value) (lacking_roots set opening) in
    record {
      shapes = refl;
      statics = omega (
        arith,
        length-append (Object (stream_number set opening) ∷ fields) lacking,
        length-map set.statics (static_value set opening),
      );
    }

module _ (set : SetFacts) (main : ℕ) (opening : Graph) {Frames : Type 0} (code : Code set main opening Frames)
    (complete : IsComplete set) (is : IsOpening set opening) where
  parts_after : (acts : List Recorded) → IsPlainRun set main opening code acts
      → HasParts set (known_of set main opening code acts).world.heap
  parts_after acts run =
      run_keeps set main opening code (λ known before. HasParts set known.world.heap)
      (λ known frames Now before a may has.
      rw (world_of_next known a) (parts_next set known.world a (is_persistent a.act.op) has))
      (first_parts set opening) acts run

  pub heap_is_of_set : (acts : List Recorded) → IsPlainRun set main opening code acts
      → IsOfSet set (known_of set main opening code acts).world.heap
  heap_is_of_set acts run =
      let parts = parts_after acts run in
      record {
        shapes = parts.shapes;
        statics = parts.statics;
        slots = objects_have_their_slots set main opening code complete is acts run;
      }

-- ---- acts are steps of fit requests

-- what the step of a fit request of the thread does
record IsFitStep (set : SetFacts) (world : World) (t : ℕ) (o : Op) : Type 0 where
  request : PlainRequest
  fit : IsFit set world t request
  replied : PlainReply
  does : step set world t (taken_by o) request ≡ Does o replied

fit_step_from : (set : SetFacts) (world : World) (t : ℕ) (o : Op) (request : Option PlainRequest)
    → ((asked : PlainRequest) → request ≡ Some asked → IsFit set world t asked)
    → op_given set world t (taken_by o) request ≡ Some o → IsFitStep set world t o
fit_step_from set world t o None fit is = absurd (let no : ◌≡◌ {A = Option Op} None (Some o) = is in cc)
fit_step_from set world t o (Some asked) fit is =
    let (r, does) = replies (step set world t (taken_by o) asked) o is in
    record { request = asked; fit = fit asked refl; replied = r; does = does }

persistent_is_quiet : (o : Op) → is_persistent o ≡ true → is_quiet o ≡ true
persistent_is_quiet (op.Alloc n shape count) e = absurd (let no = e in cc)
persistent_is_quiet (op.Throw n class) e = absurd (let no = e in cc)
persistent_is_quiet (op.Stored place value) e = absurd (let no = e in cc)
persistent_is_quiet o e = refl

module _ (set : SetFacts) (main : ℕ) (opening : Graph) {Frames : Type 0} (code : Code set main opening Frames)
    (consistent : IsConsistent set) (is : IsOpening set opening)
    (duties : KeepsDuties set main opening code) where
  abbrev world_of : List Recorded → World
  world_of acts = (known_of set main opening code acts).world

  world_of-push : (front : List Recorded) (a : Recorded)
      → world_of (front ++ a ∷ []) ≡ world_next (world_of front) a (is_persistent a.act.op)
  world_of-push front a =
      ap (λ (known : Knowledge). known.world)
      (known_of-push set main opening code consistent.complete front a)
      ∙ world_of_next (known_of set main opening code front) a

  fit_step : (front : List Recorded) (a : Recorded) (rest : List Recorded)
      → IsPlainRun set main opening code (front ++ a ∷ rest) → is_persistent a.act.op ≡ false
      → IsFitStep set (world_of front) a.act.thread a.act.op
  fit_step front a rest run visible =
      fit_step_from set (world_of front) a.act.thread a.act.op
      (request_after set main opening code front a.act.thread)
      (duties front (plain_front set main opening code front (a ∷ rest) run) a.act.thread)
      (visible_is_step set main opening code front a rest run visible)

  -- ---- typed heaps

  typed_next : (front : List Recorded) (a : Recorded) (rest : List Recorded)
      → IsPlainRun set main opening code (front ++ a ∷ rest) → IsTyped set (world_of front).heap
      → IsTyped set (world_of (front ++ a ∷ [])).heap
  typed_next front a rest run typed =
      let world = world_of front in
      let shapes = (parts_after set main opening code consistent.complete is front
      (plain_front set main opening code front (a ∷ rest) run)).shapes in
      subst (λ (after : World). IsTyped set after.heap) (sym (world_of-push front a))
      (elim (is_persistent a.act.op) as
      (λ b. is_persistent a.act.op ≡ b → IsTyped set (world_next world a b).heap) [
        | true ↦ λ e. typed
        | false ↦ λ e.
            let it = fit_step front a rest run e in
            step_leaves_typed set world consistent shapes typed a.act.thread
            (taken_by a.act.op) it.request a.act.op it.replied
            it.fit it.does
      ] refl)

  typed_after : (front rest : List Recorded) → IsPlainRun set main opening code (front ++ rest)
      → IsTyped set (world_of front).heap → IsTyped set (world_of (front ++ rest)).heap
  typed_after front [] run typed = rw (append-nil front) typed
  typed_after front (a ∷ rest) run typed =
      let regroup : (front ++ a ∷ []) ++ rest ≡ front ++ a ∷ rest = append_assoc front (a ∷ []) rest in
      rw (← regroup) (typed_after (front ++ a ∷ []) rest (rw regroup run) (typed_next front a rest run typed))

  typed_at_first : IsTyped set (first_world set opening).heap
  unfolding first_world
  typed_at_first = first_heap_is_typed set opening consistent is

  pub heap_is_typed : (acts : List Recorded) → IsPlainRun set main opening code acts
      → IsTyped set (world_of acts).heap
  heap_is_typed acts run = typed_after [] acts run typed_at_first

  -- ---- acts that fit

  abbrev Few : Heap → Type 0
  Few heap = length heap.objects < 2 ^ 32

  act_fits : (front : List Recorded) (a : Recorded) (rest : List Recorded)
      → IsPlainRun set main opening code (front ++ a ∷ rest) → Few (world_of (front ++ a ∷ [])).heap
      → fits (world_of front).heap a.act.op ≡ true
  act_fits front a rest run few =
      let world = world_of front in
      let of_set = heap_is_of_set set main opening code consistent.complete is front
      (plain_front set main opening code front (a ∷ rest) run) in
      let after_it = subst (λ (after : World). Few after.heap) (world_of-push front a) few in
      elim (is_persistent a.act.op) as (λ b. is_persistent a.act.op ≡ b → Few (world_next world a b).heap
      → fits world.heap a.act.op ≡ true) [
        | true ↦ λ e f. quiet_fits world.heap a.act.op (persistent_is_quiet a.act.op e)
        | false ↦ λ e f.
            let it = fit_step front a rest run e in
            step_fits set world consistent of_set a.act.thread
            (taken_by a.act.op) it.request a.act.op it.replied
            it.fit it.does f
      ] refl after_it

  heap_next : (front : List Recorded) (a : Recorded)
      → (world_of (front ++ a ∷ [])).heap ≡ heap_after_op (world_of front).heap a.act.op
  heap_next front a =
      let world = world_of front in
      ap (λ (after : World). after.heap) (world_of-push front a)
      ∙ (elim (is_persistent a.act.op) as (λ b. is_persistent a.act.op ≡ b
      → (world_next world a b).heap ≡ heap_after_op world.heap a.act.op) [
        | true ↦ λ e. sym (quiet_keeps world.heap a.act.op (persistent_is_quiet a.act.op e))
        | false ↦ λ e. refl
      ] refl)

  pub act_fits_its_heap : (front : List Recorded) (a : Recorded) (rest : List Recorded)
      → IsPlainRun set main opening code (front ++ a ∷ rest) → Few (world_of (front ++ a ∷ [])).heap
      → FitsItsHeap set main opening code front a
  act_fits_its_heap front a rest run few =
      let fit = act_fits front a rest run few in
      record { fit = fit; heap = rw fit (heap_next front a) }

  -- ---- replies

  pub replied_is_of_its_kind : (acts : List Recorded) (t taken : ℕ) (request : PlainRequest)
      (o : Op) (r : PlainReply) → IsPlainRun set main opening code acts
      → request_after set main opening code acts t ≡ Some request
      → step set (world_of acts) t taken request ≡ Does o r → IsReplyTo set request r
  replied_is_of_its_kind acts t taken request o r run asks does =
      reply_is_of_its_kind set (world_of acts) consistent
      (heap_is_of_set set main opening code consistent.complete is acts run) (heap_is_typed acts run)
      t taken request o r (duties acts run t request asks) does
