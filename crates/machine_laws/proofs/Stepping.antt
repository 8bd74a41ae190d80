-- What a request's step does: a visible operation, and a store to a place that is there.
use Rattle.std.proofs.Common.{◌≡◌, ℕ, ◌^◌, ◌<◌, ◌&&◌, true, false, List, [], length, refl, ◌∙◌, ap, arith, if◌then◌else◌}
use Rattle.std.proofs.lemmas.Bool.{and_parts}
use Rattle.ap_base.specs.declared.reference.Ref.{Ref}
use Rattle.ap_base.specs.declared.reference.Item.{Item}
use Rattle.ap_base.specs.declared.place.Place.{Place}
use Rattle.ap_base.specs.declared.place.Place.TheVariants.{Static, Slot}
use Rattle.natives.specs.declared.requests.Request.{Request}
use Rattle.natives.specs.declared.requests.Reply.{Reply}
use Rattle.graph_model.specs.declared.types.Value.{Value}
use Rattle.graph_model.specs.declared.types.Root.{Root}
use Rattle.graph_model.specs.declared.types.Heap.{Heap}
use Rattle.graph_model.specs.Heaps.{stored, value_at, place_is}
use Rattle.run_history.specs.declared.act.Op.{Op}
use Rattle.run_history.specs.declared.act.Op.TheVariants as op
use Rattle.run_history.specs.Worlds.{World, has_place, is_below, heap_after_op}
use Rattle.run_history.proofs.Sizes.{stored-sizes, value_stored}
use Rattle.stop_theorem.proofs.Joint.{is_same_place}
use Rattle.plain_model.specs.Codes.{is_persistent, taken_by}
use Rattle.plain_model.specs.Steps.{Does, step}
use Rattle.plain_model.proofs.StepFits.{step_fits}
use Rattle.run_forms.proofs.Visible.{step-visible}
use Rattle.shared_objects.specs.Shown.{Shown}
use Rattle.shared_objects.specs.Plain.{plain_request, plain_reply}
use Rattle.shared_objects.specs.Worlds.{world_of, heap_of}
use Rattle.twin_forms.specs.Table.{Entry}
use Rattle.two_spaces.proofs.Shifting.{objects_long}
use Rattle.twin_forms.specs.Sights.{view_of}
use Rattle.machine_forms.specs.Machines.{Opening, Machine, known_in, roots_in, shown_in}
use Rattle.machine_forms.specs.Keeping.{KeepsRun}
use Rattle.machine_forms.specs.Events.{DoesRequest}
use Rattle.machine_laws.proofs.StopTables.{lies, heap_is}

has_same : (shown : Shown) (roots : List Root) (p : Place)
    → has_place (heap_of roots shown) p ≡ has_place (heap_of [] shown) p
has_same shown roots (Static n) = refl
has_same shown roots (Slot n i) = refl

module _ (o : Opening) (m : Machine) (es : List Entry) (r : KeepsRun o m es) (m' : Machine) (t : ℕ)
    (request : Request Ref Item) (operation : Op) (reply : Reply Ref Item)
    (does : DoesRequest o m m' es t request operation reply) where
  abbrev before : World
  before = world_of [] (shown_in m) m.rest

  is_step : step o.launch.set before t (taken_by operation) (plain_request (shown_in m).number request)
      ≡ Does operation (plain_reply (shown_in m').number reply)
  is_step = (does.step.follows []).0

  pub visible : is_persistent operation ≡ false
  visible = step-visible o.launch.set before t (taken_by operation)
      (plain_request (shown_in m).number request) operation (plain_reply (shown_in m').number reply)
      does.fit.fit is_step

  pub heap_then : (roots : List Root)
      → heap_of roots (shown_in m') ≡ heap_after_op (heap_of roots (shown_in m)) operation
  heap_then roots = ap (λ (w : World). w.heap) (does.step.follows roots).2

-- a store's place is there
module _ (o : Opening) (m : Machine) (es : List Entry) (r : KeepsRun o m es) (m' : Machine) (t : ℕ)
    (request : Request Ref Item) (place : Place) (value : Value) (reply : Reply Ref Item)
    (does : DoesRequest o m m' es t request (op.Stored place value) reply) where
  abbrev heap : Heap
  heap = heap_of [] (shown_in m)

  few : length (stored heap place value).objects < 2 ^ 32
  few =
      let many = (stored-sizes heap place value).objects in
      let all = objects_long m.spaces.classes (view_of m.spaces.twin) es (lies o m es r) in
      let long = (lies o m es r).long in
      let room = (lies o m es r).few in
      omega (arith, many, all, long, room)

  pub place_here : has_place heap place ≡ true
  place_here =
      let fits = step_fits o.launch.set (world_of [] (shown_in m) m.rest) r.world.heap.consistent
      r.world.heap.of_set t (taken_by (op.Stored place value)) (plain_request (shown_in m).number request)
      (op.Stored place value) (plain_reply (shown_in m').number reply) does.fit.fit
      (is_step o m es r m' t request (op.Stored place value) reply does) few in
      (and_parts (has_place heap place) (is_below (length heap.objects) value) fits).0

  pub place_there : has_place (known_in o m).world.heap place ≡ true
  place_there = ap (λ (h : Heap). has_place h place) (heap_is o m es r)
      ∙ has_same (shown_in m) (roots_in o m) place ∙ place_here

  -- it has the value after the step
  pub value_then : value_at (heap_of [] (shown_in m')) place ≡ value
  value_then =
      let same : (if place_is place place && has_place heap place then value else value_at heap place)
      ≡ value =
      rw (is_same_place place, place_here) refl in
      ap (λ (h : Heap). value_at h place)
      (heap_then o m es r m' t request (op.Stored place value) reply does [])
      ∙ value_stored heap place place value ∙ same
