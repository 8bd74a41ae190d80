-- Acts that store to a static field, beside the heap or in a root slot.
use Rattle.std.proofs.Common.{◌≡◌, inl, inr, ℕ, zero, suc, ◌<◌, ◌≤◌, List, [], ◌∷◌, length, length-set, refl, sym, ◌∙◌, ap}
use Rattle.std.proofs.Common.{subst, arith}
use Rattle.std.specs.Prelude.{slice_index_or, slice_set}
use Rattle.std.proofs.lemmas.List.{get_or-set_same, get_or-set_other}
use Rattle.ap_base.specs.declared.place.Place.TheVariants.{Static as StaticPlace}
use Rattle.ap_base.specs.declared.reference.Ref.{Ref}
use Rattle.ap_base.specs.declared.reference.Item.{Item}
use Rattle.graph_model.specs.declared.types.Value.{Value}
use Rattle.image_layout.specs.Places.{root_slots, slot_line}
use Rattle.natives.specs.declared.requests.Request.{Request}
use Rattle.natives.specs.declared.requests.Reply.{Reply}
use Rattle.run_history.specs.declared.act.Op.TheVariants as op
use Rattle.twin_forms.specs.Table.{Entry, entry}
use Rattle.twin_forms.specs.Moves.{Moved}
use Rattle.twin_forms.specs.Sights.{Twin, view_of}
use Rattle.twin_forms.proofs.Led.{same_or_not, below_or_not}
use Rattle.two_spaces.specs.declared.spaces.Static.{Static}
use Rattle.two_spaces.specs.declared.spaces.Static.TheVariants.{Beside, Root}
use Rattle.two_spaces.specs.Seen.{Spaces}
use Rattle.two_spaces.specs.Whole.{BesideStored, RootStored, StaticStored, IsStatic, no_static}
use Rattle.convert_words.specs.Scenes.{scene, AgreesAt}
use Rattle.convert_words.proofs.Bridges.{moved_elsewhere}
use Rattle.convert_words.proofs.StepLaws.{other_stores_keep}
use Rattle.convert_queue.specs.Queues.{Queues}
use Rattle.converter.specs.Stepping.{keys_of}
use Rattle.machine_forms.specs.Machines.{Opening, Machine, memory_of, scene_of}
use Rattle.machine_forms.specs.Keeping.{KeepsRun, HoldsNumbers}
use Rattle.machine_forms.specs.Events.{DoesRequest}
use Rattle.machine_laws.specs.HeapLaws.{KeepsShared}
use Rattle.machine_laws.proofs.HeapActing.{Acts, SameRootFields, acted_heap, acted_world, memory_changed, memory_same}
use Rattle.machine_laws.proofs.HeapActing.{same_fields}
use Rattle.machine_laws.proofs.Numbers.{numbers_moved, HoldNumbers}

-- behind the last static field there is none
past_fields : (statics : List Static) (f : ℕ) → length statics ≤ f
    → slice_index_or statics f no_static ≡ no_static
past_fields [] f past = refl
past_fields (s ∷ ss) zero past = absurd (omega (arith, past))
past_fields (s ∷ ss) (suc f) past = past_fields ss f (omega (arith, past))

-- a root slot isn't beside the heap
beside_root : {A : Type 0} (item : Item) (slot : ℕ) → Beside item ≡ Root slot → A
beside_root item slot e = cc

root_within : (statics : List Static) (f slot : ℕ) → slice_index_or statics f no_static ≡ Root slot
    → f < length statics
root_within statics f slot is = elim (below_or_not f (length statics)) [
  | inl lt ↦ lt
  | inr le ↦ beside_root _ slot (sym (past_fields statics f le) ∙ is)
]

-- a store beside the heap changes no field that lies in a root slot
beside_fields : (statics : List Static) (f : ℕ) (old item : Item)
    → slice_index_or statics f no_static ≡ Beside old
    → SameRootFields statics (slice_set statics f (Beside item))
beside_fields statics f old item was = record {
  on = λ g r is. elim (same_or_not g f) [
    | inl same ↦ beside_root old r (sym was ∙ ap (λ k. slice_index_or statics k no_static) (sym same) ∙ is)
    | inr ne ↦ get_or-set_other statics f g (Beside item) no_static ne ∙ is
  ];
  back = λ g r is. elim (same_or_not g f) [
    | inr ne ↦ sym (get_or-set_other statics f g (Beside item) no_static ne) ∙ is
    | inl same ↦ in_place g r same is
  ];
}
  where
    in_place : (g r : ℕ) → g ≡ f → slice_index_or (slice_set statics f (Beside item)) g no_static ≡ Root r
        → slice_index_or statics g no_static ≡ Root r
    in_place g r same is =
        let within = root_within (slice_set statics f (Beside item)) g r is in
        let long = length-set statics f (Beside item) in
        beside_root item r (sym
        (get_or-set_same statics f (Beside item) no_static (omega (arith, within, long, same)))
        ∙ ap (λ k. slice_index_or (slice_set statics f (Beside item)) k no_static) (sym same) ∙ is)

module _ (o : Opening) (m m' : Machine) (es : List Entry) (run : KeepsRun o m es) (t : ℕ)
    (request : Request Ref Item) (f : ℕ) (value : Value) (r : Reply Ref Item)
    (d : DoesRequest o m m' es t request (op.Stored (StaticPlace f) value) r) (item : Item)
    (queue : m'.queue ≡ m.queue) where
  abbrev Agreed : Twin → Queues → Type 0
  Agreed twin q = AgreesAt (scene twin.space twin.memory twin.marks q m.free (keys_of m.rest.monitors)) es

  agreed : Agreed m'.spaces.twin m.queue → Agreed m'.spaces.twin m'.queue
  agreed a = subst (Agreed m'.spaces.twin) (sym queue) a

  shared_acts : Acts m m' o.directory es → SameRootFields m.spaces.statics m'.spaces.statics
      → KeepsShared o m' es
  shared_acts acts fields = (
    acted_heap o m m' es (run.heap, run.world) t request (op.Stored (StaticPlace f) value) r d es acts,
    acted_world o m m' es (run.heap, run.world) t request (op.Stored (StaticPlace f) value) r d fields,
  )

  -- ---- beside the heap

  shared_beside : (old : Item) → slice_index_or m.spaces.statics f no_static ≡ Beside old
      → BesideStored m.spaces es f item m'.spaces → KeepsShared o m' es
  shared_beside old was s =
      let twin : m'.spaces.twin ≡ m.spaces.twin = ap (λ (x : Spaces). x.twin) s.is in
      shared_acts (record {
        whole = s.stands;
        agrees = agreed (subst (λ (x : Twin). Agreed x m.queue) (sym twin) run.heap.agrees);
        classes = record {
          shapes = ap (λ (x : Spaces). x.shapes) s.is;
          classes = ap (λ (x : Spaces). x.classes) s.is;
          numbers = ap (λ (x : Spaces). x.numbers) s.is;
          kinds = ap (λ (x : Twin). x.marks.kinds) twin;
        };
        listed = run.heap.listed;
        numbers = subst (λ (x : Twin). HoldNumbers (view_of x) es) (sym twin) run.heap.numbers;
        low = run.heap.low;
        memory = memory_same (memory_of m) (memory_of m') (ap (λ (x : Twin). x.memory) twin);
      })
      (subst (SameRootFields m.spaces.statics) (sym (ap (λ (x : Spaces). x.statics) s.is))
      (beside_fields m.spaces.statics f old item was))

  -- ---- in a root slot

  module _ (slot w : ℕ) (was : slice_index_or m.spaces.statics f no_static ≡ Root slot)
      (s : RootStored m.spaces es slot w m'.spaces) where
    slot_few : slot < root_slots
    slot_few =
        (subst (IsStatic m.spaces es) was
        (run.heap.whole.statics f (root_within m.spaces.statics f slot was))).0

    -- no object has a word of the slot's line
    apart : (n : ℕ) → n < length es → 0 < (entry es n).stage → slot_line slot < (entry es n).line
    apart n ln placed = let low = run.heap.low n ln placed in let few = slot_few in omega (arith, low, few)

    abbrev stored : Twin
    stored = record m.spaces.twin { memory = m'.spaces.twin.memory }

    twin_is : m'.spaces.twin ≡ stored
    twin_is =
        let space = s.space in
        let marks = s.marks in
        λ i. record { space = space i; memory = m'.spaces.twin.memory; marks = marks i }

    moved : Moved (view_of m.spaces.twin) es (view_of stored) es
    moved =
        moved_elsewhere m.spaces.twin m'.spaces.twin.memory (slot_line slot) es s.line.changes
        (λ n ln placed. inl (apart n ln placed)) run.heap.whole.lies

    numbers_now : HoldsNumbers m'.spaces es
    numbers_now =
        subst (λ (x : Twin). HoldNumbers (view_of x) es) (sym twin_is)
        (numbers_moved (view_of m.spaces.twin) (view_of stored) es es refl moved.same run.heap.numbers)

    shared_root : KeepsShared o m' es
    shared_root =
        shared_acts (record {
          whole = s.stands;
          agrees = agreed (subst (λ (x : Twin). Agreed x m.queue) (sym twin_is)
              (other_stores_keep (scene_of m) m'.spaces.twin.memory (slot_line slot) es s.line.changes
              (λ n ln placed. inl (apart n ln placed)) run.heap.agrees));
          classes = s.classes;
          listed = run.heap.listed;
          numbers = numbers_now;
          low = run.heap.low;
          memory = memory_changed (slot_line slot) (memory_of m) (memory_of m') s.line.changes;
        })
        (same_fields m.spaces.statics m'.spaces.statics s.statics)

  by_static : (st : Static) → slice_index_or m.spaces.statics f no_static ≡ st
      → StaticStored m.spaces es f st item m'.spaces → KeepsShared o m' es
  by_static (Beside old) was s = shared_beside old was s
  by_static (Root slot) was s = shared_root slot s.0 was s.2

  pub shared_field : StaticStored m.spaces es f (slice_index_or m.spaces.statics f no_static) item m'.spaces
      → KeepsShared o m' es
  shared_field s = by_static (slice_index_or m.spaces.statics f no_static) refl s
