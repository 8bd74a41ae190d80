-- What a request's step stores to the image, and what that keeps of the threads' logs.
use Rattle.std.proofs.Common.{◌≡◌, ◌⊎◌, inl, inr, ℕ, ◌+◌, ◌-◌, ◌<◌, ◌^◌, true, false, nat_lt, List, [], length, refl, sym, ◌∙◌}
use Rattle.std.proofs.Common.{ap, subst, arith}
use Rattle.std.specs.Prelude.{slice_index_or}
use Rattle.std.proofs.lemmas.Bool.{false≢true, and_parts, and_from, ltb-true}
use Rattle.std.proofs.lemmas.List.{length-set}
use Rattle.std.proofs.Math.ListN.{get_or-eq_default}
use Rattle.ap_base.specs.declared.place.Place.{Place}
use Rattle.ap_base.specs.declared.place.Place.TheVariants.{Static, Slot}
use Rattle.ap_base.specs.declared.reference.Ref.{Ref}
use Rattle.ap_base.specs.declared.reference.Item.{Item}
use Rattle.natives.specs.declared.requests.Request.{Request}
use Rattle.natives.specs.declared.requests.Reply.{Reply}
use Rattle.graph_model.specs.declared.types.Value.{Value}
use Rattle.graph_model.specs.declared.types.Obj.{Obj}
use Rattle.graph_model.specs.declared.types.Heap.{Heap}
use Rattle.graph_model.specs.Heaps.{object_at, stored, values_of, with_slot}
use Rattle.run_history.specs.declared.act.Op.{Op}
use Rattle.run_history.specs.declared.act.Op.TheVariants as op
use Rattle.run_history.specs.Worlds.{has_place, is_below}
use Rattle.run_history.specs.Knowing.{Knowledge, durable_at, is_root}
use Rattle.plain_model.specs.Codes.{taken_by}
use Rattle.plain_model.proofs.StepFits.{step_fits}
use Rattle.shared_objects.specs.Plain.{plain_request, plain_reply}
use Rattle.shared_objects.specs.Worlds.{heap_of, world_of}
use Rattle.step_forms.specs.declared.stepped.Stepped.TheVariants as stepped
use Rattle.step_forms.specs.Becomes.{Becomes}
use Rattle.stop_theorem.specs.Layouts.{is_kept_place, root_number}
use Rattle.stop_theorem.specs.InvariantEvents.{line_at, word_at}
use Rattle.stop_theorem.proofs.Held.{root_is}
use Rattle.twin_forms.specs.Table.{Entry, entry, InP, IsClaimed, HasCopied, line_of, no_entry}
use Rattle.twin_forms.specs.Sights.{view_of}
use Rattle.twin_forms.proofs.Led.{same_or_not, below_or_not}
use Rattle.twin_heap.specs.Here.{StoresAt}
use Rattle.two_spaces.specs.declared.spaces.Static.{Static as Field}
use Rattle.two_spaces.specs.declared.spaces.Static.TheVariants.{Beside, Root}
use Rattle.two_spaces.specs.Seen.{Spaces, shown_of}
use Rattle.two_spaces.specs.Whole.{StoresIn, MakesIn, StoredTo, StaticStored, SlotStored, no_static}
use Rattle.two_spaces.proofs.Keeping.{copied_or_not}
use Rattle.two_spaces.proofs.Shifting.{object_is, objects_long, values_long}
use Rattle.machine_forms.specs.Machines.{Opening, Machine, known_in, memory_of, shown_in, log_of, layout_in}
use Rattle.machine_forms.specs.Keeping.{KeepsRun}
use Rattle.machine_forms.specs.Events.{DoesRequest, StoresBeside}
use Rattle.machine_laws.proofs.Changes.{whole-same, whole-line}
use Rattle.machine_laws.proofs.AskKeeping.{claimed-outside, durable-in, in-durable, line-in}
use Rattle.machine_laws.proofs.Memories.{KeepsWhole}

module _ (o : Opening) (m : Machine) (es : List Entry) (k : KeepsRun o m es) where
  abbrev known : Knowledge
  known = known_in o m

  abbrev plain : Heap
  plain = heap_of [] (shown_in m)

  few-objects : length plain.objects < 2 ^ 32
  few-objects =
      let long = objects_long m.spaces.classes (view_of m.spaces.twin) es k.heap.whole.lies in
      let count = k.heap.whole.lies.long in
      let few = k.heap.whole.lies.few in
      omega (arith, long, count, few)

  few-after : (p : Place) (value : Value) → length (stored plain p value).objects < 2 ^ 32
  few-after (Static f) value = few-objects
  few-after (Slot n i) value =
      let long = length-set plain.objects n (with_slot (object_at plain n) i value) in
      let few = few-objects in
      omega (arith, long, few)

  pub slot-within : (n i : ℕ) → n < length es → has_place plain (Slot n i) ≡ true → i < (entry es n).slots
  slot-within n i there is =
      let parts = and_parts (nat_lt n (length plain.objects)) (nat_lt i (length (values_of plain n))) is in
      let within = ltb-true i (length (values_of plain n)) parts.1 in
      let own : length (values_of plain n) ≡ (entry es n).slots
      = ap (λ (x : Obj). length x.values)
      (object_is m.spaces.classes (view_of m.spaces.twin) es n k.heap.whole.lies there)
      ∙ values_long m.spaces.classes (view_of m.spaces.twin) (entry es n) in
      omega (arith, within, own)

  -- the place of a store is there
  pub stored-there : (m' : Machine) (t : ℕ) (request : Request Ref Item) (place : Place) (value : Value)
      (r : Reply Ref Item) → DoesRequest o m m' es t request (op.Stored place value) r
      → has_place plain place ≡ true
  stored-there m' t request place value r does =
      let fits = step_fits o.launch.set (world_of [] (shown_in m) m.rest) k.world.heap.consistent
      k.world.heap.of_set t (taken_by (op.Stored place value)) (plain_request (shown_in m).number request)
      (op.Stored place value) (plain_reply (shown_in m').number r) does.fit.fit (does.step.follows []).0
      (few-after place value) in
      (and_parts (has_place plain place) (is_below (length (shown_in m).objects) value) fits).0

  known-place : (place : Place) → has_place plain place ≡ true → has_place known.world.heap place ≡ true
  known-place (Static f) is = ap (λ w. has_place w.heap (Static f)) k.world.world ∙ is
  known-place (Slot n i) is = ap (λ w. has_place w.heap (Slot n i)) k.world.world ∙ is

  pub kept-stored : (place : Place) → durable_at known place ≡ true → has_place plain place ≡ true
      → is_kept_place known place ≡ true
  kept-stored place durable is =
      and_from (durable_at known place) (has_place known.world.heap place) durable (known-place place is)

  -- ---- durable stores

  field-of : (f : ℕ) → is_root known.world.heap.roots f ≡ true
      → slice_index_or m.spaces.statics f no_static ≡ Root (root_number known.world.heap.roots f)
  field-of f is =
      let at = root_is known.world.heap.roots f is in
      ap (λ x. slice_index_or m.spaces.statics x no_static) (sym at.1)
      ∙ k.world.roots.there (root_number known.world.heap.roots f) at.0

  -- the word of a durable place is another one
  pub durable-word : (place : Place) (item : Item) (now : Spaces) → durable_at known place ≡ true
      → StoredTo m.spaces es place item now
      → (w : ℕ) × StoresAt (line_at (layout_in o es) known place) (word_at known place) w (memory_of m)
      now.twin.memory
  durable-word (Static f) item now durable st =
      let own : StaticStored m.spaces es f (Root (root_number known.world.heap.roots f)) item now
      = subst (λ (field : Field). StaticStored m.spaces es f field item now) (field-of f durable) st in
      (own.0, own.2.line)
  durable-word (Slot n i) item now durable st =
      let p = durable-in o m es k n durable in
      let line : (entry es n).line + line_of i ≡ line_at (layout_in o es) known (Slot n i)
      = (let at = line-in o es n p in omega (arith, at)) in (
        st.0,
        subst (λ l. StoresAt l (word_at known (Slot n i)) st.0 (memory_of m) now.twin.memory) line
            (subst (λ x. StoresAt ((entry es n).line + line_of i) x st.0 (memory_of m) now.twin.memory)
            (omega arith) (st.2.line (inl p.1))),
      )

  -- ---- other steps

  -- a line that is copied is one of a durable object, or of a claimed one
  pub copied-there : (n c : ℕ) → HasCopied (entry es n) c → InP es n ⊎ ((u : ℕ) × IsClaimed es u n)
  copied-there n c copied = elim (below_or_not n (length es)) [
    | inl lt ↦ (elim (same_or_not (entry es n).owner 0) [
      | inr some ↦ (let own : (entry es n).owner ≡ ((entry es n).owner - 1) + 1 = omega (arith, some) in
          inr ((entry es n).owner - 1, (lt, own)))
      | inl none ↦ inl (lt, moved lt none copied, none)
    ])
    | inr past ↦ absurd (let none = get_or-eq_default es no_entry past in
        nothing (subst (λ (e : Entry). HasCopied e c) none copied))
  ]
    where
      nothing : HasCopied no_entry c → ⊥
      nothing (inl two) = omega (arith, two)
      nothing (inr one) = let st = one.0 in omega (arith, st)

      moved : n < length es → (entry es n).owner ≡ 0 → HasCopied (entry es n) c → 1 < (entry es n).stage
      moved lt none (inl two) = two
      moved lt none (inr one) = absurd
          (let some = k.heap.whole.lies.table.copying n lt one.0 in omega (arith, none, some))

  placed-by : (n c : ℕ) → HasCopied (entry es n) c → 0 < (entry es n).stage
  placed-by n c (inl two) = omega (arith, two)
  placed-by n c (inr one) = let st = one.0 in omega (arith, st)

  module _ (now : Spaces) (u : ℕ) (lt : u < 64) where
    slot-whole : (n i w : ℕ) → durable_at known (Slot n i) ≡ false → has_place plain (Slot n i) ≡ true
        → SlotStored m.spaces es n i w now → KeepsWhole (log_of m u) now.twin.memory
    slot-whole n i w volatile there st = elim (copied_or_not (entry es n) (line_of i)) [
      | inr not_copied ↦ whole-same o m es k now.twin.memory u lt (st.same not_copied)
      | inl copied ↦ (elim (copied-there n (line_of i) copied) [
        | inl p ↦ absurd (false≢true (sym volatile ∙ in-durable o m es k n p))
        | inr c ↦
            (let inside = slot-within n i c.1.0 there in
            whole-line o m es k now.twin.memory u lt n (line_of i) c.1.0 (placed-by n (line_of i) copied)
            (claimed-outside o m es k c.0 n c.1) (omega (arith, inside)) (st.line copied).changes)
      ])
    ]

    -- a field that is no durable root lies in no root slot
    static-whole : (f : ℕ) (field : Field) (item : Item) → slice_index_or m.spaces.statics f no_static ≡ field
        → durable_at known (Static f) ≡ false → StaticStored m.spaces es f field item now
        → KeepsWhole (log_of m u) now.twin.memory
    static-whole f (Beside old) item is volatile st =
        whole-same o m es k now.twin.memory u lt (ap (λ (x : Spaces). x.twin.memory) st.is)
    static-whole f (Root slot) item is volatile st =
        let root = k.world.roots.others f slot is in
        absurd (false≢true (sym volatile ∙ ap (λ x. is_root known.world.heap.roots x) (sym root.1)
        ∙ k.world.roots.sized.roots slot root.0))

    pub beside-whole : (operation : Op) (r : Reply Ref Item) → StoresBeside o m es operation
        → ((place : Place) (value : Value) → operation ≡ op.Stored place value → has_place plain place ≡ true)
        → Becomes shown_of StoresIn MakesIn m.spaces (stepped.Did operation r) now
        → KeepsWhole (log_of m u) now.twin.memory
    beside-whole (op.Stored (Slot n i) value) r beside there becomes =
        let st = becomes.2 es k.heap.whole in
        slot-whole n i st.0 beside.0 (there (Slot n i) value refl) st.2
    beside-whole (op.Stored (Static f) value) r beside there becomes =
        static-whole f (slice_index_or m.spaces.statics f no_static) becomes.0 refl beside
        (becomes.2 es k.heap.whole)
    beside-whole (op.Alloc n shape count) r beside there becomes =
        whole-same o m es k now.twin.memory u lt (becomes es k.heap.whole).memory
    beside-whole (op.Throw n class) r beside there becomes =
        whole-same o m es k now.twin.memory u lt (becomes es k.heap.whole).memory
    beside-whole operation r beside there becomes =
        whole-same o m es k now.twin.memory u lt (ap (λ (x : Spaces). x.twin.memory) becomes)
