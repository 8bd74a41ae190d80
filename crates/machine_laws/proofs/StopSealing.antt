-- Seals of groups.
use Rattle.std.proofs.Common.{◌≡◌, ◌≢◌, ◌⊎◌, inl, inr, ◌↔◌, ℕ, ◌+◌, ◌*◌, ◌/◌, ◌%◌, ◌<◌, ◌≤◌, ◌==◌, ◌||◌, Bool, true, false}
use Rattle.std.proofs.Common.{nat_eq, List, [], ◌∷◌, ◌++◌, length, refl, sym, ◌∙◌, ap, subst, arith}
use Rattle.std.specs.Prelude.{slice_index_or}
use Rattle.std.proofs.lemmas.Bool.{true≢false, cases_Bool, cases_eq, and_parts, and_from, eq-eqb, eqb-true}
use Rattle.ap_base.specs.declared.kind.Kind.{Kind}
use Rattle.ap_base.specs.declared.place.Place.{Place}
use Rattle.ap_base.specs.declared.place.Place.TheVariants.{Static, Slot}
use Rattle.graph_model.specs.declared.types.Value.{Value}
use Rattle.graph_model.specs.declared.types.Value.TheVariants.{Null}
use Rattle.graph_model.specs.declared.types.Obj.{Obj as ObjectOf}
use Rattle.graph_model.specs.declared.types.Shape.{Shape}
use Rattle.graph_model.specs.Heaps.{has_number, no_shape, values_of}
use Rattle.line_memory.specs.Memory.{Memory, shown, IsDurable}
use Rattle.image_layout.specs.Places.{object_line, object_word}
use Rattle.image_meaning.specs.Objects.{shape_number, shape_of, length_at, object_slot, kind_of, holds_slots}
use Rattle.image_meaning.specs.Corresponds.{LiesAt, Holds, IsObject, AreApart, Corresponds, Either, CanJoin}
use Rattle.image_meaning.proofs.Changes.{corresponds-along, corresponds-grow}
use Rattle.run_history.specs.declared.act.Op.TheVariants as op
use Rattle.run_history.specs.Recorded.{Recorded}
use Rattle.run_history.specs.Knowing.{Knowledge, known_after_op}
use Rattle.plain_model.proofs.Durable.{has_number-append_left, has_number-append_cases}
use Rattle.stop_theorem.specs.Layouts.{Layout, Lies, place_line, place_word, is_kept_place}
use Rattle.stop_theorem.specs.InvariantEvents.{ShowsKnown}
use Rattle.stop_theorem.proofs.Allowed.{lies_parts}
use Rattle.stop_theorem.proofs.KeptPlaces.{slot_parts, slot_has}
use Rattle.stop_theorem.specs.StoreEvents.{Joins, joined}
use Rattle.stop_theorem.specs.GivenCopies.{LieAt}
use Rattle.stop_theorem.specs.Running.{State, with_act, Joined}
use Rattle.twin_forms.specs.Table.{Entry, entry, View, InP, refers, word_of, is_reference, head_word, lines_of}
use Rattle.twin_forms.specs.declared.kinds.ShapeKinds.{ShapeKinds}
use Rattle.twin_forms.specs.Sights.{Twin, view_of, slot_kind}
use Rattle.twin_forms.proofs.Led.{word_moved}
use Rattle.twin_heap.proofs.Reading.{spot_is}
use Rattle.two_spaces.specs.Seen.{slot_shown}
use Rattle.two_spaces.proofs.Shifting.{value_at as value_shown}
use Rattle.convert_queue.specs.Threads.{has}
use Rattle.convert_words.specs.Scenes.{Scene}
use Rattle.convert_words.specs.Sealing.{SealedBy, Refers, AreSealed, OfSet}
use Rattle.convert_words.specs.Converting.{SealsGroup}
use Rattle.machine_forms.specs.Machines.{Opening, Machine, known_in, memory_of, scene_of, layout_in, waits_in, state_in}
use Rattle.machine_forms.specs.Keeping.{KeepsRun, KeepsStops}
use Rattle.machine_forms.specs.Events.{Seals, with_joined}
use Rattle.machine_laws.proofs.Holding.{IsHeldRef, slot_held}
use Rattle.machine_laws.proofs.StopMoving.{runs_on, moved}
use Rattle.machine_laws.proofs.Objects.{shape_in, shape_known, full_known, kind_known}
use Rattle.machine_laws.proofs.StopTables.{lies, object_known, objects_many, values_many, durable_there, there_durable, line_in}
use Rattle.machine_laws.proofs.StopTables.{head_in}

append_right : (ns ms : List ℕ) (n : ℕ) → has_number ms n ≡ true → has_number (ns ++ ms) n ≡ true
append_right [] ms n is = is
append_right (k ∷ ns) ms n is = or_true (nat_eq k n) (has_number (ns ++ ms) n) (append_right ns ms n is)
  where
    or_true : (a b : Bool) → b ≡ true → (a || b) ≡ true
    or_true true b has = refl
    or_true false b has = has

-- What is known of a group that is sealed, of the memory before.
record IsGroup (o : Opening) (m : Machine) (es es' : List Entry) (set : ℕ) (named : List ℕ) : Type 0 where
  forwarded : (n : ℕ) → OfSet es set n → (entry es n).stage ≡ 2
  durable : (n j : ℕ) → OfSet es set n → j < 8 * lines_of (entry es n)
      → IsDurable (memory_of m) ((8 * (entry es n).line + j) / 8) ((8 * (entry es n).line + j) % 8)
  refs : (n k : ℕ) → OfSet es set n → k < (entry es n).slots
      → refers (view_of m.spaces.twin) (entry es n) k ≡ true
      → Refers es (SealedBy es set) (word_of (view_of m.spaces.twin) (entry es n) k)
  those : (n : ℕ) → (has_number named n ≡ true) ↔ OfSet es set n
  sealed : AreSealed (OfSet es set) es es'
  in_p : (n : ℕ) → InP es' n ↔ SealedBy es set n

module _ (o : Opening) (m : Machine) (es es' : List Entry) (r : KeepsRun o m es) (t at set : ℕ)
    (named : List ℕ) (g : IsGroup o m es es' set named)
    (shows : ShowsKnown (layout_in o es) (known_in o m) (memory_of m)) where
  abbrev known : Knowledge
  known = known_in o m

  abbrev next : Knowledge
  next = joined known t at named

  abbrev view : View
  view = view_of m.spaces.twin

  abbrev memory : Memory
  memory = memory_of m

  abbrev old : Layout
  old = layout_in o es

  abbrev new : Layout
  new = layout_in o es'

  abbrev line : ℕ → ℕ
  line n = (entry es n).line

  abbrev R : LiesAt
  R = Lies old known

  abbrev N : LiesAt
  N = LieAt named line

  -- ---- the group's objects

  there : (n : ℕ) → OfSet es set n → n < length es
  there n of = of.2.0

  out : (n : ℕ) → OfSet es set n → InP es n → ⊥
  out n of p = let a = of.2.1 in let b = p.2 in omega (arith, a, b)

  named_of : (l n : ℕ) → N l n → OfSet es set n × (line n ≡ l)
  named_of l n is =
      let parts = and_parts (has_number named n) (line n == l) is in
      ((g.those n).0 parts.0, eqb-true (line n) l parts.1)

  of_named : (n : ℕ) → OfSet es set n → N (line n) n
  of_named n of = and_from (has_number named n) (line n == line n) ((g.those n).1 of)
      (eq-eqb (line n) (line n) refl)

  -- where an object lies, sealed before or now
  record LiesSo (l n : ℕ) : Type 0 where
    below : n < length es
    high : 1 < (entry es n).stage
    here : line n ≡ l

  lies_so : (l n : ℕ) → Either R N l n → LiesSo l n
  lies_so l n (inl is) =
      let parts = lies_parts old known l n is in
      let p = durable_there o m es r n parts.0 in
      record { below = p.0; high = p.1; here = sym (line_in o es n p) ∙ parts.1 }
  lies_so l n (inr is) =
      let parts = named_of l n is in
      let two = g.forwarded n parts.0 in
      record { below = there n parts.0; high = omega (arith, two); here = parts.1 }

  so_lies : (n : ℕ) → SealedBy es set n → Either R N (line n) n
  so_lies n (inl p) = inl (and_from (has_number known.durable n) (old.line_of n == line n)
      (there_durable o m es r n p) (eq-eqb (old.line_of n) (line n) (line_in o es n p)))
  so_lies n (inr of) = inr (of_named n of)

  apart_lines : (k n : ℕ) → k < length es → n < length es → k ≢ n → 0 < (entry es k).stage
      → 0 < (entry es n).stage
      → (line k + lines_of (entry es k) ≤ line n) ⊎ (line n + lines_of (entry es n) ≤ line k)
  apart_lines k n lk ln differ a b = elim ((lies o m es r).table.copy_apart k n lk ln differ a b) [
    | inl before ↦ inl (omega (arith, before))
    | inr behind ↦ inr (omega (arith, behind))
  ]

  -- its head
  head_shown : (l n : ℕ) → LiesSo l n → shown memory l 0 ≡ head_word (entry es n)
  head_shown l n so =
      sym (spot_is memory (8 * line n) l 0 (let e = so.here in omega (arith, e)) (omega arith))
      ∙ ((lies o m es r).sits n so.below).copy_head so.high

  head_parts : (l n : ℕ) → LiesSo l n
      → (shape_number (shown memory) l ≡ (entry es n).shape)
      × (length_at (shown memory) l ≡ (entry es n).slots)
  head_parts l n so =
      let head = head_shown l n so in
      let few = (lies o m es r).table.few_shapes in
      let shape = (lies o m es r).table.shape_in n so.below in
      (omega (arith, head, few, shape), omega (arith, head, few, shape))

  one_object : (l k n : ℕ) → Either R N l k → N l n → k ≡ n
  one_object l k n x y = elim (cases_eq k n) [
    | inl e ↦ e
    | inr differ ↦ absurd (
        let a = lies_so l k x in
        let b = lies_so l n (inr y) in
        let ha = a.high in
        let hb = b.high in
        let e = a.here in
        let f = b.here in
        elim (apart_lines k n a.below b.below differ (omega (arith, ha)) (omega (arith, hb))) [
          | inl before ↦ omega (arith, before, e, f)
          | inr behind ↦ omega (arith, behind, e, f)
        ])
  ]

  one_line : (a b n : ℕ) → Either R N a n → N b n → a ≡ b
  one_line a b n x y = sym (lies_so a n x).here ∙ (lies_so b n (inr y)).here

  are_apart : (a b k n : ℕ) → Either R N a k → N b n → a ≢ b → AreApart (shown memory) a b
  are_apart a b k n x y differ =
      let one = lies_so a k x in
      let two = lies_so b n (inr y) in
      let ha = one.high in
      let hb = two.high in
      let e = one.here in
      let f = two.here in
      let la = (head_parts a k one).1 in
      let lb = (head_parts b n two).1 in
      let other : k ≢ n = λ same. differ (sym e ∙ ap line same ∙ f) in
      elim (apart_lines k n one.below two.below other (omega (arith, ha)) (omega (arith, hb))) [
        | inl before ↦ inl (omega (arith, before, e, f, la))
        | inr behind ↦ inr (omega (arith, behind, e, f, lb))
      ]

  -- ---- what its slots hold

  held_ref : (n k : ℕ) → OfSet es set n → k < (entry es n).slots → refers view (entry es n) k ≡ true
      → IsHeldRef (Either R N) es (word_of view (entry es n) k)
  held_ref n k of inside ref = by_refers (g.refs n k of inside ref)
    where
      stage_of : (j : ℕ) → SealedBy es set j → (j < length es) × (1 < (entry es j).stage)
      stage_of j (inl p) = (p.0, p.1)
      stage_of j (inr of) = (of.2.0, (let two = g.forwarded j of in omega (arith, two)))

      by_refers : Refers es (SealedBy es set) (word_of view (entry es n) k)
          → IsHeldRef (Either R N) es (word_of view (entry es n) k)
      by_refers (inl z) = inl z
      by_refers (inr x) =
          let stage = stage_of x.0 x.1 in
          inr (x.0, stage.0, inr (stage.1, x.2, x.3), (line x.0, x.2, so_lies x.0 x.1))

  -- the word of a slot, as it is shown
  slot_is : (l n k : ℕ) → LiesSo l n → object_slot (shown memory) l k ≡ word_of view (entry es n) k
  slot_is l n k so =
      let e = so.here in
      let high = so.high in
      sym (word_moved view (entry es n) k (omega (arith, high))
      ∙ spot_is memory (8 * line n + 1 + k) (object_line l k) (object_word k) (omega (arith, e))
      (omega arith))

  -- its shape is the directory's of that number
  shape_is : (l n : ℕ) (so : LiesSo l n)
      → shape_of o.directory.shapes (shown memory) l ≡ shape_in o m es r n so.below
  shape_is l n so =
      ap (λ k. slice_index_or o.directory.shapes k no_shape) (head_parts l n so).0
      ∙ r.heap.directory.shapes (entry es n).shape (r.heap.listed n so.below)
      (r.heap.whole.classed n so.below)

  slot_holds : (l n k : ℕ) → N l n → k < (entry es n).slots
      → Holds (Either R N) (kind_of (shape_of o.directory.shapes (shown memory) l) k)
      (object_slot (shown memory) l k) (slice_index_or (values_of known.world.heap n) k Null)
  slot_holds l n k is inside =
      let so = lies_so l n (inr is) in
      let of = (named_of l n is).0 in
      let lt = so.below in
      let kind : Kind = kind_of (shape_in o m es r n lt) k in
      let kind_is = kind_known o m es r n lt k inside in
      let value : slice_index_or (values_of known.world.heap n) k Null ≡ slot_shown view (entry es n) k =
      ap (λ (x : ObjectOf). slice_index_or x.values k Null) (object_known o m es r n lt)
      ∙ value_shown m.spaces.classes view (entry es n) k inside in
      subst (λ (x : Shape). Holds (Either R N) (kind_of x k) (object_slot (shown memory) l k)
      (slice_index_or (values_of known.world.heap n) k Null)) (sym (shape_is l n so))
      (subst (λ w. Holds (Either R N) kind w (slice_index_or (values_of known.world.heap n) k Null))
      (sym (slot_is l n k so))
      (subst (λ (x : Value). Holds (Either R N) kind (word_of view (entry es n) k) x) (sym value)
      (slot_held (Either R N) view es n k kind (lies o m es r) kind_is
      (λ number. r.heap.numbers n k kind lt inside kind_is number)
      (λ ref. held_ref n k of inside (ap is_reference kind_is ∙ ref)))))

  is_object : (l n : ℕ) → N l n → IsObject (Either R N) o.directory.shapes o.start.size (shown memory)
      known.world.heap l n
  is_object l n is =
      let so = lies_so l n (inr is) in
      let lt = so.below in
      let high = so.high in
      let here = so.here in
      let all = objects_many o m es r in
      let many = values_many o m es r n lt in
      let parts = head_parts l n so in
      let listed = r.heap.listed n lt in
      let low = r.heap.low n lt (omega (arith, high)) in
      let room = (lies o m es r).table.copy_in n lt (omega (arith, high)) in
      let size = r.heap.size in
      record {
        there = omega (arith, lt, all);
        known = (let shape = parts.0 in omega (arith, shape, listed));
        shape = shape_is l n so ∙ sym (shape_known o m es r n lt);
        count = parts.1 ∙ sym many;
        full = subst (λ k. holds_slots (shape_of o.directory.shapes (shown memory) l).element
            (shape_of o.directory.shapes (shown memory) l).fields k ≡ true) (sym many)
            (subst (λ (x : Shape). holds_slots x.element x.fields (entry es n).slots ≡ true)
            (sym (shape_is l n so)) (full_known o m es r n lt));
        low = omega (arith, low, here);
        high = omega (arith, room, here, size, many);
        slots = λ i below kept. slot_holds l n i is (omega (arith, below, many));
      }

  can_join : CanJoin R N o.directory o.start.size (shown memory) known.world.heap
  can_join = record {
    objects = is_object;
    one_object = one_object;
    one_line = one_line;
    apart = are_apart;
  }

  -- ---- the objects that are durable then

  same_entry : (n : ℕ) → SealedBy es set n
      → ((entry es' n).line ≡ line n) × (head_word (entry es' n) ≡ head_word (entry es n))
  same_entry n (inl p) =
      let e = g.sealed.others n p.0 (λ of. out n of p) in
      (ap (λ (x : Entry). x.line) e, ap head_word e)
  same_entry n (inr of) =
      let e = g.sealed.here n of.2.0 of in
      (ap (λ (x : Entry). x.line) e, ap head_word e)

  new_line : (n : ℕ) → SealedBy es set n → new.line_of n ≡ line n
  new_line n by = line_in o es' n ((g.in_p n).1 by) ∙ (same_entry n by).0

  new_head : (n : ℕ) → SealedBy es set n → new.head n ≡ head_word (entry es n)
  new_head n by = head_in o es' n ((g.in_p n).1 by) ∙ (same_entry n by).1

  sealed_by : (n : ℕ) → has_number next.durable n ≡ true → SealedBy es set n
  unfolding known_after_op
  sealed_by n is = elim (has_number-append_cases known.durable named n is) [
    | inl old ↦ inl (durable_there o m es r n old)
    | inr one ↦ inr ((g.those n).0 one)
  ]

  by_sealed : (n : ℕ) → SealedBy es set n → has_number next.durable n ≡ true
  unfolding known_after_op
  by_sealed n (inl p) = has_number-append_left known.durable named n (there_durable o m es r n p)
  by_sealed n (inr of) = append_right known.durable named n ((g.those n).1 of)

  -- what wasn't durable is of the group
  of_group : (n : ℕ) → has_number next.durable n ≡ true → has_number known.durable n ≡ false → OfSet es set n
  of_group n is isnt = elim (sealed_by n is) [
    | inl p ↦ absurd (true≢false (sym (there_durable o m es r n p) ∙ isnt))
    | inr of ↦ of
  ]

  to : (l n : ℕ) → Either R N l n → Lies new next l n
  to l n either =
      let by = sealed_of either in
      and_from (has_number next.durable n) (new.line_of n == l) (by_sealed n by)
      (eq-eqb (new.line_of n) l (new_line n by ∙ (lies_so l n either).here))
    where
      sealed_of : Either R N l n → SealedBy es set n
      sealed_of (inl is) = inl (durable_there o m es r n (lies_parts old known l n is).0)
      sealed_of (inr is) = inr (named_of l n is).0

  back : (l n : ℕ) → Lies new next l n → Either R N l n
  back l n is =
      let parts = lies_parts new next l n is in
      let by = sealed_by n parts.0 in
      subst (λ k. Either R N k n) (sym (new_line n by) ∙ parts.1) (so_lies n by)

  -- ---- the group joins

  shows_then : Corresponds (Lies new next) o.directory o.start.size (shown memory) known.world.heap
  shows_then = corresponds-along (Either R N) (Lies new next) o.directory o.start.size (shown memory)
      known.world.heap to back
      (corresponds-grow R N o.directory o.start.size (shown memory) known.world.heap shows can_join)

  so_sealed : (n : ℕ) → SealedBy es set n → LiesSo (line n) n
  so_sealed n by = lies_so (line n) n (so_lies n by)

  durable_at_line : (n j l w : ℕ) → OfSet es set n → j < 8 * lines_of (entry es n)
      → (8 * line n + j) / 8 ≡ l → (8 * line n + j) % 8 ≡ w → IsDurable memory l w
  durable_at_line n j l w of inside a b =
      subst (λ k. IsDurable memory k w) a (subst (λ k. IsDurable memory ((8 * line n + j) / 8) k) b
      (g.durable n j of inside))

  word_durable : (p : Place) → is_kept_place next p ≡ true → is_kept_place known p ≡ false
      → IsDurable memory (place_line new known.world.heap p) (place_word known.world.heap p)
  unfolding known_after_op
  word_durable (Static n) is isnt = absurd (true≢false (sym is ∙ isnt))
  word_durable (Slot n i) is isnt =
      let slot = slot_parts next n i is in
      let of = of_group n slot.durable (elim (cases_Bool (has_number known.durable n)) [
        | inr isnt_old ↦ isnt_old
        | inl old_one ↦ absurd (true≢false (sym (slot_has known n i slot.mark old_one slot.has) ∙ isnt))
      ]) in
      let many = values_many o m es r n of.2.0 in
      let inside = slot.inside in
      let at_line = new_line n (inr of) in
      durable_at_line n (1 + i) (object_line (new.line_of n) i) (object_word i) of
      (omega (arith, inside, many)) (omega (arith, at_line)) (omega arith)

  joins : Joins known old new memory t at named
  unfolding known_after_op
  joins = record {
    size = refl;
    directory = refl;
    lines = λ n is. (let p = durable_there o m es r n is in new_line n (inl p) ∙ sym (line_in o es n p));
    same_heads = λ n is. (let p = durable_there o m es r n is in new_head n (inl p) ∙ sym (head_in o es n p));
    shows = shows_then;
    heads = λ n is. (let by = sealed_by n is in
        ap (λ k. shown memory k 0) (new_line n by) ∙ head_shown (line n) n (so_sealed n by)
        ∙ sym (new_head n by));
    durable_heads = λ n is isnt. (let of = of_group n is isnt in
        let at_line = new_line n (inr of) in
        durable_at_line n 0 (new.line_of n) 0 of (omega arith) (omega (arith, at_line)) (omega arith));
    durable_words = word_durable;
  }

-- ---- seals

module _ (o : Opening) (m : Machine) (es : List Entry) (t set : ℕ) (named : List ℕ) (m' : Machine)
    (c : Seals t set named m m' es) where
  abbrev at : Scene
  at = c.converts.event.at

  abbrev after : List Entry
  after = c.converts.event.after

  seals : SealsGroup at (scene_of m') es after t set
  seals = c.converts.event.converts.says

  same_memory : memory_of m' ≡ memory_of m
  same_memory = seals.memory ∙ ap (λ (x : Twin). x.memory) c.converts.event.goes_on.heap

  same_kinds : m'.spaces.twin.marks.kinds ≡ m.spaces.twin.marks.kinds
  same_kinds = c.converts.event.converts.kinds
      ∙ ap (λ (x : Twin). x.marks.kinds) c.converts.event.goes_on.heap

  abbrev durable_at_word : Memory → ℕ → Type 0
  durable_at_word memory p = IsDurable memory (p / 8) (p % 8)

  is_group : IsGroup o m es after set named
  is_group = record {
    forwarded = λ n of. seals.fenced.forwarded of.0 n of.1 of.2;
    durable = λ n j of inside.
        subst (λ (x : Memory). durable_at_word x (8 * (entry es n).line + j)) same_memory
        (λ v can. seals.fenced.shown of.0 n j v of.1 of.2 inside (λ k is below. refl) can);
    refs = λ n k of inside ref.
        (let two = seals.fenced.forwarded of.0 n of.1 of.2 in
        let p = 8 * (entry es n).line + 1 + k in
        let word : shown (memory_of m') (p / 8) (p % 8) ≡ word_of (view_of m.spaces.twin) (entry es n) k =
        ap (λ (x : Memory). shown x (p / 8) (p % 8)) same_memory
        ∙ sym (word_moved (view_of m.spaces.twin) (entry es n) k (omega (arith, two))) in
        subst (Refers es (SealedBy es set)) word
        (seals.fenced.refers of.0 n k (shown (memory_of m') (p / 8) (p % 8)) of.1 of.2
        (ap (λ (ks : List ShapeKinds). is_reference (slot_kind ks (entry es n).shape k)) same_kinds ∙ ref)
        refl inside (inl refl)));
    those = c.names.those;
    sealed = seals.sealed;
    in_p = seals.durable;
  }

pub seals_keep : (o : Opening) (m : Machine) (es : List Entry) → KeepsRun o m es
    → (m' : Machine) (t set : ℕ) (named : List ℕ)
    (c : Seals t set named m m' es) → KeepsStops o (with_joined m' t named) c.converts.event.after
seals_keep o m es r m' t set named c told =
    let one : State = state_in o m es in
    let new : Layout = layout_in o (after o m es t set named m' c) in
    let next : State = record (with_act one t op.Joined named) { layout = new } in
    let runs = r.stops told in
    let same = same_memory o m es t set named m' c in
    let old_acts : m'.acts ≡ m.acts = ap (λ (x : Machine). x.acts) c.converts.same in
    let acts : (with_joined m' t named).acts ≡ next.acts =
    ap (λ (x : Memory). m'.acts
    ++ record { act = record { thread = t; at = x.calls; op = op.Joined }; named = named } ∷ []) same
    ∙ ap (λ (before : List Recorded). before
    ++ record { act = record { thread = t; at = (memory_of m).calls; op = op.Joined }; named = named } ∷ [])
    old_acts in
    moved o next.acts (with_joined m' t named).acts new new (waits_in m) (waits_in m') (memory_of m)
    (memory_of m') acts refl (ap waits_in c.converts.same) same
    (runs_on o one next r.heap.long
    (Joined one new t named
    (joins o m es (after o m es t set named m' c) r t (memory_of m).calls set named
    (is_group o m es t set named m' c) runs.stands.shows)) runs)
