-- Durable stores: the word of the place is stored to, and holds the value.
use Rattle.std.proofs.Common.{◌≡◌, inl, inr, ℕ, ◌+◌, ◌*◌, ◌%◌, ◌<◌, Bool, true, false, ◌==◌, not, List, length, Option, Some}
use Rattle.std.proofs.Common.{None, refl, sym, ◌∙◌, ap, subst, arith}
use Rattle.std.specs.Prelude.{slice_index_or}
use Rattle.std.proofs.lemmas.Bool.{true≢false, and_from, eq-eqb}
use Rattle.std.proofs.lemmas.List.{length-map}
use Rattle.ap_base.specs.References.{reference_word}
use Rattle.ap_base.specs.declared.kind.Kind.{Kind}
use Rattle.ap_base.specs.declared.reference.Ref.{Ref}
use Rattle.ap_base.specs.declared.reference.Ref.TheVariants.{Null as NoRef, Persistent, Volatile}
use Rattle.ap_base.specs.declared.reference.Item.{Item}
use Rattle.ap_base.specs.declared.reference.Item.TheVariants.{Int as IntItem, Long as LongItem, Ref as RefItem}
use Rattle.ap_base.specs.declared.place.Place.{Place}
use Rattle.ap_base.specs.declared.place.Place.TheVariants.{Static, Slot}
use Rattle.natives.specs.declared.requests.Request.{Request}
use Rattle.natives.specs.declared.requests.Reply.TheVariants as reply
use Rattle.graph_model.specs.declared.types.Value.{Value}
use Rattle.graph_model.specs.declared.types.Value.TheVariants.{Null, Obj as Object}
use Rattle.graph_model.specs.declared.types.Heap.{Heap}
use Rattle.graph_model.specs.declared.types.Obj.{Obj as ObjectOf}
use Rattle.graph_model.specs.declared.types.Shape.{Shape}
use Rattle.graph_model.specs.Heaps.{has_number, stored}
use Rattle.one_space.specs.Layout.{ref_in}
use Rattle.one_space.proofs.Laid.{get_or-map}
use Rattle.image_layout.specs.Places.{slot_line, slot_word}
use Rattle.image_meaning.specs.Objects.{kind_of}
use Rattle.image_meaning.specs.Corresponds.{LiesAt, HoldsReference, Holds}
use Rattle.run_history.specs.declared.act.Op.TheVariants as op
use Rattle.run_history.specs.Worlds.{has_place}
use Rattle.run_history.specs.Knowing.{durable_at}
use Rattle.run_history.proofs.Sizes.{there}
use Rattle.plain_model.specs.Runs.{is_volatile}
use Rattle.shared_objects.specs.Shown.{item_value, ref_value, number_value}
use Rattle.stop_theorem.specs.Layouts.{Lies, root_number}
use Rattle.stop_theorem.specs.InvariantEvents.{Puts, line_at, word_at}
use Rattle.stop_theorem.proofs.Held.{root_is}
use Rattle.stop_theorem.specs.Conditions.{StoresAt}
use Rattle.twin_forms.specs.Table.{Entry, entry, View, InP, Names, IsRef, kind_at, word_of, is_reference, line_of}
use Rattle.twin_forms.specs.Table.{Lies as LiesIn}
use Rattle.twin_forms.specs.declared.kinds.ShapeKinds.{ShapeKinds}
use Rattle.twin_forms.specs.Sights.{view_of, slot_kind}
use Rattle.twin_heap.specs.Here.{StoresAt as PutsAt}
use Rattle.two_spaces.specs.declared.spaces.Static.{Static as Field}
use Rattle.two_spaces.specs.declared.spaces.Static.TheVariants.{Beside, Root as RootSlot}
use Rattle.two_spaces.specs.Seen.{current_word, number_in, slot_shown, static_value, root_word}
use Rattle.two_spaces.specs.Laws.{null_is_no_object}
use Rattle.two_spaces.specs.Whole.{IsWordOf, IsStatic, StaticStored, SlotStored, RootStored, StoresIn, no_static}
use Rattle.two_spaces.proofs.Numbering.{word_copy, number_named}
use Rattle.two_spaces.proofs.Valuing.{ref_number}
use Rattle.two_spaces.proofs.Shifting.{object_is, value_at as value_shown}
use Rattle.two_spaces.proofs.Keeping.{root_is as root_spot}
use Rattle.machine_forms.specs.Machines.{Opening, Machine, known_in, memory_of, layout_in}
use Rattle.machine_forms.specs.Keeping.{KeepsHeap, KeepsRun}
use Rattle.machine_forms.specs.Events.{DoesRequest, value_in}
use Rattle.machine_laws.proofs.Holding.{IsHeldRef, slot_held, object_shown}
use Rattle.machine_laws.proofs.Objects.{shape_in, shape_known, kind_known}
use Rattle.machine_laws.proofs.Stepping.{place_there, value_then}
use Rattle.machine_laws.proofs.StopTables.{lies, heap_is, line_in, durable_there, values_many}

-- A store at a durable place, outside regions or in one, of a value that may be kept there.
pub record StoresKept (o : Opening) (m m' : Machine) (es : List Entry) (t : ℕ) (request : Request Ref Item)
    (place : Place) (item : Item) : Type 0 where
  pub does : DoesRequest o m m' es t request (op.Stored place (value_in m item)) reply.Done
  pub stores : StoresIn m.spaces place item m'.spaces
  pub durable : durable_at (known_in o m) place ≡ true
  pub kept : is_volatile (known_in o m).durable (value_in m item) ≡ false

-- ---- the word of a reference that may be stored

kept_durable : (durable : List ℕ) (n : ℕ) → is_volatile durable (Object n) ≡ false
    → has_number durable n ≡ true
kept_durable durable n kept = flip (has_number durable n) kept
  where
    flip : (b : Bool) → not b ≡ false → b ≡ true
    flip true e = refl
    flip false e = absurd (true≢false e)

-- the word that is kept of an item which shows an object is that of its current copy
current_of : (v : View) (es : List Entry) (item : Item) (w n : ℕ) → LiesIn v es → IsWordOf es item w
    → item_value (number_in v) item ≡ Object n → w ≡ current_word (entry es n)
current_of v es (IntItem i) w n h word is = absurd (let no = is in cc)
current_of v es (LongItem i) w n h word is = absurd (let no = is in cc)
current_of v es (RefItem r) w n h word is = by_ref r word (number_some (number_in v r) is)
  where
    number_some : (x : Option ℕ) → number_value x ≡ Object n → x ≡ Some n
    number_some None e = absurd (let no = e in cc)
    number_some (Some k) e = cc

    by_ref : (r : Ref) → IsWordOf es (RefItem r) w → number_in v r ≡ Some n → w ≡ current_word (entry es n)
    by_ref NoRef word some = absurd (null_names (number_named v es n NoRef h some).1)
      where
        null_names : Names (entry es n) (reference_word NoRef) → ⊥
        null_names (inl a) = let e = a.1 in omega (arith, e)
        null_names (inr a) = let e = a.2 in omega (arith, e)
    by_ref (Persistent line) word some =
        let named = number_named v es n (Persistent line) h some in word n named.0 named.1
    by_ref (Volatile at) word some =
        let named = number_named v es n (Volatile at) h some in word n named.0 named.1

module _ (o : Opening) (m : Machine) (es : List Entry) (r : KeepsRun o m es) where
  abbrev R : LiesAt
  R = Lies (layout_in o es) (known_in o m)

  abbrev durable : List ℕ
  durable = (known_in o m).durable

  -- a durable object lies at the line of its copy
  lies_durable : (n line : ℕ) → has_number durable n ≡ true → (entry es n).line ≡ line → R line n
  lies_durable n line is here =
      let at : (layout_in o es).line_of n ≡ line = line_in o es n (durable_there o m es r n is) ∙ here in
      and_from (has_number durable n) ((layout_in o es).line_of n == line) is
      (eq-eqb ((layout_in o es).line_of n) line at)

  held_object : (item : Item) (w n : ℕ) → IsWordOf es item w → value_in m item ≡ Object n
      → is_volatile durable (Object n) ≡ false → (line : ℕ) × (w ≡ 2 * line) × R line n
  held_object item w n word is kept =
      let one = kept_durable durable n kept in
      let high = (durable_there o m es r n one).1 in (
        (entry es n).line,
        current_of (view_of m.spaces.twin) es item w n (lies o m es r) word is
            ∙ word_copy (entry es n) (omega (arith, high)),
        lies_durable n (entry es n).line one refl,
      )

  -- a reference that may be stored leads to a durable object's copy
  held_ref : (item : Item) (w n : ℕ) (v : Value) → n < length es → Names (entry es n) w → IsWordOf es item w
      → value_in m item ≡ v → is_volatile durable v ≡ false → v ≡ Object n
      → (line : ℕ) × (w ≡ 2 * line) × R line n
  held_ref item w n v lt names word value kept is =
      held_object item w n word (value ∙ is) (subst (λ (x : Value). is_volatile durable x ≡ false) is kept)

  -- ---- what a slot is given

  -- The word of a store to a slot of a durable object holds the value.
  module _ (m' : Machine) (h : KeepsHeap o m' es) (n i w : ℕ) (v : Value) (item : Item) (there : InP es n)
      (inside : i < (entry es n).slots) (stored : SlotStored m.spaces es n i w m'.spaces)
      (word : IsWordOf es item w) (value : value_in m item ≡ v) (kept : is_volatile durable v ≡ false)
      (shows : slot_shown (view_of m'.spaces.twin) (entry es n) i ≡ v) where
    abbrev view' : View
    view' = view_of m'.spaces.twin

    abbrev kind : Kind
    kind = kind_of (shape_in o m es r n there.0) i

    kind_is : kind_at view' (entry es n) i ≡ Some kind
    kind_is = ap (λ (ks : List ShapeKinds). slot_kind ks (entry es n).shape i) stored.classes.kinds
        ∙ kind_known o m es r n there.0 i inside

    here : word_of view' (entry es n) i ≡ w
    here = stored.stored.here

    by_ref : is_reference (Some kind) ≡ true → IsRef es w → IsHeldRef R es w
    by_ref reference (inl z) = inl z
    by_ref reference (inr x) =
        let names : Names (entry es x.0) (word_of view' (entry es n) i) =
        subst (Names (entry es x.0)) (sym here) x.2 in
        let is : v ≡ Object x.0 = sym shows
        ∙ object_shown view' es (entry es n) i x.0 kind h.whole.lies kind_is reference x.1 names in
        inr (x.0, x.1, x.2, held_ref item w x.0 v x.1 x.2 word value kept is)

    ref_is : is_reference (Some kind) ≡ true → IsHeldRef R es w
    ref_is reference = by_ref reference (subst (IsRef es) here (h.whole.lies.refs n i there.0
        (ap is_reference kind_is ∙ reference) inside))

    slot_holds : Holds R kind w v
    slot_holds = subst (λ (x : Value). Holds R kind w x) shows
        (subst (λ x. Holds R kind x (slot_shown view' (entry es n) i)) here
        (slot_held R view' es n i kind h.whole.lies kind_is
        (λ number. h.numbers n i kind there.0 inside kind_is number)
        (λ reference. subst (IsHeldRef R es) (sym here) (ref_is reference))))

  -- ---- what a root slot is given

  null_shown : (v : View) (w : ℕ) → w ≡ 0 → ref_value (number_in v) (ref_in w) ≡ Null
  null_shown v w z =
      let none : ref_in w ≡ NoRef = rw z refl in
      ap (ref_value (number_in v)) none ∙ ap number_value (null_is_no_object v)

  module _ (m' : Machine) (slot w : ℕ) (v : Value) (item : Item) (word : IsWordOf es item w)
      (value : value_in m item ≡ v) (kept : is_volatile durable v ≡ false)
      (lies' : LiesIn (view_of m'.spaces.twin) es)
      (shows : ref_value (number_in (view_of m'.spaces.twin)) (ref_in w) ≡ v) where
    root_holds : IsRef es w → HoldsReference R w v
    root_holds (inl z) = subst (HoldsReference R w) (sym (null_shown (view_of m'.spaces.twin) w z) ∙ shows) z
    root_holds (inr x) =
        let is : v ≡ Object x.0 = sym shows
        ∙ ap number_value (ref_number (view_of m'.spaces.twin) es x.0 w lies' x.1 x.2) in
        subst (HoldsReference R w) (sym is) (held_ref item w x.0 v x.1 x.2 word value kept is)

  -- ---- the store

  puts_of : (m' : Machine) (line at line' at' w : ℕ) → PutsAt line at w (memory_of m) (memory_of m')
      → line ≡ line' → at ≡ at' → Puts line' at' w (memory_of m) (memory_of m')
  puts_of m' line at line' at' w puts same same_word =
      subst (λ l. Puts l at' w (memory_of m) (memory_of m')) same
      (subst (λ k. Puts line k w (memory_of m) (memory_of m')) same_word (record {
        size = puts.changes.size;
        same = puts.changes.same;
        here = puts.here;
        others = puts.others;
      }))

  module _ (m' : Machine) (h : KeepsHeap o m' es) (t : ℕ) (request : Request Ref Item) (item : Item) where
    -- the store at a place, with the word that it puts there
    abbrev pub Stores : Place → Type 0
    Stores place = (x : ℕ) × StoresAt (known_in o m) (layout_in o es) (memory_of m) (memory_of m') place
        (value_in m item) x

    static_of : (d : ℕ) (f : ℕ) (field : Field) → slice_index_or m.spaces.statics f no_static ≡ field
        → field ≡ RootSlot d → StaticStored m.spaces es f field item m'.spaces
        → (w : ℕ) × IsWordOf es item w × RootStored m.spaces es d w m'.spaces
    static_of d f (Beside old) is other stored = absurd (let no = other in cc)
    static_of d f (RootSlot slot) is same stored =
        let one : slot ≡ d = cc in
        (stored.0, stored.1, subst (λ k. RootStored m.spaces es k stored.0 m'.spaces) one stored.2)

    pub stores_at : (place : Place) → StoresKept o m m' es t request place item → Stores place
    stores_at (Slot n i) d =
        let known = known_in o m in
        let lay = layout_in o es in
        let v = value_in m item in
        let p = durable_there o m es r n d.durable in
        let has = place_there o m es r m' t request (Slot n i) v reply.Done d.does in
        let at = (there known.world.heap (Slot n i) has).1 in
        let inside : i < (entry es n).slots =
        (let many = values_many o m es r n p.0 in omega (arith, at, many)) in
        let stored = d.stores es r.heap.whole in
        let w = stored.0 in
        let puts = stored.2.line (inl p.1) in
        let line = line_in o es n p in
        let high = p.1 in
        let room = (lies o m es r).table.copy_in n p.0 (omega (arith, high)) in
        let lies' = h.whole.lies in
        let view' = view_of m'.spaces.twin in
        let shows : slot_shown view' (entry es n) i ≡ v =
        sym (ap (λ (x : ObjectOf). slice_index_or x.values i Null)
        (object_is m'.spaces.classes view' es n lies' p.0)
        ∙ value_shown m'.spaces.classes view' (entry es n) i inside)
        ∙ value_then o m es r m' t request (Slot n i) v reply.Done d.does in (
          w,
          record {
            puts = puts_of m' ((entry es n).line + line_of i) ((1 + i) % 8) (line_at lay known (Slot n i))
                (word_at known (Slot n i)) w puts (omega (arith, line)) (omega arith);
            inside = omega (arith, line, inside, room);
            is_kept = and_from (durable_at known (Slot n i)) (has_place known.world.heap (Slot n i))
                d.durable has;
            holds = subst (λ (s : Shape). Holds R (kind_of s i) w v) (sym (shape_known o m es r n p.0))
                (slot_holds m' h n i w v item p inside stored.2 stored.1 refl d.kept shows);
          },
        )
    stores_at (Static f) d =
        let known = known_in o m in
        let lay = layout_in o es in
        let v = value_in m item in
        let roots = known.world.heap.roots in
        let has = place_there o m es r m' t request (Static f) v reply.Done d.does in
        let slot = root_number roots f in
        let found = root_is roots f d.durable in
        let is : slice_index_or m.spaces.statics f no_static ≡ RootSlot slot =
        ap (λ k. slice_index_or m.spaces.statics k no_static) (sym found.1)
        ∙ r.world.roots.there slot found.0 in
        let stored = static_of slot f (slice_index_or m.spaces.statics f no_static) refl is
        (d.stores es r.heap.whole) in
        let w = stored.0 in
        let root = stored.2 in
        let lies' = h.whole.lies in
        let view' = view_of m'.spaces.twin in
        let at = there known.world.heap (Static f) has in
        let many = ap (λ (g : Heap). length g.statics) (heap_is o m es r)
        ∙ length-map m.spaces.statics (static_value (view_of m.spaces.twin)) in
        let same = ap (λ (ss : List Field). length ss) root.statics in
        let below : f < length m'.spaces.statics = omega (arith, at, many, same) in
        let here : root_word view' slot ≡ w = root_spot (memory_of m') slot ∙ root.line.here in
        let held : IsStatic m'.spaces es (RootSlot slot) = subst (IsStatic m'.spaces es)
        (ap (λ (ss : List Field). slice_index_or ss f no_static) root.statics ∙ is)
        (h.whole.statics f below) in
        let shows : ref_value (number_in view') (ref_in w) ≡ v =
        ap (λ k. ref_value (number_in view') (ref_in k)) (sym here)
        ∙ ap (static_value view')
        (sym (ap (λ (ss : List Field). slice_index_or ss f no_static) root.statics ∙ is))
        ∙ sym (get_or-map (static_value view') m'.spaces.statics f no_static Null below)
        ∙ value_then o m es r m' t request (Static f) v reply.Done d.does in (
          w,
          record {
            puts = puts_of m' (slot_line slot) (slot_word slot) (line_at lay known (Static f))
                (word_at known (Static f)) w root.line refl refl;
            inside = (let few = held.0 in let size = r.heap.size in let long = r.heap.long in
                omega (arith, few, size, long));
            is_kept = and_from (durable_at known (Static f)) (has_place known.world.heap (Static f))
                d.durable has;
            holds = root_holds m' slot w v item stored.1 refl d.kept lies' shows
                (subst (IsRef es) here held.2);
          },
        )
