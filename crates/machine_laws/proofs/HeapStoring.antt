-- Acts that store: to a slot of an object, and to a static field.
use Rattle.std.proofs.Common.{◌≡◌, ◌≢◌, inl, inr, ℕ, ◌+◌, ◌-◌, ◌*◌, ◌<◌, ◌^◌, not, true, false, List, [], length, Option, Some}
use Rattle.std.proofs.Common.{None, sym, ◌∙◌, ap, subst, arith, length-set}
use Rattle.std.specs.Prelude.{slice_index, slice_index_or, slice_set}
use Rattle.std.proofs.lemmas.Bool.{and_parts, cases_Bool, false≢true}
use Rattle.std.proofs.lemmas.List.{get_or-set_same, length-map}
use Rattle.std.proofs.lemmas.List.Elements.{All-get_or}
use Rattle.ap_base.specs.declared.kind.Kind.{Kind}
use Rattle.ap_base.specs.declared.kind.Kind.TheVariants.{Text}
use Rattle.ap_base.specs.declared.place.Place.TheVariants.{Slot as SlotPlace}
use Rattle.ap_base.specs.declared.reference.Ref.{Ref}
use Rattle.ap_base.specs.declared.reference.Ref.TheVariants.{Null as NoRef, Persistent, Volatile}
use Rattle.ap_base.specs.declared.reference.Item.{Item}
use Rattle.ap_base.specs.declared.reference.Item.TheVariants.{Int as IntItem, Long as LongItem, Ref as RefItem}
use Rattle.graph_model.specs.declared.types.Obj.{Obj}
use Rattle.graph_model.specs.declared.types.Shape.{Shape}
use Rattle.graph_model.specs.declared.types.Value.{Value}
use Rattle.graph_model.specs.declared.types.Value.TheVariants.{Int, Long, Null, Obj as Object}
use Rattle.graph_model.specs.Heaps.{has_number, no_object, object_at, values_of, with_slot, HasPlace}
use Rattle.image_meaning.specs.Objects.{is_number}
use Rattle.natives.specs.declared.requests.Request.{Request}
use Rattle.natives.specs.declared.requests.Reply.{Reply}
use Rattle.one_space.specs.Layout.{item_in}
use Rattle.one_space.specs.Laws.{none_is_not}
use Rattle.run_history.specs.declared.act.Op.TheVariants as op
use Rattle.run_history.specs.Worlds.{World, has_place, is_below}
use Rattle.run_history.proofs.Sizes.{there}
use Rattle.plain_model.specs.Classes.{ClassFacts}
use Rattle.plain_model.specs.Facts.{SetFacts, classes_of, class_at}
use Rattle.plain_model.specs.Kinds.{IsOf}
use Rattle.plain_model.specs.Runs.{is_volatile}
use Rattle.plain_model.specs.Typed.{IsOfItsClass}
use Rattle.plain_model.proofs.SetHeaps.{shape_is}
use Rattle.plain_model.proofs.StepFits.{step_fits}
use Rattle.shared_objects.specs.Shown.{item_value, number_value}
use Rattle.shared_objects.specs.Plain.{plain_request, plain_reply}
use Rattle.shared_objects.specs.Worlds.{heap_of, world_of}
use Rattle.machine_forms.proofs.Passed.{heap_kept}
use Rattle.step_forms.specs.declared.stepped.Stepped.TheVariants as stepped
use Rattle.step_forms.specs.Follows.{IsHeapOf}
use Rattle.twin_forms.specs.Table.{Entry, entry, View, number_of, InP, IsClaimed, HasCopied, line_of, Names, kind_at, refers}
use Rattle.twin_forms.specs.Table.{is_reference, value_of, word_of}
use Rattle.twin_forms.specs.Sights.{kind_in, no_kinds, view_of}
use Rattle.twin_forms.proofs.Elsewhere.{positive, value_obj, value_plain}
use Rattle.twin_forms.proofs.Led.{one_object, same_or_not}
use Rattle.twin_heap.specs.Here.{kinds_of}
use Rattle.two_spaces.specs.Seen.{current_word, slot_shown, slot_value, number_in, object_of}
use Rattle.two_spaces.specs.Laws.{null_is_no_object}
use Rattle.two_spaces.specs.Whole.{IsWordOf, SlotStored}
use Rattle.two_spaces.proofs.Keeping.{copied_or_not, kinds_same}
use Rattle.two_spaces.proofs.Numbering.{names_current, number_named, word_copy}
use Rattle.two_spaces.proofs.Shifting.{object_is, objects_long, value_at, values_long}
use Rattle.convert_queue.specs.Queues.{Queues}
use Rattle.convert_words.specs.Scenes.{scene, AgreesAt}
use Rattle.convert_words.specs.Steps.{told, MayHold}
use Rattle.convert_words.proofs.StepLaws.{copied_stores_keep, old_stores_keep, ordinary_stores_keep, durable_stores_keep}
use Rattle.converter.specs.Stepping.{keys_of}
use Rattle.machine_forms.specs.Machines.{Opening, Machine, known_in, memory_of, scene_of, shown_in}
use Rattle.machine_forms.specs.Keeping.{KeepsRun}
use Rattle.machine_forms.specs.Events.{DoesRequest}
use Rattle.machine_laws.specs.HeapLaws.{KeepsShared}
use Rattle.machine_laws.proofs.HeapActing.{SameMemory, acted_heap, acted_world, memory_changed, memory_same, same_fields}
use Rattle.machine_laws.proofs.NumberKinds.{number_fits}
use Rattle.machine_laws.proofs.Numbers.{numbers_stored}
use Rattle.machine_laws.proofs.SlotKinds.{class_plain, slot_is_of, slot_not_text}

-- ---- values of items

object_or : ℕ → Value → ℕ
object_or d (Object n) = n
object_or d (Int i) = d
object_or d (Long i) = d
object_or d Null = d

same_object : (m n : ℕ) → Object m ≡ Object n → m ≡ n
unfolding object_or
same_object m n e = ap (object_or 0) e

number_of_value : (o : Option ℕ) (n : ℕ) → number_value o ≡ Object n → o ≡ Some n
number_of_value None n e = absurd (let no = e in cc)
number_of_value (Some m) n e = ap Some (same_object m n e)

kept_number : (ns : List ℕ) (n : ℕ) → is_volatile ns (Object n) ≡ false → has_number ns n ≡ true
kept_number ns n e = elim (cases_Bool (has_number ns n)) [
  | inl is ↦ is
  | inr lacks ↦ absurd (false≢true (sym e ∙ ap not lacks))
]

-- a word in a slot of references that isn't null shows an object
shown_object : (v : View) (e : Entry) (i : ℕ) (value : Value) → refers v e i ≡ true
    → 0 < word_of v e i → slot_shown v e i ≡ value → (k : ℕ) × (value ≡ Object k)
shown_object v e i value refer some is = (
  number_of v (word_of v e i),
  sym is ∙ ap (slot_value (kind_at v e i)) (value_obj v (refers v e i) (word_of v e i) refer some),
)

-- ---- a slot

module _ (o : Opening) (m m' : Machine) (es : List Entry) (run : KeepsRun o m es) (t : ℕ)
    (request : Request Ref Item) (n i : ℕ) (value : Value) (r : Reply Ref Item)
    (d : DoesRequest o m m' es t request (op.Stored (SlotPlace n i) value) r) where
  abbrev set : SetFacts
  set = o.launch.set

  abbrev world : World
  world = world_of [] (shown_in m) m.rest

  few_objects : length (slice_set (shown_in m).objects n (with_slot (object_at world.heap n) i value))
      < 2 ^ 32
  few_objects =
      let same = length-set (shown_in m).objects n (with_slot (object_at world.heap n) i value) in
      let long = objects_long m.spaces.classes (view_of m.spaces.twin) es run.heap.whole.lies in
      let count = run.heap.whole.lies.long in
      let few = run.heap.whole.lies.few in
      omega (arith, same, long, count, few)

  place_there : HasPlace world.heap (SlotPlace n i)
  place_there = there world.heap (SlotPlace n i) (and_parts (has_place world.heap (SlotPlace n i))
      (is_below (length world.heap.objects) value)
      (step_fits set world run.world.heap.consistent run.world.heap.of_set t 1
      (plain_request (shown_in m).number request) (op.Stored (SlotPlace n i) value)
      (plain_reply (shown_in m').number r) d.fit.fit (d.step.follows []).0 few_objects)).0

  -- the object and its slot are there
  pub object_there : n < length es
  object_there =
      let long = objects_long m.spaces.classes (view_of m.spaces.twin) es run.heap.whole.lies in
      let there = place_there.0 in omega (arith, there, long)

  pub slot_there : i < (entry es n).slots
  slot_there =
      subst (λ k. i < k)
      (ap (λ (x : Obj). length x.values)
      (object_is m.spaces.classes (view_of m.spaces.twin) es n run.heap.whole.lies object_there)
      ∙ values_long m.spaces.classes (view_of m.spaces.twin) (entry es n)) place_there.1

  -- what the slot shows after it
  value_now : slice_index_or (slice_index_or (shown_in m').objects n no_object).values i Null ≡ value
  value_now =
      ap (λ (w : World). slice_index_or (slice_index_or w.heap.objects n no_object).values i Null)
      (d.step.follows []).2
      ∙ ap (λ (x : Obj). slice_index_or x.values i Null) (get_or-set_same (shown_in m).objects n
      (with_slot (object_at world.heap n) i value) no_object place_there.0)
      ∙ get_or-set_same (values_of world.heap n) i value Null place_there.1

  heap_now : IsHeapOf set (shown_in m')
  heap_now = heap_kept set t request (shown_in m) m.rest (shown_in m') m'.rest
      (stepped.Did (op.Stored (SlotPlace n i) value) r) d.fit.fit d.step run.world.heap

  module _ (item : Item) (w : ℕ) (is_value : item_value (shown_in m).number item ≡ value)
      (word : IsWordOf es item w) (s : SlotStored m.spaces es n i w m'.spaces) where
    abbrev e : Entry
    e = entry es n

    abbrev object : Obj
    object = slice_index_or (shown_in m').objects n no_object

    kinds : (view_of m'.spaces.twin).kinds ≡ (view_of m.spaces.twin).kinds
    kinds = kinds_same m.spaces.twin m'.spaces.twin s.classes.kinds

    object_now : object ≡ object_of m'.spaces.classes (view_of m'.spaces.twin) e
    object_now = object_is m'.spaces.classes (view_of m'.spaces.twin) es n s.stands.lies object_there

    shows_now : slot_shown (view_of m'.spaces.twin) e i ≡ value
    shows_now =
        sym (value_at m'.spaces.classes (view_of m'.spaces.twin) e i slot_there)
        ∙ sym (ap (λ (x : Obj). slice_index_or x.values i Null) object_now) ∙ value_now

    -- ---- of which kind it is

    abbrev class : ℕ
    class = slice_index m'.spaces.classes e.shape

    class_is : object.shape ≡ class
    class_is = ap (λ (x : Obj). x.shape) object_now

    class_within : class < length m'.spaces.shapes
    class_within = s.stands.classed n object_there

    class_there : class < length (classes_of set)
    class_there =
        let shapes = ap (λ (ss : List Shape). length ss) heap_now.of_set.shapes in
        let long = length-map (classes_of set) (λ (c : ClassFacts). c.shape) in
        let within = class_within in
        omega (arith, shapes, long, within)

    kinds_are : slice_index_or m'.spaces.twin.marks.kinds e.shape no_kinds
        ≡ kinds_of (class_at set class).shape
    kinds_are =
        let within = s.stands.lies.table.shape_in n object_there in
        let long = s.stands.classes.long in
        s.stands.classes.kinds_are e.shape (omega (arith, within, long)) class_within
        ∙ ap kinds_of (shape_is set (heap_of [] (shown_in m')) heap_now.of_set.shapes class)

    module _ (kind : Kind) (is : kind_at (view_of m.spaces.twin) e i ≡ Some kind)
        (plain : is_reference (Some kind) ≡ false) where
      is_now : kind_at (view_of m'.spaces.twin) e i ≡ Some kind
      is_now = ap (λ ks. ks e.shape i) kinds ∙ is

      of_class : kind_in (kinds_of (class_at set class).shape) i ≡ Some kind
      of_class = ap (λ ks. kind_in ks i) (sym kinds_are) ∙ is_now

      holds : IsOf kind value
      holds =
          let typed = All-get_or (IsOfItsClass set) (shown_in m').objects n no_object
          (let long = objects_long m'.spaces.classes (view_of m'.spaces.twin) es s.stands.lies in
          let there = object_there in omega (arith, long, there)) heap_now.typed.objects in
          let long : length object.values ≡ e.slots =
          ap (λ (x : Obj). length x.values) object_now
          ∙ values_long m'.spaces.classes (view_of m'.spaces.twin) e in
          let within = slot_there in
          subst (IsOf kind) value_now
          (slot_is_of (class_at set object.shape).shape object.values i kind typed
          (omega (arith, within, long))
          (ap (λ c. kind_in (kinds_of (class_at set c).shape) i) class_is ∙ of_class))

      word_shows : item_value (λ _. None) (item_in (Some kind) w) ≡ value
      word_shows =
          sym (ap (λ k. slot_value k (value_of (view_of m'.spaces.twin) (refers (view_of m'.spaces.twin) e i)
          (word_of (view_of m'.spaces.twin) e i))) is_now
          ∙ ap (slot_value (Some kind))
          (value_plain (view_of m'.spaces.twin) (refers (view_of m'.spaces.twin) e i)
          (word_of (view_of m'.spaces.twin) e i) (ap is_reference is_now ∙ plain))
          ∙ ap (λ x. item_value (λ _. None) (item_in (Some kind) x)) s.stored.here)
          ∙ shows_now

      not_text : kind ≢ Text
      not_text =
          slot_not_text (class_at set class).shape i kind
          (class_plain set heap_now.consistent class class_there)
          of_class

    numbers_fit : (kind : Kind) → kind_at (view_of m.spaces.twin) e i ≡ Some kind
        → is_reference (Some kind) ≡ false
        → is_number kind w ≡ true
    numbers_fit kind is plain =
        number_fits kind (shown_in m).number es item w (record {
          of = subst (IsOf kind) (sym is_value) (holds kind is plain);
          word = word;
          shown = word_shows kind is plain ∙ sym is_value;
        }) plain (not_text kind is plain)

    -- ---- what a copied line of an object that is being made durable may hold

    module _ (kept : is_volatile (known_in o m).durable value ≡ false) where
      -- the object that is stored is durable
      stored_durable : (k : ℕ) → value ≡ Object k → InP es k
      stored_durable k is =
          (run.asked.durable k).0 (kept_number (known_in o m).durable k
          (ap (is_volatile (known_in o m).durable) (sym is) ∙ kept))

      by_reference : (r : Ref) (k : ℕ) → number_in (view_of m.spaces.twin) r ≡ Some k
          → IsWordOf es (RefItem r) w
          → w ≡ current_word (entry es k)
      by_reference NoRef k number word = none_is_not
          (sym (null_is_no_object (view_of m.spaces.twin)) ∙ number)
      by_reference (Persistent line) k number word =
          let named = number_named (view_of m.spaces.twin) es k
          (Persistent line) run.heap.whole.lies number in
          word k named.0 named.1
      by_reference (Volatile at) k number word =
          let named = number_named (view_of m.spaces.twin) es k (Volatile at) run.heap.whole.lies number in
          word k named.0 named.1

      by_item : (item : Item) (k : ℕ) → item_value (shown_in m).number item ≡ Object k → IsWordOf es item w
          → w ≡ current_word (entry es k)
      by_item (IntItem x) k is word = absurd (let no = is in cc)
      by_item (LongItem x) k is word = absurd (let no = is in cc)
      by_item (RefItem r) k is word =
          by_reference r k (number_of_value (number_in (view_of m.spaces.twin) r) k is) word

      -- it is the line's word of a durable object
      record IsLineOf (k : ℕ) : Type 0 where
        pub durable : InP es k
        pub is : w ≡ 2 * (entry es k).line
        pub names : Names (entry es k) w

      line_of_object : (k : ℕ) → value ≡ Object k → IsLineOf k
      line_of_object k is =
          let durable = stored_durable k is in
          let current = by_item item k (is_value ∙ is) word in
          let high = durable.1 in
          record {
            durable = durable;
            is = current ∙ word_copy (entry es k) (omega (arith, high));
            names = subst (Names (entry es k)) (sym current)
                (names_current (view_of m.spaces.twin) es k run.heap.whole.lies durable.0);
          }

      may_hold : MayHold (view_of m.spaces.twin) es n i w
      may_hold refer _ = elim (same_or_not w 0) [
        | inl none ↦ (
          omega (arith, none),
          λ k lk names.
              (let some = positive (entry es k) w names in absurd (omega (arith, none, some))),
        )
        | inr ne ↦
            (let refer_now : refers (view_of m'.spaces.twin) e i ≡ true =
            ap (λ ks. is_reference (ks e.shape i)) kinds ∙ refer in
            let here = s.stored.here in
            let its = shown_object (view_of m'.spaces.twin) e i value refer_now
            (omega (arith, ne, here)) shows_now in
            let line = line_of_object its.0 its.1 in
            let is = line.is in (
              omega (arith, is),
              λ k lk names.
                  subst (InP es) (one_object (view_of m.spaces.twin) es its.0 k w run.heap.whole.lies
                  line.durable.0 lk
                  line.names names) line.durable,
            ))
      ]

    -- ---- heap and queues agree

    abbrev Agreed : Queues → Type 0
    Agreed q = AgreesAt (scene m'.spaces.twin.space m'.spaces.twin.memory m'.spaces.twin.marks q m.free
        (keys_of m.rest.monitors)) es

    unclaimed_young : (HasCopied e (line_of i) → ⊥) → e.owner ≡ 0 → Agreed m.queue
    unclaimed_young none nobody =
        ordinary_stores_keep (scene_of m) m'.spaces.twin es n i w object_there nobody s.stored s.marks
        (s.same none)
        run.heap.agrees

    claimed_young : (u : ℕ) → (HasCopied e (line_of i) → ⊥) → IsClaimed es u n → Agreed m.queue
    claimed_young u none claimed =
        let place = run.heap.agrees.queued.all u n claimed in
        old_stores_keep (scene_of m) m'.spaces.twin es u place.0 n i w place.1 none s.stored s.marks
        (s.same none)
        run.heap.agrees

    claimed_copied : (u : ℕ) → HasCopied e (line_of i) → IsClaimed es u n
        → is_volatile (known_in o m).durable value ≡ false → Agreed (told m.queue u (e.line + line_of i))
    claimed_copied u has claimed kept =
        let place = run.heap.agrees.queued.all u n claimed in
        copied_stores_keep (scene_of m) m'.spaces.twin es u place.0 n i w place.1 slot_there has s.stored
        s.marks
        (s.line has).changes (may_hold kept) run.heap.agrees

    pub durable_agrees : (q : Queues) → q ≡ m.queue → InP es n → Agreed q
    durable_agrees q same durable =
        subst Agreed (sym same)
        (durable_stores_keep (scene_of m) m'.spaces.twin es n i w durable slot_there s.stored s.marks
        (s.line (inl durable.1)).changes run.heap.agrees)

    -- who has claimed the object
    owner_of : (e.owner ≡ 0 → ⊥) → IsClaimed es (e.owner - 1) n
    owner_of ne = (object_there, omega (arith, ne))

    copied_durable : HasCopied e (line_of i) → e.owner ≡ 0 → InP es n
    copied_durable (inl high) nobody = (object_there, high, nobody)
    copied_durable (inr young) nobody =
        absurd (let some = run.heap.whole.lies.table.copying n object_there young.0 in omega
        (arith, nobody, some))

    -- with queues that are told of it where the line is a copied one
    pub record IsTold (q : Queues) : Type 0 where
      pub claimed : (u : ℕ) → IsClaimed es u n → HasCopied e (line_of i)
          → q ≡ told m.queue u (e.line + line_of i)
      pub none : (HasCopied e (line_of i) → ⊥) → q ≡ m.queue

    pub beside_agrees : (q : Queues) → IsTold q → (InP es n → ⊥)
        → (HasCopied e (line_of i) → is_volatile (known_in o m).durable value ≡ false) → Agreed q
    beside_agrees q tells outside kept = elim (copied_or_not e (line_of i)) [
      | inr none ↦ subst Agreed (sym (tells.none none)) (elim (same_or_not e.owner 0) [
        | inl nobody ↦ unclaimed_young none nobody
        | inr ne ↦ claimed_young (e.owner - 1) none (owner_of ne)
      ])
      | inl has ↦ (elim (same_or_not e.owner 0) [
        | inl nobody ↦ absurd (outside (copied_durable has nobody))
        | inr ne ↦ subst Agreed (sym (tells.claimed (e.owner - 1) (owner_of ne) has))
            (claimed_copied (e.owner - 1) has (owner_of ne) (kept has))
      ])
    ]

    memory_now : SameMemory (memory_of m) (memory_of m')
    memory_now = elim (copied_or_not e (line_of i)) [
      | inr none ↦ memory_same (memory_of m) (memory_of m') (s.same none)
      | inl has ↦ memory_changed (e.line + line_of i) (memory_of m) (memory_of m') (s.line has).changes
    ]

    pub shared_slot : Agreed m'.queue → KeepsShared o m' es
    shared_slot agrees = (
      acted_heap o m m' es (run.heap, run.world) t request (op.Stored (SlotPlace n i) value) r d es (record {
        whole = s.stands;
        agrees = agrees;
        classes = s.classes;
        listed = run.heap.listed;
        numbers = numbers_stored (view_of m.spaces.twin) (view_of m'.spaces.twin) es n i w kinds s.stored
            run.heap.numbers numbers_fit;
        low = run.heap.low;
        memory = memory_now;
      }),
      acted_world o m m' es (run.heap, run.world) t request (op.Stored (SlotPlace n i) value) r d
          (same_fields m.spaces.statics m'.spaces.statics s.statics),
    )
