-- What an act of a request leaves of heap and world, by what its step says.
use Rattle.std.proofs.Common.{◌≡◌, inl, inr, ℕ, ◌+◌, ◌*◌, ◌<◌, ◌≤◌, ltb, true, false, Bool, List, [], ◌∷◌, ◌++◌, length, refl}
use Rattle.std.proofs.Common.{sym, ◌∙◌, ap, subst, arith, length-set, if◌then◌else◌}
use Rattle.std.specs.Prelude.{slice_index_or}
use Rattle.std.specs.List.{AllByRecursion}
use Rattle.ap_base.specs.References.{reference_word}
use Rattle.ap_base.specs.declared.place.Place.TheVariants.{Static as StaticPlace, Slot as SlotPlace}
use Rattle.ap_base.specs.declared.reference.Ref.{Ref}
use Rattle.ap_base.specs.declared.reference.Ref.TheVariants.{Persistent, Volatile}
use Rattle.ap_base.specs.declared.reference.Item.{Item}
use Rattle.run_types.specs.declared.key.Key.{Key}
use Rattle.run_types.specs.declared.key.Key.TheVariants.{Object, Class}
use Rattle.graph_model.specs.declared.types.Heap.{Heap}
use Rattle.graph_model.specs.declared.types.Root.{Root}
use Rattle.graph_model.specs.declared.types.Shape.{Shape}
use Rattle.image_layout.specs.Places.{first_object_line}
use Rattle.image_meaning.specs.Corresponds.{root_static}
use Rattle.image_meaning.specs.Directories.{Directory}
use Rattle.line_memory.specs.Memory.{Memory, IsTelling}
use Rattle.monitors.specs.declared.monitor.Monitor.{Monitor}
use Rattle.natives.specs.declared.requests.Request.{Request}
use Rattle.natives.specs.declared.requests.Reply.{Reply}
use Rattle.run_history.specs.declared.act.Op.{Op}
use Rattle.run_history.specs.declared.act.Op.TheVariants as op
use Rattle.run_history.specs.Recorded.{Recorded}
use Rattle.run_history.specs.Knowing.{Knowledge, known_after, known_after_op, after_end, is_outermost, next_known}
use Rattle.run_history.specs.Worlds.{World, after, heap_after_op}
use Rattle.run_history.proofs.Grown.{known_after-append}
use Rattle.one_space.proofs.Laid.{some_is}
use Rattle.stop_theorem.specs.Layouts.{HasRootSlots}
use Rattle.shared_objects.specs.Worlds.{world_of, IsHeldKey}
use Rattle.machine_forms.specs.Passed.{AtMost}
use Rattle.machine_forms.proofs.Passed.{heap_kept, classes_kept, counts_kept, words_kept, objects_kept}
use Rattle.step_forms.specs.declared.stepped.Stepped.TheVariants as stepped
use Rattle.twin_forms.specs.Table.{Entry, entry, Lies}
use Rattle.twin_forms.specs.Moves.{ChangesLine}
use Rattle.twin_forms.specs.Sights.{AllKnown, view_of}
use Rattle.two_spaces.specs.declared.spaces.Static.{Static}
use Rattle.two_spaces.specs.declared.spaces.Static.TheVariants.{Root as RootSlot}
use Rattle.two_spaces.specs.Seen.{Spaces, shown_of, number_in}
use Rattle.two_spaces.specs.Seen.{current_word as word_shown}
use Rattle.two_spaces.specs.Whole.{Stands, SameClasses, no_static}
use Rattle.two_spaces.proofs.Numbering.{key_named, number_named}
use Rattle.convert_words.specs.Agreeing.{current_word, IsResolved}
use Rattle.convert_words.specs.Scenes.{Scene, scene, AgreesAt, IsKey}
use Rattle.converter.specs.Stepping.{keys_of, key_words}
use Rattle.converter.proofs.Calling.{key_cons}
use Rattle.machine_forms.specs.Machines.{Opening, Machine, first_of, known_in, roots_in, memory_of, scene_of, shown_in}
use Rattle.machine_forms.specs.Keeping.{KeepsHeap, KeepsWorld, HasSlotsOfRoots, HoldsNumbers, IsOfDirectory}
use Rattle.machine_forms.specs.Events.{DoesRequest, act_in}
use Rattle.machine_laws.specs.HeapLaws.{KeepsShared}
use Rattle.machine_laws.proofs.HeapTables.{AreLow}
use Rattle.machine_laws.proofs.Worlds.{one_act_more}

-- ---- what is known after an act

world_ended : (known : Knowledge) (t : ℕ) (outermost : Bool)
    → (after_end known t outermost).world ≡ after known.world t op.End
world_ended known t true = refl
world_ended known t false = refl

world_after : (known : Knowledge) (t : ℕ) (named : List ℕ) (operation : Op)
    → (known_after_op known t named operation).world ≡ after known.world t operation
unfolding known_after_op
world_after known t named (op.Asked place value) = refl
world_after known t named op.Joined = refl
world_after known t named (op.Guarded place) = refl
world_after known t named op.Closing = refl
world_after known t named op.Fenced = refl
world_after known t named op.End = world_ended known t (is_outermost known t)
world_after known t named operation = refl

roots_after : (h : Heap) (operation : Op) → (heap_after_op h operation).roots ≡ h.roots
roots_after h (op.Alloc n shape count) = refl
roots_after h (op.Throw n class) = refl
roots_after h (op.Stored (StaticPlace f) value) = refl
roots_after h (op.Stored (SlotPlace n i) value) = refl
roots_after h operation = refl

statics_after : (h : Heap) (operation : Op) → length (heap_after_op h operation).statics ≡ length h.statics
statics_after h (op.Alloc n shape count) = refl
statics_after h (op.Throw n class) = refl
statics_after h (op.Stored (StaticPlace f) value) = length-set h.statics f value
statics_after h (op.Stored (SlotPlace n i) value) = refl
statics_after h operation = refl

-- ---- the slots of the durable roots

-- the same static fields lie in root slots
pub record SameRootFields (before now : List Static) : Type 0 where
  pub on : (f r : ℕ) → slice_index_or before f no_static ≡ RootSlot r
      → slice_index_or now f no_static ≡ RootSlot r
  pub back : (f r : ℕ) → slice_index_or now f no_static ≡ RootSlot r
      → slice_index_or before f no_static ≡ RootSlot r

pub same_fields : (before now : List Static) → now ≡ before → SameRootFields before now
same_fields before now same = record {
  on = λ f r is. ap (λ (ss : List Static). slice_index_or ss f no_static) same ∙ is;
  back = λ f r is. sym (ap (λ (ss : List Static). slice_index_or ss f no_static) same) ∙ is;
}

module _ (h h' : Heap) (s s' : Spaces) (roots : h'.roots ≡ h.roots)
    (statics : length h'.statics ≡ length h.statics)
    (fields : SameRootFields s.statics s'.statics) (held : HasSlotsOfRoots h s) where
  abbrev with_roots : List Root → Heap
  with_roots rs = record h' { roots = rs }

  sized_still : HasRootSlots (with_roots h.roots)
  sized_still = record {
    numbers = held.sized.numbers;
    statics = λ r lt. subst (λ n. root_static h r < n) (sym statics) (held.sized.statics r lt);
    roots = held.sized.roots;
  }

  held_still : HasSlotsOfRoots (with_roots h.roots) s'
  held_still = record {
    sized = sized_still;
    there = λ r lt. fields.on (root_static h r) r (held.there r lt);
    others = λ f r is. held.others f r (fields.back f r is);
  }

  pub slots_held : HasSlotsOfRoots h' s'
  slots_held = subst (λ (rs : List Root). HasSlotsOfRoots (with_roots rs) s') (sym roots) held_still

-- ---- keys of monitors

same_word : (e : Entry) → word_shown e ≡ current_word e
same_word e =
    elim (ltb e.stage 2) as (λ b. reference_word (if b then Volatile e.at else Persistent e.line)
    ≡ (if b then 2 * e.at + 1 else 2 * e.line)) [ true ↦ refl | false ↦ refl ]

module _ (s : Spaces) (es : List Entry) (h : Lies (view_of s.twin) es) where
  key_resolved : (k : Key Ref) (ks : List ℕ) (w : ℕ) → IsHeldKey (shown_of s) k → IsKey (key_words k ++ ks) w
      → (IsKey ks w → IsResolved es w) → IsResolved es w
  key_resolved (Class n) ks w held key rest = rest key
  key_resolved (Object r) ks w held key rest = elim (key_cons (reference_word r) ks w key) [
    | inr later ↦ rest later
    | inl is ↦
        (let n = some_is (number_in (view_of s.twin) r) held.0 in
        let named = number_named (view_of s.twin) es n.0 r h n.1 in
        (n.0, named.0, sym is ∙ key_named (view_of s.twin) es n.0 r h held.1 n.1 ∙ same_word (entry es n.0)))
  ]

  all_resolved : (ms : List Monitor) → AllByRecursion (λ (x : Monitor). IsHeldKey (shown_of s) x.key) ms
      → (w : ℕ)
      → IsKey (keys_of ms) w → IsResolved es w
  all_resolved [] held w key = absurd (let lt = key.1 in omega (arith, lt))
  all_resolved (x ∷ xs) held w key =
      key_resolved x.key (keys_of xs) w held.0 key (all_resolved xs held.1 w)

-- The keys of monitors that are held are resolved; so the scene agrees whichever these are.
rekeyed_agrees : (s : Scene) (keys : List ℕ) (es : List Entry) → ((w : ℕ) → IsKey keys w → IsResolved es w)
    → AgreesAt s es → AgreesAt (record s { keys = keys }) es
rekeyed_agrees s keys es resolved a = record {
  lies = a.lies;
  sizes = a.sizes;
  queued = a.queued;
  on_way = a.on_way;
  noted = a.noted;
  real = a.real;
  below = a.below;
  few = a.few;
  resolved = resolved;
}

-- ---- the memory

-- what a store to one line, or none, leaves of the memory
pub record SameMemory (old new : Memory) : Type 0 where
  pub size : new.size ≡ old.size
  pub known : AllKnown old → AllKnown new
  pub telling : IsTelling old.image.trace → IsTelling new.image.trace

pub memory_same : (old new : Memory) → new ≡ old → SameMemory old new
memory_same old new same = record {
  size = ap (λ (x : Memory). x.size) same;
  known = λ known. subst AllKnown (sym same) known;
  telling = λ told. subst (λ (x : Memory). IsTelling x.image.trace) (sym same) told;
}

pub memory_changed : (line : ℕ) (old new : Memory) → ChangesLine line old new → SameMemory old new
memory_changed line old new c = record {
  size = c.size;
  known = λ known l lt. elim (known l (let size = c.size in omega (arith, lt, size))) [
    | inl resident ↦ inl (c.resident.kept l resident)
    | inr told ↦ inr (subst (λ image. IsTelling image.trace) (sym c.same.image) told)
  ];
  telling = λ told. subst (λ image. IsTelling image.trace) (sym c.same.image) told;
}

-- ---- acts of requests

-- What the heap of an act's machine is given. Its keys and the lines that are left are the old ones.
pub record Acts (m m' : Machine) (directory : Directory) (es' : List Entry) : Type 0 where
  pub whole : Stands m'.spaces es'
  pub agrees : AgreesAt (scene m'.spaces.twin.space m'.spaces.twin.memory m'.spaces.twin.marks m'.queue m.free
      (keys_of m.rest.monitors)) es'
  pub classes : SameClasses m.spaces m'.spaces
  pub listed : (n : ℕ) → n < length es' → (entry es' n).shape < length directory.shapes
  pub numbers : HoldsNumbers m'.spaces es'
  pub low : AreLow es'
  pub memory : SameMemory (memory_of m) (memory_of m')

directory_on : (directory : Directory) (s s' : Spaces) → SameClasses s s' → IsOfDirectory directory s
    → IsOfDirectory directory s'
directory_on directory s s' same d =
    let base : IsOfDirectory directory (record s' { shapes = s.shapes; classes = s.classes }) =
    record { many = d.many; shapes = d.shapes } in
    subst (λ (cs : List ℕ). IsOfDirectory directory (record s' { classes = cs })) (sym same.classes)
    (subst (λ (ss : List Shape). IsOfDirectory directory (record s' { shapes = ss; classes = s.classes }))
    (sym same.shapes) base)

module _ (o : Opening) (m m' : Machine) (es : List Entry) (kept : KeepsShared o m es) (t : ℕ)
    (request : Request Ref Item) (operation : Op) (r : Reply Ref Item)
    (d : DoesRequest o m m' es t request operation r) where
  abbrev act : Recorded
  act = act_in m t operation []

  pub known_now : known_in o m' ≡ next_known (known_in o m) act
  known_now = ap (λ acts. known_after (first_of o) acts) d.acts ∙ known_after-append (first_of o) m.acts act

  pub world_now : (known_in o m').world ≡ after (known_in o m).world t operation
  world_now = ap (λ (k : Knowledge). k.world) known_now ∙ world_after (known_in o m) t [] operation

  same_roots : roots_in o m' ≡ roots_in o m
  same_roots = ap (λ (w : World). w.heap.roots) world_now ∙ roots_after (known_in o m).world.heap operation

  same_statics : length (known_in o m').world.heap.statics ≡ length (known_in o m).world.heap.statics
  same_statics =
      ap (λ (w : World). length w.heap.statics) world_now ∙ statics_after (known_in o m).world.heap operation

  counts_now : AtMost (length m'.acts) m'.rest
  counts_now =
      subst (λ n. AtMost n m'.rest)
      (sym (ap (λ (acts : List Recorded). length acts) d.acts ∙ one_act_more m.acts act))
      (counts_kept o.launch.set t request (shown_in m) m.rest (shown_in m') m'.rest (stepped.Did operation r)
      d.fit.fit d.step (length m.acts) kept.1.counts)

  pub acted_world : SameRootFields m.spaces.statics m'.spaces.statics → KeepsWorld o m'
  acted_world fields = record {
    launched = kept.1.launched;
    world = world_now ∙ ap (λ (w : World). after w t operation) kept.1.world
        ∙ sym (d.step.follows (roots_in o m)).2
        ∙ ap (λ (rs : List Root). world_of rs (shown_in m') m'.rest) (sym same_roots);
    heap = heap_kept o.launch.set t request (shown_in m) m.rest (shown_in m') m'.rest
        (stepped.Did operation r)
        d.fit.fit d.step kept.1.heap;
    monitors = d.step.monitors;
    classes = classes_kept o.launch.set t request (shown_in m) m.rest (shown_in m') m'.rest
        (stepped.Did operation r) d.fit.fit d.step ∙ kept.1.classes;
    counts = counts_now;
    nodes =
        (let more = objects_kept o.launch.set t request (shown_in m) m.rest (shown_in m') m'.rest
        (stepped.Did operation r) d.fit.fit d.step in
        let there = kept.1.nodes in omega (arith, more, there));
    words = words_kept o.launch.set t request (shown_in m) m.rest (shown_in m') m'.rest o.launch.limits
        o.launch.opening (stepped.Did operation r) d.step kept.1.nodes kept.1.words;
    roots = slots_held (known_in o m).world.heap (known_in o m').world.heap m.spaces m'.spaces same_roots
        same_statics fields kept.1.roots;
  }

  pub acted_heap : (es' : List Entry) → Acts m m' o.directory es' → KeepsHeap o m' es'
  acted_heap es' a = record {
    whole = a.whole;
    agrees = rekeyed_agrees
        (record (scene_of m') { keys = keys_of m.rest.monitors })
        (keys_of m'.rest.monitors) es'
        (all_resolved m'.spaces es' a.whole.lies m'.rest.monitors d.step.monitors)
        (subst (λ f. AgreesAt
        (scene m'.spaces.twin.space m'.spaces.twin.memory m'.spaces.twin.marks m'.queue f
        (keys_of m.rest.monitors)) es') (sym d.free) a.agrees);
    sound = d.sound;
    directory = directory_on o.directory m.spaces m'.spaces a.classes kept.0.directory;
    listed = a.listed;
    numbers = a.numbers;
    low = a.low;
    behind = subst (λ f. first_object_line ≤ f) (sym d.free) kept.0.behind;
    within =
        (let free = d.free in
        let size = a.memory.size in let within = kept.0.within in omega (arith, free, size, within));
    size = a.memory.size ∙ kept.0.size;
    long = kept.0.long;
    known = a.memory.known kept.0.known;
    telling = λ told. a.memory.telling (kept.0.telling told);
  }

  -- ---- an act that makes nothing and stores nothing

  pub acted_still : m'.spaces ≡ m.spaces → m'.queue ≡ m.queue → Acts m m' o.directory es
  acted_still same queue = record {
    whole = subst (λ (s : Spaces). Stands s es) (sym same) kept.0.whole;
    agrees = subst (λ (s : Spaces). AgreesAt (scene s.twin.space s.twin.memory s.twin.marks m'.queue m.free
        (keys_of m.rest.monitors)) es) (sym same)
        (subst (λ q. AgreesAt (scene m.spaces.twin.space m.spaces.twin.memory m.spaces.twin.marks q m.free
        (keys_of m.rest.monitors)) es) (sym queue) kept.0.agrees);
    classes = record {
      shapes = ap (λ (s : Spaces). s.shapes) same;
      classes = ap (λ (s : Spaces). s.classes) same;
      numbers = ap (λ (s : Spaces). s.numbers) same;
      kinds = ap (λ (s : Spaces). s.twin.marks.kinds) same;
    };
    listed = kept.0.listed;
    numbers = subst (λ (s : Spaces). HoldsNumbers s es) (sym same) kept.0.numbers;
    low = kept.0.low;
    memory = memory_same (memory_of m) (memory_of m') (ap (λ (s : Spaces). s.twin.memory) same);
  }
