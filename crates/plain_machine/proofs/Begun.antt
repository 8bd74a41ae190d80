-- The machine with a first heap stands for the empty run.
use Rattle.std.proofs.Common.{◌≡◌, ℕ, ◌+◌, ◌<◌, ◌≤◌, ◌^◌, ◌-◌, List, [], ◌∷◌, map, length, replicate, Some, None, refl, ap, sym}
use Rattle.std.proofs.Common.{subst, ◌∙◌, arith, rules, length-append, Bool, true, get_or, nat_lt, if◌then◌else◌}
use Rattle.std.specs.Prelude.{All}
use Rattle.std.specs.List.{AllByRecursion}
use Rattle.std.proofs.lemmas.List.{length-map, length-replicate}
use Rattle.std.proofs.lemmas.List.Elements.{All-cons, All-nil, All-weaker}
use Rattle.ap_base.specs.declared.reference.Ref.{Ref}
use Rattle.ap_base.specs.declared.reference.Ref.TheVariants.{Volatile}
use Rattle.graph_model.specs.Heaps.{IsBelow, IsSound}
use Rattle.graph_model.specs.declared.types.Heap.{Heap}
use Rattle.graph_model.specs.declared.types.Obj.{Obj}
use Rattle.graph_model.specs.declared.types.Root.{Root}
use Rattle.graph_model.specs.declared.types.Shape.{Shape}
use Rattle.graph_model.specs.declared.types.Value.{Value}
use Rattle.graph_model.specs.declared.types.Value.TheVariants as value
use Rattle.monitors.specs.declared.monitor.Monitor.{Monitor}
use Rattle.run_history.specs.declared.plain.Monitor.{Monitor as PlainMonitor}
use Rattle.run_history.specs.declared.plain.Progress.{Progress}
use Rattle.run_history.specs.declared.plain.Progress.TheVariants.{Untouched, Finished}
use Rattle.run_history.specs.Worlds.{Thread, World, is_below, new_thread}
use Rattle.plain_model.specs.BuiltIn.{built_in_count}
use Rattle.plain_model.specs.Facts.{arguments_class, classes_of, shapes_of, stream_class}
use Rattle.plain_model.specs.First.{arguments_number, first_heap, first_objects, first_progress, first_world, literal_number}
use Rattle.plain_model.specs.First.{literal_object, node_object}
use Rattle.plain_model.proofs.Consistent.{counted}
use Rattle.frames.specs.Turns.{begun_main}
use Rattle.plain_frames.specs.Codes.{code_of}
use Rattle.shared_objects.specs.declared.rest.Rest.{Rest}
use Rattle.shared_objects.specs.declared.threads.ThreadState.{ThreadState}
use Rattle.shared_objects.specs.Shown.{Shown}
use Rattle.shared_objects.specs.Threads.{new_state}
use Rattle.shared_objects.specs.Worlds.{IsHeldKey, KnowsMonitors, plain_monitor, plain_thread, world_of}
use Rattle.run_forms.specs.Laws.{HeapsAreOfTheSet}
use Rattle.run_forms.specs.Views.{PlainFrames, ThreadFrames, plain_frames}
use Rattle.run_forms.specs.Standing.{IsLaunch, Launch, StandsFor, frames_at, known_at, setting_of}
use Rattle.plain_machine.specs.Beginnings.{BeginsWith, IsFirstHeap, IsFirstRest, MachinesBegin}
use Rattle.plain_machine.specs.Standing.{Stands}
use Rattle.plain_machine.specs.declared.beginning.Beginning.{Beginning}
use Rattle.plain_machine.specs.declared.lanes.Lane.{Lane}
use Rattle.plain_heap.specs.Shows.{number_in, shown_with}
use Rattle.plain_heap.specs.Sound.{IsSoundHeap, IsSoundObject}
use Rattle.plain_machine.specs.Trying.{IsReady}
use Rattle.plain_machine.proofs.Starting.{reference-is}

heap_with : List Root → List Shape → List Obj → List Value → Heap
heap_with roots shapes objects statics =
    record { shapes = shapes; objects = objects; statics = statics; roots = roots }

world_with : Heap → List PlainMonitor → List Progress → List Thread → World
world_with heap monitors classes threads =
    record { heap = heap; monitors = monitors; classes = classes; threads = threads }

module _ (heaps : HeapsAreOfTheSet) (launch : Launch) (shown : Shown) (rest : Rest) (arguments : Ref)
    (is : IsLaunch launch) (heap : IsFirstHeap launch shown arguments) (beside : IsFirstRest launch rest)
  where
    abbrev frames : ThreadFrames
    frames = begun_main launch.main launch.method arguments

    abbrev roots : List Root
    roots = (first_heap launch.set launch.opening).roots

    heap-is : first_heap launch.set launch.opening ≡ heap_with roots shown.shapes shown.objects shown.statics
    unfolding first_heap heap_with
    heap-is = sym (ap (λ (ss : List Shape). heap_with roots ss shown.objects shown.statics) heap.shapes
        ∙ ap (λ (os : List Obj). heap_with roots (shapes_of launch.set) os shown.statics) heap.objects
        ∙ ap (λ (vs : List Value). heap_with roots (shapes_of launch.set)
        (first_objects launch.set launch.opening) vs) heap.statics)

    world-is : (known_at launch []).world ≡ world_of roots shown rest
    unfolding first_world heap_with world_with
    world-is = ap (λ (h : Heap). world_with h [] (first_progress launch.set launch.opening) (new_thread None
        ∷ []))
        heap-is
        ∙ ap (λ (ms : List Monitor). world_with (heap_with roots shown.shapes shown.objects shown.statics)
        (map (plain_monitor shown.number) ms) (first_progress launch.set launch.opening) (new_thread None ∷ []))
        (sym beside.monitors)
        ∙ ap (λ (cs : List Progress). world_with (heap_with roots shown.shapes shown.objects shown.statics)
        (map (plain_monitor shown.number) rest.monitors) cs (new_thread None ∷ [])) (sym beside.classes)
        ∙ ap (λ (ts : List ThreadState). world_with (heap_with roots shown.shapes shown.objects shown.statics)
        (map (plain_monitor shown.number) rest.monitors) rest.classes.items (map plain_thread ts))
        (sym beside.threads)

    frames-are : frames_at launch [] ≡ map (plain_frames shown) (frames ∷ [])
    unfolding code_of
    frames-are =
        let begun : Value → List PlainFrames = λ v. begun_main launch.main launch.method v ∷ [] in
        ap begun (sym (reference-is shown arguments (arguments_number launch.set launch.opening) heap.null
        heap.array))

    knows : KnowsMonitors shown rest
    knows = subst (AllByRecursion (λ (m : Monitor). IsHeldKey shown m.key)) (sym beside.monitors) tt

    stands : StandsFor launch [] shown rest (frames ∷ [])
    stands = record {
      run = tt;
      roots = roots;
      world = world-is;
      frames = frames-are;
      monitors = knows;
      literals = heap.literals;
      null = heap.null;
    }

    classes-counted : length rest.classes.items ≡ length (classes_of launch.set)
    classes-counted =
        let untouched = length-replicate (length launch.set.program) Untouched in
        let done = length-replicate (built_in_count + length launch.set.arrays) Finished in
        ap (λ (ps : List Progress). length ps) beside.classes
        ∙ length-append (replicate (length launch.set.program) Untouched)
        (replicate (built_in_count + length launch.set.arrays) Finished)
        ∙ omega (arith, untouched, done, counted launch.set)

    monitors-none : (P : Monitor → Type 0) → All P rest.monitors
    monitors-none P = subst (All P) (sym beside.monitors) (All-nil P)

    threads-one : (P : ThreadState → Type 0) → P (new_state None) → All P rest.threads
    threads-one P p = subst (All P) (sym beside.threads) (All-cons P (new_state None) [] p (All-nil P))

    ready : IsReady launch.set shown rest 0
    ready = record {
      agrees = record {
        heap = heaps launch [] shown rest (frames ∷ []) is stands;
        classes = classes-counted;
        monitors = knows;
        counts = record {
          monitors = monitors-none (λ (m : Monitor). m.count < 2 ^ 64 - 1);
          threads = threads-one (λ (s : ThreadState). s.depth < 2 ^ 64 - 1) (omega arith);
        };
      };
      entered = monitors-none (λ (m : Monitor). 0 < m.count);
      most = record {
        monitors = monitors-none (λ (m : Monitor). m.count ≤ 0);
        threads = threads-one (λ (s : ThreadState). s.depth ≤ 0) (omega arith);
      };
      few = omega arith;
    }

pub begins : HeapsAreOfTheSet → MachinesBegin
begins heaps launch shown rest arguments is heap beside = record {
  launched = is;
  facts = refl;
  setting = refl;
  threads = begun_main launch.main launch.method arguments ∷ [];
  stands = stands heaps launch shown rest arguments is heap beside;
  ahead = (refl, tt);
  of = ((tt, tt), tt);
  ready = ready heaps launch shown rest arguments is heap beside;
}

-- ---- the first heap is sound

below-is : (n : ℕ) (v : Value) → IsBelow n v → is_below n v ≡ true
below-is n (value.Int i) h = refl
below-is n (value.Long i) h = refl
below-is n value.Null h = refl
below-is n (value.Obj m) h = search (rules, h)

sound-object : (shapes : List Shape) (count : ℕ) (o : Obj) → o.shape < length shapes
    → length o.values < 2 ^ 31
    → All (IsBelow count) o.values → IsSoundObject shapes count o
sound-object shapes count o shape few below = record {
  shape = shape;
  few = few;
  below = All-weaker (IsBelow count) (λ (v : Value). is_below count v ≡ true) (below-is count) o.values below;
}

module _ (launch : Launch) (b : Beginning) (with : BeginsWith launch b) where
  sound-here : IsSound (first_heap launch.set launch.opening)
      → IsSound (heap_with (first_heap launch.set launch.opening).roots b.shapes b.objects.items
      b.statics.items)
  unfolding first_heap heap_with
  sound-here h =
      subst (λ (ss : List Shape). IsSound (heap_with (first_heap launch.set launch.opening).roots ss
      b.objects.items
      b.statics.items)) (sym with.shapes)
      (subst (λ (os : List Obj). IsSound (heap_with (first_heap launch.set launch.opening).roots
      (shapes_of launch.set) os b.statics.items)) (sym with.objects)
      (subst (λ (vs : List Value). IsSound (heap_with (first_heap launch.set launch.opening).roots
      (shapes_of launch.set) (first_objects launch.set launch.opening) vs)) (sym with.statics) h))

  pub sound-first : IsSound (first_heap launch.set launch.opening)
      → All (λ (o : Obj). length o.values < 2 ^ 31) b.objects.items
      → IsSoundHeap b.shapes b.objects.items b.statics.items
  unfolding heap_with
  sound-first h short =
      let here = sound-here h in
      record {
        objects_sound = λ k d low. sound-object b.shapes (length b.objects.items) (get_or b.objects.items k d)
            (here.shapes k d low) (short k d low) (here.slots k d low);
        statics_below = All-weaker (IsBelow (length b.objects.items))
            (λ (v : Value). is_below (length b.objects.items) v ≡ true) (below-is (length b.objects.items))
            b.statics.items here.statics;
        few = here.few;
      }

-- ---- references that are numbers

module _ (launch : Launch) (b : Beginning) (with : BeginsWith launch b) where
  abbrev shown : Shown
  shown = shown_with b.shapes b.objects.items b.statics.items 0

  counted-objects : length b.objects.items
      ≡ length launch.opening.nodes + (2 + length launch.set.literals)
  counted-objects = ap (λ (os : List Obj). length os) with.objects
      ∙ length-append (map (node_object launch.set launch.opening) launch.opening.nodes)
      (record { shape = stream_class launch.set; values = [] }
      ∷ record { shape = arguments_class launch.set; values = [] }
      ∷ map (literal_object launch.set launch.opening) launch.set.literals)
      ∙ omega (
        arith,
        length-map launch.opening.nodes (node_object launch.set launch.opening),
        length-map launch.set.literals (literal_object launch.set launch.opening),
      )

  stands-for-number : (n : ℕ) → n < length b.objects.items → number_in (length b.objects.items) (Volatile
      n) ≡ Some n
  stands-for-number n below =
      let test : nat_lt n (length b.objects.items) ≡ true = search (rules, below) in
      ap (λ (c : Bool). if c then Some n else None) test

  pub first-heap : (r : Ref) → r ≡ Volatile b.arguments → IsFirstHeap launch shown r
  first-heap r is = record {
    shapes = with.shapes;
    objects = with.objects;
    statics = with.statics;
    array =
        let below : b.arguments < length b.objects.items = omega (arith, with.array, counted-objects) in
        ap (number_in (length b.objects.items)) is ∙ stands-for-number b.arguments below ∙ ap Some with.array;
    literals = λ k low.
        let below : literal_number launch.set launch.opening k < length b.objects.items =
        omega (arith, low, counted-objects) in
        ap (number_in (length b.objects.items)) (with.literals k low)
        ∙ stands-for-number (literal_number launch.set launch.opening k) below;
    null = refl;
  }

  -- what begins with these parts stands for the empty run
  pub stands-first : MachinesBegin → (now : Shown) (rest : Rest) (lanes : List Lane) (frames : ThreadFrames)
      → now ≡ shown → rest.monitors ≡ [] → rest.classes.items ≡ b.classes.items → rest.threads
      ≡ new_state None ∷ []
      → frames ≡ begun_main b.class b.method (Volatile b.arguments)
      → lanes ≡ record { frames = frames; asked = None } ∷ []
      → Stands launch [] launch.set (setting_of launch) now rest 0 lanes
  stands-first law now rest lanes frames shows monitors classes threads begun one =
      let own : frames ≡ begun_main launch.main launch.method (Volatile b.arguments) = begun
      ∙ ap (λ (c : ℕ). begun_main c b.method (Volatile b.arguments)) with.main
      ∙ ap (λ (m : ℕ). begun_main launch.main m (Volatile b.arguments)) with.method in
      subst (λ (s : Shown). Stands launch [] launch.set (setting_of launch) s rest 0 lanes) (sym shows)
      (subst (λ (ls : List Lane). Stands launch [] launch.set (setting_of launch) shown rest 0 ls) (sym one)
      (subst (λ (fs : ThreadFrames). Stands launch [] launch.set (setting_of launch) shown rest 0
      (record { frames = fs; asked = None } ∷ [])) (sym own)
      (law launch shown rest (Volatile b.arguments) with.launched (first-heap (Volatile b.arguments) refl)
      (record {
        monitors = monitors;
        classes = classes ∙ with.classes;
        threads = threads;
      }))))
