-- What a first machine shows is the plain first world.
use Rattle.std.proofs.Common.{◌≡◌, ℕ, ◌+◌, ◌≤◌, List, [], map, length, replicate, None, refl, ap, sym, ◌∙◌, subst, arith}
use Rattle.std.proofs.Common.{length-append}
use Rattle.std.specs.Prelude.{All}
use Rattle.std.specs.List.{AllByRecursion}
use Rattle.std.proofs.lemmas.List.{length-map, length-replicate}
use Rattle.std.proofs.lemmas.List.Elements.{All-nil, All-cons}
use Rattle.graph_model.specs.declared.types.Heap.{Heap}
use Rattle.image_meaning.specs.Opening.{HoldsGraph}
use Rattle.monitors.specs.declared.monitor.Monitor.{Monitor}
use Rattle.run_history.specs.declared.plain.Monitor.{Monitor as PlainMonitor}
use Rattle.run_history.specs.declared.plain.Progress.{Progress}
use Rattle.run_history.specs.declared.plain.Progress.TheVariants.{Untouched, Finished}
use Rattle.run_history.specs.Recorded.{Recorded}
use Rattle.run_history.specs.Knowing.{Knowledge, known_after}
use Rattle.run_history.specs.Worlds.{Thread, World}
use Rattle.plain_model.specs.BuiltIn.{built_in_count}
use Rattle.plain_model.specs.Facts.{SetFacts, classes_of}
use Rattle.plain_model.specs.First.{first_heap, first_world}
use Rattle.plain_model.specs.Limits.{words_left}
use Rattle.plain_model.specs.TypeLaws.{IsOfSet}
use Rattle.plain_model.specs.Typed.{IsTyped}
use Rattle.plain_model.proofs.Consistent.{counted}
use Rattle.plain_model.proofs.Typing.{first_heap_is_typed}
use Rattle.plain_model.proofs.TypedRuns.{heap_is_of_set}
use Rattle.shared_objects.specs.declared.threads.ThreadState.{ThreadState}
use Rattle.shared_objects.specs.Shown.{Shown}
use Rattle.shared_objects.specs.Threads.{new_state}
use Rattle.shared_objects.specs.Worlds.{IsHeldKey, KnowsMonitors, heap_of, plain_monitor, plain_thread, world_of}
use Rattle.shared_steps.specs.Lasting.{AtMost}
use Rattle.step_forms.specs.Follows.{IsHeapOf}
use Rattle.run_forms.specs.Standing.{plain_code}
use Rattle.twin_forms.specs.Table.{Entry}
use Rattle.two_spaces.specs.Seen.{static_value}
use Rattle.twin_forms.specs.Sights.{view_of}
use Rattle.machine_laws.specs.Passed.{Opening, Machine, first_of, known_in, shown_in}
use Rattle.machine_laws.specs.Passed.{KeepsWorld, HasSlotsOfRoots}
use Rattle.first_spaces.proofs.Holding.{first_holds}
use Rattle.launch_laws.specs.First.{IsFirstMachine}
use Rattle.launch_laws.proofs.Roots.{roots_in_slots}

world_with : Heap → List PlainMonitor → List Progress → List Thread → World
world_with heap monitors classes threads =
    record { heap = heap; monitors = monitors; classes = classes; threads = threads }

same_world : (h i : Heap) (m n : List PlainMonitor) (c d : List Progress) (t u : List Thread) → h ≡ i → m ≡ n
    → c ≡ d → t ≡ u
    → ◌≡◌ {A = World} (record { heap = h; monitors = m; classes = c; threads = t })
    (record { heap = i; monitors = n; classes = d; threads = u })
unfolding world_with
same_world h i m n c d t u heap monitors classes threads =
    ap (λ (x : Heap). world_with x m c t) heap ∙ ap (λ (x : List PlainMonitor). world_with i x c t) monitors
    ∙ ap (λ (x : List Progress). world_with i n x t) classes
    ∙ ap (λ (x : List Thread). world_with i n d x) threads

module _ (o : Opening) (lines : List ℕ) (m : Machine) (es : List Entry)
    (first : IsFirstMachine o lines m es) where
  abbrev set : SetFacts
  set = o.launch.set

  abbrev heap : Heap
  heap = first_heap set o.launch.opening

  abbrev shows : Shown
  shows = shown_in m

  pub known_is : known_in o m ≡ first_of o
  known_is = ap (λ (acts : List Recorded). known_after (first_of o) acts) first.acts

  -- ---- the world

  pub world_is : (first_of o).world ≡ world_of heap.roots shows m.rest
  unfolding first_world
  world_is = same_world _ _ _ _ _ _ _ _ (sym first.shows.heap)
      (ap (λ (ms : List Monitor). map (plain_monitor shows.number) ms) (sym first.rest.monitors))
      (sym first.rest.classes)
      (ap (λ (ts : List ThreadState). map plain_thread ts) (sym first.rest.threads))

  first_is : (first_of o).world.heap ≡ heap
  unfolding first_world
  first_is = refl

  pub slots_of_heap : HasSlotsOfRoots heap m.spaces
  slots_of_heap = roots_in_slots heap m.spaces
      (ap (λ (h : Heap). length h.statics) (sym first.shows.heap)
      ∙ length-map m.spaces.statics (static_value (view_of m.spaces.twin))) first.roots

  pub slots_of_roots : HasSlotsOfRoots (first_of o).world.heap m.spaces
  slots_of_roots = subst (λ (h : Heap). HasSlotsOfRoots h m.spaces) (sym first_is) slots_of_heap

  -- ---- its heap

  of_set : IsOfSet set (heap_of heap.roots shows)
  unfolding first_world
  of_set = subst (IsOfSet set) (sym first.shows.heap)
      (heap_is_of_set set o.launch.main o.launch.opening (plain_code o.launch)
      first.launched.consistent.complete first.launched.opening [] tt)

  typed : IsTyped set (heap_of heap.roots shows)
  typed = subst (IsTyped set) (sym first.shows.heap)
      (first_heap_is_typed set o.launch.opening first.launched.consistent first.launched.opening)

  heap_is : IsHeapOf set shows
  heap_is = record {
    consistent = first.launched.consistent;
    of_set = record { shapes = of_set.shapes; statics = of_set.statics; slots = of_set.slots };
    typed = record { objects = typed.objects; statics = typed.statics };
  }

  nodes_there : length o.launch.opening.nodes ≤ length shows.objects
  nodes_there =
      let held : HoldsGraph heap o.launch.opening = first_holds set o.launch.opening first.launched.opening in
      let many = held.many in
      let same = ap (λ (h : Heap). length h.objects) first.shows.heap in
      omega (arith, many, same)

  words_are : shows.left ≡ words_left o.launch.limits o.launch.opening (heap_of [] shows)
  words_are = first.shows.left o.launch.limits refl
      ∙ ap (λ (h : Heap). words_left o.launch.limits o.launch.opening h) (sym first.shows.heap)

  -- ---- what is beside it

  pub no_monitors : KnowsMonitors shows m.rest
  no_monitors = subst (AllByRecursion (λ (x : Monitor). IsHeldKey shows x.key)) (sym first.rest.monitors) tt

  classes_counted : length m.rest.classes.items ≡ length (classes_of set)
  classes_counted =
      let untouched = length-replicate (length set.program) Untouched in
      let done = length-replicate (built_in_count + length set.arrays) Finished in
      ap (λ (ps : List Progress). length ps) first.rest.classes
      ∙ length-append (replicate (length set.program) Untouched)
      (replicate (built_in_count + length set.arrays) Finished)
      ∙ omega (arith, untouched, done, counted set)

  counts : (k : ℕ) → AtMost k m.rest
  counts k = record {
    monitors = subst (All (λ (x : Monitor). x.count ≤ k)) (sym first.rest.monitors)
        (All-nil (λ (x : Monitor). x.count ≤ k));
    threads = subst (All (λ (x : ThreadState). x.depth ≤ k)) (sym first.rest.threads)
        (All-cons (λ (x : ThreadState). x.depth ≤ k) (new_state None) [] (omega arith)
        (All-nil (λ (x : ThreadState). x.depth ≤ k)));
  }

  pub world_kept : KeepsWorld o m
  world_kept = record {
    launched = first.launched;
    world = subst (λ (known : Knowledge). known.world ≡ world_of known.world.heap.roots shows m.rest)
        (sym known_is)
        (subst (λ (h : Heap). (first_of o).world ≡ world_of h.roots shows m.rest) (sym first_is) world_is);
    heap = heap_is;
    monitors = no_monitors;
    classes = classes_counted;
    counts = counts (length m.acts);
    nodes = nodes_there;
    words = words_are;
    roots = subst (λ (known : Knowledge). HasSlotsOfRoots known.world.heap m.spaces) (sym known_is)
        slots_of_roots;
  }
