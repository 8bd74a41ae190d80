-- What a run of a class set over an image comes to, by what opening the image and running on it gave.
use Rattle.std.proofs.Common.{◌≡◌, ◌⊎◌, inl, inr, ℕ, zero, suc, ◌+◌, ◌-◌, ◌<◌, ◌≤◌, List, [], ◌∷◌, Some, None, Ok, refl, sym, Option}
use Rattle.std.proofs.Common.{◌∙◌, subst, arith, length, slice_index_or, take}
use Rattle.std.specs.Prelude.{sum_by}
use Rattle.std.proofs.lemmas.List.Sums.{sum_by-cons}
use Rattle.graph_model.specs.declared.types.Obj.{Obj}
use Rattle.graph_model.specs.Heaps.{no_object}
use Rattle.run_types.specs.declared.fault.Full.{Full}
use Rattle.plain_model.specs.Limits.{words_of}
use Rattle.directories.specs.Kept.{Kept}
use Rattle.graph_model.specs.declared.types.Graph.{Graph}
use Rattle.line_image.specs.Told.{Told}
use Rattle.line_image.specs.Trace.{Outcome}
use Rattle.line_memory.specs.Memory.{Memory, IsTelling, CanLeaveAll, shown}
use Rattle.image_meaning.specs.Directories.{with_all}
use Rattle.image_meaning.specs.Entries.{DirectoryEntry}
use Rattle.image_meaning.specs.Meaning.{empty_graph}
use Rattle.run_types.specs.declared.limits.Limits.{Limits}
use Rattle.run_history.specs.Recorded.{Recorded}
use Rattle.plain_model.specs.Ends.{Ending, EndsAs, Fault, Uncaught, Finished}
use Rattle.plain_model.specs.First.{first_heap, first_known, first_objects}
use Rattle.class_set.specs.Linked.{Linked}
use Rattle.class_set.specs.Facts.{facts_of}
use Rattle.stop_theorem.specs.Stops.{IsAllowedImage}
use Rattle.stop_theorem.specs.Laws.{IsSafeRun}
use Rattle.durable_launch.specs.Passed.{Opening, memory_of}
use Rattle.durable_launch.specs.Passed.{EachStopIsAllowed}
use Rattle.durable_launch.specs.Passed.{HadNoFault}
use Rattle.run_forms.specs.Standing.{Launch, IsRun, plain_code}
use Rattle.image_recovery.specs.Recovered.{entries_in}
use Rattle.durable_launch.specs.Passed.{EndsBy, HasRun}
use Rattle.durable_launch.specs.Passed.{RunEnd}
use Rattle.durable_launch.specs.Passed.{Ended, Over}
use Rattle.durable_launch.specs.declared.heaps.OpenedHeap.{OpenedHeap}
use Rattle.durable_launch.specs.declared.launches.Launched.{Launched}
use Rattle.durable_launch.specs.Launching.{CanLaunch, IsLaunched, launch_over, opening_over}
use Rattle.durable_launch.specs.Passed.{Main}
use Rattle.durable_launch.specs.Passed.{main_of}
use Rattle.durable_launch.specs.Passed.{IfFull}
use Rattle.durable_launch.specs.Passed.{NoLaunch}
use Rattle.durable_launch.specs.NoLaunches as no_launch
use Rattle.one_space.specs.First.{LacksWords}
use Rattle.durable_launch.specs.Passed.{Unopened}
use Rattle.durable_launch.specs.Unopenings as unopened
use Rattle.durable_launch.specs.Passed.{AllAgree, IsFoundFor, IsOpenedFor}
use Rattle.durable_launch.specs.Passed.{IsAttachFault, IsLeft, IsLeftAsFound, IsRecoveryFault, IsUnappended, IsUnopened}
use Rattle.durable_launch.proofs.Passed.{found_left}
use Rattle.statuses.specs.declared.status.Status.{Status}
use Rattle.statuses.specs.declared.status.Status.TheVariants as status
use Rattle.class_runs.specs.Began.{FindsRoom, RanBy, status_of_end, status_of_unlaunched}
use Rattle.class_runs.specs.Sets.{Ends, HasEndedSo, HasItsDirectory, HasNoMain, IsOfSet, IsOpenedSo, LacksFirstWords}
use Rattle.class_runs.specs.Sets.{SetRunsOver, StandsAtStops, status_of_unopened}
use Rattle.class_runs.proofs.Unappended.{its_directory}
use Rattle.class_runs.proofs.SetStops.{AddsNew, adds_lacking, adds_none, stops_opened, stops_run, stops_unattached, stops_without}

-- ---- an image that is given back

module _ (set : Linked) (start after : Told) where
  left_stops : (before m : Memory) (added : _) → IsLeft start after before m added → AddsNew set before.size (shown before) added
      → (opening : Graph) → IsTelling start.trace → StandsAtStops set start opening [] after
  left_stops before m added left adds opening telling =
      subst (λ (t : Told). StandsAtStops set start opening [] t) (sym left.told)
      (stops_without start set before left.attached m added adds (left.stops telling) telling opening)

  -- nothing was appended
  as_left : (before m : Memory) → IsLeft start after before m [] → (opening : Graph) → IsTelling start.trace
      → StandsAtStops set start opening [] after
  as_left before m left = left_stops before m [] left (adds_none set before.size (shown before))

-- a set has no part in the faults of attaching and of recovery
attached_without : (start : Told) (why : Unopened) → IsAttachFault start why → IsOfSet why → ⊥
attached_without start (unopened.BadImage line reason) fault of = of
attached_without start (unopened.ShapeChanged name) fault of = fault
attached_without start (unopened.Full full) fault of = fault
attached_without start unopened.ImageFailed fault of = of
attached_without start unopened.OutOfMemory fault of = of

recovered_without : (before m : Memory) (why : Unopened) → IsRecoveryFault before m why → IsOfSet why → ⊥
recovered_without before m (unopened.BadImage line reason) fault of = of
recovered_without before m (unopened.ShapeChanged name) fault of = fault
recovered_without before m (unopened.Full full) fault of = fault
recovered_without before m unopened.ImageFailed fault of = of
recovered_without before m unopened.OutOfMemory fault of = of

module _ (set numbered : Linked) (start after : Told) (why : Unopened) where
  unopened_size : IsUnopened start after set numbered why → after.size ≡ start.size
  unopened_size (inl (unattached, same)) = unattached.size
  unopened_size (inr (inl (unrecovered, same))) = unrecovered.left.size
  unopened_size (inr (inr unprepared)) = unprepared.left.left.size

  unopened_stops : IsUnopened start after set numbered why → (opening : Graph) → IsTelling start.trace
      → StandsAtStops set start opening [] after
  unopened_stops (inl (unattached, same)) opening telling =
      stops_unattached set start opening after unattached.trace unattached.moments
  unopened_stops (inr (inl (u, same))) opening telling = as_left set start after u.before u.memory u.left opening telling
  unopened_stops (inr (inr u)) opening telling =
      as_left set start after u.left.before u.left.memory u.left.left opening telling

  unopened_had : IsUnopened start after set numbered why → IsOfSet why → IsTelling start.trace → HasItsDirectory start after
  unopened_had (inl (unattached, same)) of telling = absurd (attached_without start why unattached.cause of)
  unopened_had (inr (inl (u, same))) of telling = absurd (recovered_without u.before u.memory why u.cause of)
  unopened_had (inr (inr u)) of telling = its_directory start telling after u.directory u.graph u.left

  pub unopened_ran : {takes : (ℕ → ℕ → Option ℕ)} (name : List ℕ) (limits : Limits) → IsUnopened start after set numbered why
      → SetRunsOver set name limits start takes empty_graph [] after (status_of_unopened why)
  unopened_ran name limits is = record {
    size = unopened_size is;
    ends = inl (refl, inl (record { numbered = numbered; why = why; unopened = is; is = refl; unappended = unopened_had is }));
    unbegun = λ none. refl;
    stops = unopened_stops is empty_graph;
  }

-- ---- a run that didn't begin

module _ (set numbered : Linked) (start : Told) (m : Memory) (directory : Kept) (lines : List ℕ) (graph : Graph) (free : ℕ)
    (is : IsFoundFor start set numbered m directory lines graph free) where
  pub unbegun_ran : {takes : (ℕ → ℕ → Option ℕ)} (name : List ℕ) (limits : Limits) (after : Told) (how : Status) → after ≡ m.image → after.size ≡ m.size
      → LacksFirstWords numbered limits how ⊎ HasNoMain numbered name limits how ⊎ (how ≡ status.OutOfMemory)
      → SetRunsOver set name limits start takes empty_graph [] after how
  unbegun_ran name limits after how same size cause =
      let left : IsLeftAsFound start after is.found is.stood =
      found_left start is.before m is.found is.stood lines free is.found_is after size same in record {
        size = left.left.size;
        ends = inl (
          refl,
          inr (inl (record {
            numbered = numbered;
            left = record {
              found = is.found;
              directory = directory;
              stood = is.stood;
              graph = graph;
              left = left;
              fitted = is.fitted;
            };
            cause = cause;
            unappended = λ telling. its_directory start telling after is.found is.stood left;
          })),
        );
        unbegun = λ none. refl;
        stops = as_left set start after left.before left.memory left.left empty_graph;
      }

  -- the first objects find no room, or there is no memory
  pub unfitted_ran : {takes : (ℕ → ℕ → Option ℕ)} (name : List ℕ) (limits : Limits) (after : Told) (why : NoLaunch) → after ≡ m.image → after.size ≡ m.size
      → IfFull why (LacksWords limits.heap_words (first_objects (facts_of numbered) empty_graph))
      → SetRunsOver set name limits start takes empty_graph [] after (status_of_unlaunched why)
  unfitted_ran name limits after (no_launch.Full full) same size lacks =
      unbegun_ran name limits after (status.Full full) same size (inl (record { full = full; is = refl; lacks = lacks }))
  unfitted_ran name limits after no_launch.OutOfMemory same size lacks =
      unbegun_ran name limits after status.OutOfMemory same size (inr (inr refl))

-- it failed while entries were appended
pub unappended_ran : {takes : (ℕ → ℕ → Option ℕ)} (set numbered : Linked) (name : List ℕ) (limits : Limits) (start after : Told)
    → IsUnappended start after set numbered
    → SetRunsOver set name limits start takes empty_graph [] after status.ImageFault
unappended_ran set numbered name limits start after u = record {
  size = u.left.size;
  ends = inl (refl, inr (inr (inl (record { numbered = numbered; unappended = u; is = refl }))));
  unbegun = λ none. refl;
  stops = left_stops set start after u.before u.memory u.added u.left
      (subst (AddsNew set u.before.size (shown u.before)) (sym u.added_is)
      (adds_lacking set numbered u.before.size (shown u.before) u.found u.entries u.found_is u.set_is u.are_its
      (subst (λ (added : List DirectoryEntry). AllAgree (facts_of numbered) (with_all u.found added).shapes) u.added_is u.agree)))
      empty_graph;
}

-- objects for which there is room don't lack words
sum_up_to : (objects : List Obj) (n : ℕ) → n < length objects
    → sum_by words_of (take n objects) + words_of (slice_index_or objects n no_object) ≤ sum_by words_of objects
sum_up_to [] n below = absurd (omega (arith, below))
sum_up_to (o ∷ os) zero below = let all = sum_by-cons words_of o os in omega (arith, all)
sum_up_to (o ∷ os) (suc n) below =
    let more = sum_up_to os n (omega (arith, below)) in
    let all = sum_by-cons words_of o os in
    let front = sum_by-cons words_of o (take n os) in
    omega (arith, more, all, front)

never_lacks : (words : ℕ) (objects : List Obj) (full : Full) → sum_by words_of objects ≤ words → LacksWords words objects full → ⊥
never_lacks words objects full fits lacks =
    let up = sum_up_to objects lacks.n lacks.there in
    let short = lacks.short in
    omega (arith, fits, up, short)

room_summed : (set : Linked) (limits : Limits) → FindsRoom set limits
    → sum_by words_of (first_objects (facts_of set) empty_graph) ≤ limits.heap_words
unfolding first_heap
room_summed set limits fits = fits empty_graph

module _ (set numbered : Linked) (start : Told) (m : Memory) (directory : Kept) (lines : List ℕ) (graph : Graph) (free : ℕ)
    (opened : IsOpenedFor start set numbered m directory lines graph free) where
  abbrev pub opened_so : IsOpenedSo set start graph
  opened_so = record { numbered = numbered; memory = m; directory = directory; lines = lines; free = free; opened = opened }

  -- there is no memory
  pub unstarted_ran : {takes : (ℕ → ℕ → Option ℕ)} (name : List ℕ) (limits : Limits) (after : Told) → after ≡ m.image → after.size ≡ m.size
      → SetRunsOver set name limits start takes empty_graph [] after status.OutOfMemory
  unstarted_ran name limits after same size = record {
    size = size ∙ opened.ready.same_size;
    ends = inl (refl, inr (inr (inr (record { graph = graph; of = opened_so; is = refl }))));
    unbegun = λ none. refl;
    stops = λ telling. subst (λ (t : Told). StandsAtStops set start empty_graph [] t) (sym same)
        (stops_opened start telling set numbered m directory lines graph free opened empty_graph);
  }

  -- nor is there one for the first heap, whose objects find room
  pub unlaunched_ran : {takes : (ℕ → ℕ → Option ℕ)} (name : List ℕ) (limits : Limits) (after : Told) (why : NoLaunch) → after ≡ m.image → after.size ≡ m.size
      → FindsRoom numbered limits
      → IfFull why (LacksWords limits.heap_words (first_objects (facts_of numbered) empty_graph))
      → SetRunsOver set name limits start takes empty_graph [] after (status_of_unlaunched why)
  unlaunched_ran name limits after (no_launch.Full full) same size fits lacks =
      absurd (never_lacks limits.heap_words (first_objects (facts_of numbered) empty_graph) full (room_summed numbered limits fits) lacks)
  unlaunched_ran name limits after no_launch.OutOfMemory same size fits lacks = unstarted_ran name limits after same size

-- ---- a run

module _ {I : Type 0} (set numbered : Linked) (name : List ℕ) (limits : Limits) (start : Told)
    (heap : OpenedHeap I) (can : CanLaunch start set numbered limits.heap_words heap) (main : Main)
    (found : main_of numbered name ≡ Ok main) (launched : Launched I)
    (l : IsLaunched start (entries_in can.directory) numbered main limits heap launched)
    (takes : ℕ → ℕ → Option ℕ) (opening : Graph) (acts : List Recorded) (after : Told) (how : Status) where
  abbrev launch : Launch
  launch = launch_over numbered main limits heap.graph l.literals

  abbrev o : Opening
  o = opening_over start heap.spaces.heap.memory (entries_in can.directory) launch

  abbrev Opened : Type 0
  Opened = IsOpenedFor start set numbered heap.spaces.heap.memory can.directory can.lines heap.graph heap.free

  size_now : heap.spaces.heap.memory.size ≡ start.size
  size_now = can.opened.ready.same_size

  module _ (ran : RanBy o heap.free numbered heap.graph takes opening acts after how) where
    has_run : (end : RunEnd) → EndsBy o heap.free end ran.shared → HasRun o ran.shared
    has_run (Ended uncaught) ends = ends.0
    has_run (Over fault) ends = ends.0

    run : HasRun o ran.shared
    run = has_run ran.end ran.ends

    machine_acts : ran.shared.machine.acts ≡ acts
    machine_acts = sym (ran.acts_are ∙ run.history)

    machine_size : (memory_of ran.shared.machine).size ≡ start.size
    machine_size = run.keeps.heap.size ∙ size_now

    abbrev EndedBy : Ending → Type 0
    EndedBy ending = EndsAs launch.set launch.main launch.opening (plain_code launch) launch.limits
        (start.size - heap.free) acts ending

    ended_by : (ending : Ending) → EndsAs launch.set launch.main launch.opening (plain_code launch) launch.limits
        ((memory_of ran.shared.machine).size - heap.free) ran.shared.machine.acts ending → EndedBy ending
    ended_by ending ended =
        subst (λ (made : List Recorded). EndsAs launch.set launch.main launch.opening (plain_code launch) launch.limits
        (start.size - heap.free) made ending) machine_acts
        (subst (λ (n : ℕ). EndsAs launch.set launch.main launch.opening (plain_code launch) launch.limits
        (n - heap.free) ran.shared.machine.acts ending) machine_size ended)

    has_end : (end : RunEnd) → how ≡ status_of_end numbered end → EndsBy o heap.free end ran.shared
        → Ends numbered launch (start.size - heap.free) acts how
    has_end (Ended None) is ends = record { ending = Finished; ended = ended_by Finished ends.1; is = is }
    has_end (Ended (Some (t, class))) is ends =
        record { ending = Uncaught t class; ended = ended_by (Uncaught t class) ends.1; is = is }
    has_end (Over fault) is ends = record { ending = Fault fault; ended = ended_by (Fault fault) ends.1; is = is }

    pub has_ended : HasEndedSo set name limits start takes opening acts how
    has_ended = record {
      graph = heap.graph;
      of = opened_so set numbered start heap.spaces.heap.memory can.directory can.lines heap.graph heap.free can.opened;
      main = main;
      found = found;
      literals = l.literals;
      run = subst (λ (made : List Recorded). IsRun launch made) machine_acts run.run;
      within = subst (λ (made : List Recorded). HadNoFault launch made) machine_acts run.unfaulted;
      shares = ran.shares;
      ends = has_end ran.end ran.is ran.ends;
      from = ran.some;
    }

    size_after : after.size ≡ start.size
    size_after = ran.size ∙ machine_size

    still_telling : IsTelling start.trace → IsTelling heap.spaces.heap.memory.image.trace
    still_telling telling = can.opened.goes_on.telling (can.opened.attached.telling telling)

    -- what a stop leaves
    stops : EachStopIsAllowed → IsTelling start.trace → StandsAtStops set start opening acts after
    stops law telling =
        let m = heap.spaces.heap.memory in
        let s = ran.shared.machine in
        let known = first_known (facts_of numbered) heap.graph in
        let kept = entries_in can.directory in
        let tells = still_telling telling in
        let runs = run.keeps.stops tells in
        let now = (law o s run.table run.keeps tells).now in
        subst (λ (t : Told). StandsAtStops set start opening acts t) (sym ran.image)
        (stops_run start telling set numbered m can.directory can.lines heap.graph heap.free can.opened opening acts
        (memory_of s)
        (subst (λ (made : List Recorded). IsSafeRun known m.size kept start.calls m made (memory_of s))
        machine_acts runs.safe)
        can.opened.ready.counts
        (subst (λ (made : List Recorded). (c : Outcome) → CanLeaveAll (memory_of s) c → IsAllowedImage known m.size kept made c)
        machine_acts now)
        ran.some size_now)

    pub has_run_over : EachStopIsAllowed → SetRunsOver set name limits start takes opening acts after how
    has_run_over law = record {
      size = size_after;
      ends = inr has_ended;
      unbegun = ran.none;
      stops = stops law;
    }
