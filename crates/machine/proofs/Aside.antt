-- A machine whose monitors, classes and threads are kept otherwise, but show the same world, keeps its run.
use Rattle.std.proofs.Common.{◌≡◌, inl, inr, ℕ, ◌+◌, ◌*◌, ◌≤◌, ltb, true, false, List, [], ◌∷◌, ◌++◌, length, map, refl, sym}
use Rattle.std.proofs.Common.{◌∙◌, ap, subst, arith, if◌then◌else◌}
use Rattle.std.specs.Prelude.{All}
use Rattle.std.specs.List.{AllByRecursion}
use Rattle.std.proofs.lemmas.List.Elements.{All-nil, All-cons, All-head, All-tail, All-map}
use Rattle.ap_base.specs.References.{reference_word}
use Rattle.ap_base.specs.declared.reference.Ref.{Ref}
use Rattle.ap_base.specs.declared.reference.Ref.TheVariants.{Persistent, Volatile}
use Rattle.run_types.specs.declared.key.Key.{Key}
use Rattle.run_types.specs.declared.key.Key.TheVariants.{Object, Class}
use Rattle.graph_model.specs.declared.types.Root.{Root}
use Rattle.monitors.specs.declared.monitor.Monitor.{Monitor}
use Rattle.monitors.specs.Indexed.{AreSound}
use Rattle.run_history.specs.declared.plain.Monitor.{Monitor as PlainMonitor}
use Rattle.run_history.specs.Worlds.{Thread, World}
use Rattle.one_space.proofs.Laid.{some_is}
use Rattle.shared_objects.specs.declared.rest.Rest.{Rest}
use Rattle.shared_objects.specs.Worlds.{world_of, plain_monitor, plain_thread, IsHeldKey, KnowsMonitors}
use Rattle.shared_heap.specs.Passed.{AtMost}
use Rattle.run_forms.specs.Views.{ThreadFrames}
use Rattle.twin_forms.specs.Table.{Entry, entry, Lies}
use Rattle.twin_forms.specs.Sights.{view_of}
use Rattle.two_spaces.specs.Seen.{Spaces, shown_of, number_in}
use Rattle.two_spaces.specs.Seen.{current_word as word_shown}
use Rattle.two_spaces.proofs.Numbering.{key_named, number_named}
use Rattle.convert_words.specs.Agreeing.{current_word, IsResolved}
use Rattle.convert_words.specs.Scenes.{Scene, AgreesAt, IsKey}
use Rattle.converter.specs.Stepping.{keys_of, key_words}
use Rattle.converter.proofs.Calling.{key_cons}
use Rattle.machine_threads.specs.Passed.{Opening, Machine, roots_in, scene_of, shown_in}
use Rattle.machine_threads.specs.Passed.{KeepsRun, KeepsHeap, KeepsWorld, KeepsAsked}
use Rattle.machine_threads.specs.Passed.{RunsAsPlain}

-- ---- keys of monitors

same_word : (e : Entry) → word_shown e ≡ current_word e
same_word e =
    elim (ltb e.stage 2) as (λ b. reference_word (if b then Volatile e.at else Persistent e.line)
    ≡ (if b then 2 * e.at + 1 else 2 * e.line)) [ true ↦ refl | false ↦ refl ]

module _ (s : Spaces) (es : List Entry) (h : Lies (view_of s.twin) es) where
  key_resolved : (k : Key Ref) (ks : List ℕ) (w : ℕ) → IsHeldKey (shown_of s) k → IsKey (key_words k ++ ks) w
      → (IsKey ks w → IsResolved es w) → IsResolved es w
  key_resolved (Class n) ks w held key rest = rest key
  key_resolved (Object r) ks w held key rest = elim (key_cons (reference_word r) ks w key) [
    | inr later ↦ rest later
    | inl is ↦
        (let n = some_is (number_in (view_of s.twin) r) held.0 in
        let named = number_named (view_of s.twin) es n.0 r h n.1 in
        (n.0, named.0, sym is ∙ key_named (view_of s.twin) es n.0 r h held.1 n.1 ∙ same_word (entry es n.0)))
  ]

  all_resolved : (ms : List Monitor) → AllByRecursion (λ (x : Monitor). IsHeldKey (shown_of s) x.key) ms
      → (w : ℕ) → IsKey (keys_of ms) w → IsResolved es w
  all_resolved [] held w key = absurd (let lt = key.1 in omega (arith, lt))
  all_resolved (x ∷ xs) held w key =
      key_resolved x.key (keys_of xs) w held.0 key (all_resolved xs held.1 w)

-- The keys of monitors that are held are resolved; so the scene agrees whichever these are.
rekeyed_agrees : (s : Scene) (keys : List ℕ) (es : List Entry) → ((w : ℕ) → IsKey keys w → IsResolved es w)
    → AgreesAt s es → AgreesAt (record s { keys = keys }) es
rekeyed_agrees s keys es resolved a = record {
  lies = a.lies;
  sizes = a.sizes;
  queued = a.queued;
  on_way = a.on_way;
  noted = a.noted;
  real = a.real;
  below = a.below;
  few = a.few;
  resolved = resolved;
}

-- ---- counts

-- what holds of each image holds of each element
all-back : {X Y : Type 0} (P : X → Type 0) (f : Y → X) (ys : List Y) → All P (map f ys) → All (λ y. P (f
    y)) ys
all-back P f [] all = All-nil (λ y. P (f y))
all-back P f (y ∷ ys) all = All-cons (λ y. P (f y)) y ys (All-head P (f y) (map f ys) all)
    (all-back P f ys (All-tail P (f y) (map f ys) all))

abbrev Few : ℕ → PlainMonitor → Type 0
Few n m = m.count ≤ n

abbrev Shallow : ℕ → Thread → Type 0
Shallow n t = t.depth ≤ n

-- ---- one machine

module _ (o : Opening) (m : Machine) (es : List Entry) (k : KeepsRun o m es) (rest : Rest)
    (sound : AreSound rest.monitors) (known : KnowsMonitors (shown_in m) rest)
    (same : (roots : List Root) → world_of roots (shown_in m) rest ≡ world_of roots (shown_in m) m.rest) where
  abbrev aside : Machine
  aside = record m { rest = rest }

  counts : AtMost (length m.acts) rest
  counts = record {
    monitors = all-back (Few (length m.acts)) (plain_monitor (shown_in m).number) rest.monitors
        (subst (All (Few (length m.acts))) (sym (ap (λ (w : World). w.monitors) (same [])))
        (All-map (Few (length m.acts)) (plain_monitor (shown_in m).number) m.rest.monitors
        k.world.counts.monitors));
    threads = all-back (Shallow (length m.acts)) plain_thread rest.threads
        (subst (All (Shallow (length m.acts))) (sym (ap (λ (w : World). w.threads) (same [])))
        (All-map (Shallow (length m.acts)) plain_thread m.rest.threads k.world.counts.threads));
  }

  heap : KeepsHeap o aside es
  heap = record {
    whole = k.heap.whole;
    agrees = rekeyed_agrees (scene_of m) (keys_of rest.monitors) es
        (all_resolved m.spaces es k.heap.whole.lies rest.monitors known) k.heap.agrees;
    sound = sound;
    directory = k.heap.directory;
    listed = k.heap.listed;
    numbers = k.heap.numbers;
    low = k.heap.low;
    behind = k.heap.behind;
    within = k.heap.within;
    size = k.heap.size;
    long = k.heap.long;
    known = k.heap.known;
    telling = k.heap.telling;
  }

  world : KeepsWorld o aside
  world = record {
    launched = k.world.launched;
    world = k.world.world ∙ sym (same (roots_in o m));
    heap = k.world.heap;
    monitors = known;
    classes = ap (λ (w : World). length w.classes) (same []) ∙ k.world.classes;
    counts = counts;
    nodes = k.world.nodes;
    words = k.world.words;
    roots = k.world.roots;
  }

  asked : KeepsAsked o aside es
  asked = record {
    durable = k.asked.durable;
    doing = k.asked.doing;
    threads = k.asked.threads;
    queued = λ t i n is. (let first = k.asked.queued t i n is in record {
      pending = first.pending;
      is_pending = first.is_pending;
      object = first.object;
      value = first.value;
      first = first.first;
    });
    wanted = k.asked.wanted;
    closed = k.asked.closed;
    timed = k.asked.timed;
    few = k.asked.few;
    regions = record {
      many = k.asked.regions.many;
      each = λ t below. (let own = k.asked.regions.each t below in record {
        thread = own.thread;
        guards = own.guards;
        keeps = own.keeps;
        region = own.region;
        old = own.old;
      });
      others = k.asked.regions.others;
      apart = k.asked.regions.apart;
    };
  }

  -- the scene agrees with each table with which it agreed
  pub agrees-aside : (table : List Entry) → AgreesAt (scene_of m) table → AgreesAt (scene_of aside) table
  agrees-aside table agrees = rekeyed_agrees (scene_of m) (keys_of rest.monitors) table
      (all_resolved m.spaces table agrees.lies rest.monitors known) agrees

  pub keeps-aside : KeepsRun o aside es
  keeps-aside = record { heap = heap; world = world; asked = asked; stops = k.stops }

  pub plain-aside : (threads : List ThreadFrames) → RunsAsPlain o m threads → RunsAsPlain o aside threads
  plain-aside threads plain = record {
    stands = record {
      run = plain.stands.run;
      roots = plain.stands.roots;
      world = plain.stands.world ∙ sym (same plain.stands.roots);
      frames = plain.stands.frames;
      monitors = known;
      literals = plain.stands.literals;
      null = plain.stands.null;
    };
    begun = plain.begun;
  }
