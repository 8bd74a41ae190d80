-- Who has guarded the word of a durable place, by the logs of a machine and by its acts.
use Rattle.std.proofs.Common.{◌≡◌, inl, inr, ℕ, ◌<◌, true, false, nat_lt, List, [], length, Option, Some, None, refl, sym, ◌∙◌}
use Rattle.std.proofs.Common.{ap, subst, arith}
use Rattle.std.proofs.lemmas.Bool.{and_from, false≢true, lt-ltb}
use Rattle.std.proofs.lemmas.List.{get_or_past}
use Rattle.ap_base.specs.declared.place.Place.{Place}
use Rattle.ap_base.specs.declared.place.Place.TheVariants.{Static, Slot}
use Rattle.ap_base.specs.declared.place.Spot.{Spot}
use Rattle.graph_model.specs.declared.types.Obj.{Obj}
use Rattle.graph_model.specs.Heaps.{no_object, values_of}
use Rattle.line_memory.specs.Memory.{shown}
use Rattle.graph_model.specs.declared.types.Value.{Value}
use Rattle.run_history.specs.Knowing.{Knowledge, durable_at, guard_of}
use Rattle.run_history.specs.Worlds.{has_place}
use Rattle.shared_objects.specs.Shown.{Shown}
use Rattle.shared_objects.specs.Worlds.{heap_of}
use Rattle.stop_theorem.specs.Layouts.{Layout, is_kept_place}
use Rattle.object_steps.specs.declared.storing.Store.{Store}
use Rattle.object_steps.specs.declared.storing.Target.{Target}
use Rattle.object_steps.specs.declared.storing.Target.TheVariants as target
use Rattle.object_steps.specs.Stores.{CanStore, CanTake, place_of}
use Rattle.region_log.specs.declared.entry.Underway.{Underway}
use Rattle.region_log.specs.declared.entry.Underway.TheVariants.{Nothing, Adding, Ending}
use Rattle.region_log.specs.Guarding.{IsAdded, IsGuarded, is_adding}
use Rattle.region_log.specs.Log.{Log, SameWord, entry_of, most_entries}
use Rattle.region_log.specs.Readers.{is_ending}
use Rattle.region_events.specs.Guards.{IsWordOf}
use Rattle.region_events.specs.Laws.{MayBeGuarded}
use Rattle.region_events.proofs.Lists.{no_place}
use Rattle.twin_forms.specs.Table.{Entry}
use Rattle.twin_forms.proofs.Led.{same_or_not, below_or_not}
use Rattle.machine_forms.specs.Passed.{Beside, Root}
use Rattle.machine_forms.specs.Passed.{Spaces}
use Rattle.machine_forms.specs.Machines.{Opening, Machine, empty_log, known_in, layout_in, log_of, memory_of, shown_in}
use Rattle.machine_forms.specs.Keeping.{KeepsLogOf, KeepsRun}
use Rattle.store_barrier.specs.Barriers.{IsDurablePlace, IsSpotAt, line_of_place, static_at, word_of_place, word_of_static}
use Rattle.store_barrier.specs.Regions.{HasLogged, IsApart, LogsFirst}
use Rattle.store_barrier.specs.Laws.{GuardedBy, GuardsAgree, GuardsItsStore, PlacesMayBeGuarded, StoredPlacesAreKept}
use Rattle.store_barrier.specs.Laws.{StoresAreLogged, StoresAreOutside}
use Rattle.store_barrier.proofs.Apart.{places_apart}
use Rattle.store_barrier.proofs.Machines.{durable_places, spot_is, word_is}
use Rattle.store_barrier.proofs.Spots.{moved}

-- ---- words

-- the words of one place
one_spot : (known : Knowledge) (lay : Layout) (a b : Spot) (p : Place) → IsWordOf known lay a p
    → IsWordOf known lay b p → SameWord a b
one_spot known lay a b p at_a at_b = (at_a.line ∙ sym at_b.line, at_a.word ∙ sym at_b.word)

-- an empty log has guarded nothing
none_guarded : (t : ℕ) (spot : Spot) → IsGuarded (empty_log t) spot → ⊥
none_guarded t spot (inl logged) = let below = logged.2 in absurd (omega (arith, below))
none_guarded t spot (inr added) = added

without_any : (log : Log) (spot : Spot) → log.entries ≡ [] → log.underway ≡ Nothing → IsGuarded log spot → ⊥
without_any log spot none idle (inl logged) = let below = logged.2 in let long = ap length none in absurd (omega (arith, below, long))
without_any log spot none idle (inr added) = subst (λ (u : Underway). IsAdded u spot) idle added

idle_of : (u : Underway) → is_adding u ≡ false → is_ending u ≡ false → u ≡ Nothing
idle_of Nothing added ends = refl
idle_of (Adding e stage) added ends = absurd (false≢true (sym added))
idle_of (Ending stage) added ends = absurd (false≢true (sym ends))

word_small : (s : Spaces) (p : Place) → word_of_place s p < 8
word_small s (Static f) = elim (static_at s f) as (λ x. word_of_static x < 8) [
  | Beside item ↦ omega arith
  | Root slot ↦ omega arith
]
word_small s (Slot n i) = omega arith

-- ---- places of stores

-- an object that has a slot is there
object_there : (seen : Shown) (n i : ℕ) → i < length (values_of (heap_of [] seen) n) → n < length seen.objects
object_there seen n i inside = elim (below_or_not n (length seen.objects)) [
  | inl lt ↦ lt
  | inr past ↦ (let none : length (values_of (heap_of [] seen) n) ≡ 0
      = ap (λ (x : Obj). length x.values) (get_or_past seen.objects n no_object past) in
      absurd (omega (arith, inside, none)))
]

-- the heap has the place
has_target : (seen : Shown) (x : Target) (v : Value) → CanTake seen x v
    → has_place (heap_of [] seen) (place_of x) ≡ true
has_target seen (target.Static f) v can = lt-ltb f (length seen.statics) can.0
has_target seen (target.Slot r n i) v can =
    let inside : i < length (values_of (heap_of [] seen) n) = can.1 in
    and_from (nat_lt n (length seen.objects)) (nat_lt i (length (values_of (heap_of [] seen) n)))
    (lt-ltb n (length seen.objects) (object_there seen n i inside))
    (lt-ltb i (length (values_of (heap_of [] seen) n)) inside)

module _ (o : Opening) (m : Machine) (es : List Entry) (k : KeepsRun o m es) where
  abbrev known : Knowledge
  known = known_in o m

  abbrev lay : Layout
  lay = layout_in o es

  known_place : (p : Place) → has_place (heap_of [] (shown_in m)) p ≡ true → has_place known.world.heap p ≡ true
  known_place (Static f) is = ap (λ w. has_place w.heap (Static f)) k.world.world ∙ is
  known_place (Slot n i) is = ap (λ w. has_place w.heap (Slot n i)) k.world.world ∙ is

  kept_target : (store : Store) → CanStore (shown_in m) store → IsDurablePlace m.spaces es (place_of store.target)
      → is_kept_place known (place_of store.target) ≡ true
  kept_target store can durable = and_from (durable_at known (place_of store.target))
      (has_place known.world.heap (place_of store.target))
      ((durable_places o m es k (place_of store.target)).1 durable)
      (known_place (place_of store.target) (has_target (shown_in m) store.target _ can.place))

  -- ---- guards

  -- only threads below 64 have logs
  log_below : (t : ℕ) (spot : Spot) → IsGuarded (log_of m t) spot → t < 64
  log_below t spot is = elim (below_or_not t 64) [
    | inl lt ↦ lt
    | inr past ↦ (let many = k.asked.regions.many in
        let none : log_of m t ≡ empty_log t = get_or_past m.logs t (empty_log t) (omega (arith, past, many)) in
        absurd (none_guarded t spot (subst (λ (l : Log). IsGuarded l spot) none is)))
  ]

  guard_below : (t : ℕ) (p : Place) → guard_of known.guards p ≡ Some t → t < 64
  guard_below t p is = elim (below_or_not t 64) [
    | inl lt ↦ lt
    | inr past ↦ absurd (no_place known.guards t p (k.asked.regions.others t past).guards is)
  ]

  -- the word that the thread's log has guarded for the place
  guarded_word : (t : ℕ) (p : Place) → guard_of known.guards p ≡ Some t
      → (spot : Spot) × IsWordOf known lay spot p × IsGuarded (log_of m t) spot
  guarded_word t p is =
      let own : KeepsLogOf o m es t = k.asked.regions.each t (guard_below t p is) in
      let at = own.guards.guarded p (is ∙ ap (λ u. Some u) (sym own.thread)) in
      (at.1, at.2, at.3)

  guarded_place : (t : ℕ) (p : Place) (spot : Spot) → is_kept_place known p ≡ true → IsWordOf known lay spot p
      → IsGuarded (log_of m t) spot → guard_of known.guards p ≡ Some t
  guarded_place t p spot kept word is =
      let own : KeepsLogOf o m es t = k.asked.regions.each t (log_below t spot is) in
      let at = own.guards.places spot is in
      let same : at.0 ≡ p = places_apart o m es k at.0 p at.2.is_kept kept (sym at.1.line ∙ word.line)
      (sym at.1.word ∙ word.word) in
      subst (λ q. guard_of known.guards q ≡ Some t) same (at.2.guard ∙ ap (λ u. Some u) own.thread)

  guarded_by : (p : Place) (spot : Spot) → is_kept_place known p ≡ true → IsWordOf known lay spot p
      → GuardedBy o m p spot
  guarded_by p spot kept word = record {
    by = λ t. (guarded_place t p spot kept word, back t);
    nobody = (
      no_guard (guard_of known.guards p) refl,
      λ none t is.
          let some = guarded_place t p spot kept word is in
          let wrong : None ≡ Some t = sym none ∙ some in cc,
    );
  }
    where
      back : (t : ℕ) → guard_of known.guards p ≡ Some t → IsGuarded (log_of m t) spot
      back t is = let at = guarded_word t p is in
          moved (log_of m t) at.0 spot (one_spot known lay at.0 spot p at.1 word) at.2

      no_guard : (g : Option ℕ) → guard_of known.guards p ≡ g → ((t : ℕ) → IsGuarded (log_of m t) spot → ⊥)
          → guard_of known.guards p ≡ None
      no_guard None is none = is
      no_guard (Some t) is none = absurd (none t (back t is))

  -- ---- stores

  -- where no other thread has guarded the place, whoever has is this one
  own_guard : (t u : ℕ) (p : Place) → IsDurablePlace m.spaces es p → IsApart m.spaces m.logs t p
      → guard_of known.guards p ≡ Some u → u ≡ t
  own_guard t u p durable apart is = elim (same_or_not u t) [
    | inl same ↦ same
    | inr other ↦ (let at = guarded_word u p is in absurd (apart es u k.heap.whole (record {
      spot = at.0;
      place = spot_is o m es k p at.0 durable at.1;
      differs = other;
      guards = at.2;
    })))
  ]

  outside_none : (t : ℕ) (p : Place) → IsDurablePlace m.spaces es p → IsApart m.spaces m.logs t p
      → (log_of m t).depth ≡ 0 → (g : Option ℕ) → guard_of known.guards p ≡ g → guard_of known.guards p ≡ None
  outside_none t p durable apart depth None is = is
  outside_none t p durable apart depth (Some u) is =
      let mine : guard_of known.guards p ≡ Some t = is ∙ ap (λ x. Some x) (own_guard t u p durable apart is) in
      let own : KeepsLogOf o m es t = k.asked.regions.each t (guard_below t p mine) in
      let none = own.guards.outside depth in
      let at = guarded_word t p mine in
      absurd (without_any (log_of m t) at.0 none.0 none.1 at.2)

  -- the word of the place
  spot_of : (p : Place) → IsDurablePlace m.spaces es p → (spot : Spot) × IsSpotAt m.spaces es p spot
  spot_of p durable = (
    record { line = line_of_place m.spaces es p; word = word_of_place m.spaces p; in_line = word_small m.spaces p },
    record { durable = durable; line = refl; word = refl },
  )

  logged_by : (t : ℕ) (p : Place) → is_kept_place known p ≡ true → IsDurablePlace m.spaces es p
      → IsApart m.spaces m.logs t p → 0 < (log_of m t).depth → HasLogged m.spaces es m.logs t p
      → GuardsItsStore o m t p
  logged_by t p kept durable apart is_open logged =
      let at = spot_of p durable in
      let word = logged at.0 at.1 is_open in
      let some : guard_of known.guards p ≡ Some word.guard.0 =
      guarded_place word.guard.0 p at.0 kept (word_is o m es k p at.0 at.1) word.guard.1 in
      record {
        guard = some ∙ ap (λ u. Some u) (own_guard t word.guard.0 p durable apart some);
        idle = λ ends. idle_of (log_of m t).underway word.whole ends;
      }

  may_guard : (t : ℕ) (p : Place) (spot : Spot) (old : ℕ) → is_kept_place known p ≡ true
      → LogsFirst m.spaces es m.logs t p spot → is_adding (log_of m t).underway ≡ false
      → is_ending (log_of m t).underway ≡ false → length (log_of m t).entries < most_entries
      → old ≡ shown (memory_of m) spot.line spot.word
      → MayBeGuarded known lay (memory_of m) (log_of m t) (entry_of spot old) p
  may_guard t p spot old kept first added ends room shows =
      let word = word_is o m es k p spot first.place in
      record {
        is_open = first.is_open;
        idle = idle_of (log_of m t).underway added ends;
        room = room;
        is_kept = kept;
        unguarded = (guarded_by p spot kept word).nobody.0 (elim first.lacks [
          | inl adding ↦ absurd (false≢true (sym added ∙ adding))
          | inr nobody ↦ nobody
        ]);
        word = word;
        old = shows;
      }

-- ---- all machines

pub stored_kept : StoredPlacesAreKept
stored_kept o m es k = kept_target o m es k

pub guards_agree : GuardsAgree
guards_agree o m es k = guarded_by o m es k

pub outside : StoresAreOutside
outside o m es k t store can durable apart depth = outside_none o m es k t (place_of store.target) durable apart depth
    (guard_of (known_in o m).guards (place_of store.target)) refl

pub logged : StoresAreLogged
logged o m es k t store can durable apart is_open has =
    logged_by o m es k t (place_of store.target) (kept_target o m es k store can durable) durable apart is_open has

pub may_be_guarded : PlacesMayBeGuarded
may_be_guarded o m es k t store can durable apart spot old first =
    may_guard o m es k t (place_of store.target) spot old (kept_target o m es k store can durable) first
