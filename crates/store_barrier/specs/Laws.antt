-- What the answers are of a machine that keeps its run: its durable places are those of its acts, and each
-- answer gives what the event asks that follows it.
use Rattle.std.specs.Prelude.{◌≡◌, ◌⊎◌, ◌↔◌, ◌<◌, ℕ, true, false, List, length, None, Some}
use Rattle.ap_base.specs.declared.place.Place.{Place}
use Rattle.ap_base.specs.declared.place.Spot.{Spot}
use Rattle.ap_base.specs.declared.reference.Ref.{Ref}
use Rattle.graph_model.specs.declared.types.Value.TheVariants.{Obj as Object}
use Rattle.line_memory.specs.Memory.{shown}
use Rattle.run_history.specs.Knowing.{durable_at, guard_of}
use Rattle.plain_model.specs.Runs.{is_volatile}
use Rattle.stop_theorem.specs.Layouts.{is_kept_place}
use Rattle.stop_theorem.specs.InvariantEvents.{line_at}
use Rattle.region_log.specs.declared.entry.Underway.TheVariants.{Nothing}
use Rattle.region_log.specs.Guarding.{IsGuarded, is_adding}
use Rattle.region_log.specs.Log.{entry_of, most_entries}
use Rattle.region_log.specs.Readers.{is_ending}
use Rattle.region_events.specs.Guards.{IsWordOf}
use Rattle.region_events.specs.Laws.{MayBeGuarded}
use Rattle.twin_forms.specs.Table.{Entry, InP}
use Rattle.machine_forms.specs.Machines.{Opening, Machine, known_in, layout_in, log_of, memory_of, shown_in}
use Rattle.machine_forms.specs.Keeping.{KeepsRun}
use Rattle.machine_forms.specs.Events.{IsSlotOfClaimed, value_in}
use Rattle.object_steps.specs.declared.storing.Store.{Store}
use Rattle.object_steps.specs.Stores.{CanStore, place_of}
use Rattle.store_barrier.specs.Barriers.{ConvertsFirst, HoldsDurable, IsDurablePlace, IsSpotAt, MayFollow, line_of_place}
use Rattle.store_barrier.specs.Regions.{HasLogged, IsApart, LogsFirst}

-- of every machine that keeps its run
abbrev pub OfRuns : (Opening → Machine → List Entry → Type 0) → Type 0
OfRuns P = (o : Opening) (m : Machine) (es : List Entry) → KeepsRun o m es → P o m es

-- A place is durable by the table exactly where it is by the acts.
abbrev pub DurablePlacesAgree : Type 0
DurablePlacesAgree = OfRuns (λ o m es. (p : Place)
    → (durable_at (known_in o m) p ≡ true) ↔ IsDurablePlace m.spaces es p)

-- Its line is the one in which a stop finds it.
abbrev pub DurableLinesAgree : Type 0
DurableLinesAgree = OfRuns (λ o m es. (p : Place) → IsDurablePlace m.spaces es p
    → line_of_place m.spaces es p ≡ line_at (layout_in o es) (known_in o m) p)

-- what is asked where an object is to be converted first
pub record Asks (o : Opening) (m : Machine) (es : List Entry) (store : Store) : Type 0 where
  pub object : ℕ
  pub value : value_in m store.kept ≡ Object object
  pub volatile : InP es object → ⊥
  pub holder : (durable_at (known_in o m) (place_of store.target) ≡ true)
      ⊎ IsSlotOfClaimed es (place_of store.target)

abbrev pub ConversionsAreAsked : Type 0
ConversionsAreAsked = OfRuns (λ o m es. (store : Store) (object : Ref)
    → ConvertsFirst m.spaces es store object → Asks o m es store)

-- A store before which nothing is to be converted stores no object that isn't durable where only durable ones
-- may be.
abbrev pub StoresKeepDurable : Type 0
StoresKeepDurable = OfRuns (λ o m es. (store : Store) → MayFollow m.spaces store
    → HoldsDurable m.spaces es (place_of store.target)
    → is_volatile (known_in o m).durable (value_in m store.kept) ≡ false)

-- ---- regions

-- The word of a durable place is the one in which a stop finds it.
abbrev pub DurableWordsAgree : Type 0
DurableWordsAgree = OfRuns (λ o m es. (p : Place) (spot : Spot) → IsSpotAt m.spaces es p spot
    → IsWordOf (known_in o m) (layout_in o es) spot p)

-- The durable place of a store that can be made is one that the heap has.
abbrev pub StoredPlacesAreKept : Type 0
StoredPlacesAreKept = OfRuns (λ o m es. (store : Store) → CanStore (shown_in m) store
    → IsDurablePlace m.spaces es (place_of store.target)
    → is_kept_place (known_in o m) (place_of store.target) ≡ true)

-- A thread's log has guarded the word of a durable place exactly where the thread has guarded the place by the acts,
-- and no log has exactly where no thread has.
pub record GuardedBy (o : Opening) (m : Machine) (p : Place) (spot : Spot) : Type 0 where
  pub by : (t : ℕ) → IsGuarded (log_of m t) spot ↔ (guard_of (known_in o m).guards p ≡ Some t)
  pub nobody : ((t : ℕ) → ¬ IsGuarded (log_of m t) spot) ↔ (guard_of (known_in o m).guards p ≡ None)

abbrev pub GuardsAgree : Type 0
GuardsAgree = OfRuns (λ o m es. (p : Place) (spot : Spot) → is_kept_place (known_in o m) p ≡ true
    → IsWordOf (known_in o m) (layout_in o es) spot p → GuardedBy o m p spot)

-- of a store that can be made, whose place is durable, and which no other thread has guarded
abbrev pub OfApart : (Opening → Machine → List Entry → ℕ → Place → Type 0) → Type 0
OfApart P = OfRuns (λ o m es. (t : ℕ) (store : Store) → CanStore (shown_in m) store
    → IsDurablePlace m.spaces es (place_of store.target) → IsApart m.spaces m.logs t (place_of store.target)
    → P o m es t (place_of store.target))

-- Outside regions nobody has guarded its place.
abbrev pub StoresAreOutside : Type 0
StoresAreOutside = OfApart (λ o m es t p. (log_of m t).depth ≡ 0
    → guard_of (known_in o m).guards p ≡ None)

-- Where it is made in a region, the thread has guarded its place, and its log is about nothing, unless the region is
-- being ended.
pub record GuardsItsStore (o : Opening) (m : Machine) (t : ℕ) (p : Place) : Type 0 where
  pub guard : guard_of (known_in o m).guards p ≡ Some t
  pub idle : is_ending (log_of m t).underway ≡ false → (log_of m t).underway ≡ Nothing

abbrev pub StoresAreLogged : Type 0
StoresAreLogged = OfApart (λ o m es t p. 0 < (log_of m t).depth → HasLogged m.spaces es m.logs t p
    → GuardsItsStore o m t p)

-- Where it is to be logged first and no entry is under way, it may be guarded if the log has room, unless the region
-- is being ended.
abbrev pub PlacesMayBeGuarded : Type 0
PlacesMayBeGuarded = OfApart (λ o m es t p. (spot : Spot) (old : ℕ) → LogsFirst m.spaces es m.logs t p spot
    → is_adding (log_of m t).underway ≡ false → is_ending (log_of m t).underway ≡ false
    → length (log_of m t).entries < most_entries → old ≡ shown (memory_of m) spot.line spot.word
    → MayBeGuarded (known_in o m) (layout_in o es) (memory_of m) (log_of m t) (entry_of spot old) p)
