-- No fault comes before the acts of a store: no guard is in its way, and none is lacking.
use Rattle.std.proofs.Common.{◌≡◌, ◌⊎◌, inl, inr, ℕ, ◌<◌, Bool, true, false, not, List, Option, Some, None, refl, sym, ◌∙◌, ap}
use Rattle.std.proofs.Common.{subst, arith, lit<}
use Rattle.ap_base.specs.declared.place.Place.{Place}
use Rattle.ap_base.specs.declared.place.Place.TheVariants as place
use Rattle.ap_base.specs.declared.place.Spot.{Spot}
use Rattle.ap_base.specs.declared.reference.Ref.{Ref}
use Rattle.ap_base.specs.declared.reference.Item.{Item}
use Rattle.graph_model.specs.declared.types.Value.{Value}
use Rattle.graph_model.specs.Heaps.{has_number}
use Rattle.natives.specs.declared.requests.Request.{Request}
use Rattle.run_history.specs.Knowing.{durable_at, guard_of}
use Rattle.plain_model.specs.Facts.{SetFacts}
use Rattle.plain_model.specs.Runs.{is_volatile}
use Rattle.run_forms.specs.Views.{ThreadFrames}
use Rattle.twin_forms.specs.Table.{Entry}
use Rattle.twin_forms.proofs.Led.{same_or_not}
use Rattle.machine_threads.specs.Passed.{Opening, known_in, log_of}
use Rattle.machine_threads.specs.Passed.{value_in}
use Rattle.machine_threads.specs.Passed.{StoresFreely, beside, own, outside, volatile}
use Rattle.object_steps.specs.declared.storing.Store.{Store}
use Rattle.object_steps.specs.Stores.{place_of}
use Rattle.two_spaces.specs.declared.spaces.Static.{Static as Field}
use Rattle.two_spaces.specs.declared.spaces.Static.TheVariants.{Beside, Root}
use Rattle.two_spaces.specs.Seen.{Spaces}
use Rattle.shared_heap.specs.Passed.{ConvertsFirst, IsDurablePlace, IsSpotAt, line_of_place, static_at, word_of_place}
use Rattle.shared_heap.specs.Passed.{word_of_static}
use Rattle.shared_heap.specs.Passed.{GuardedBy}
use Rattle.shared_heap.specs.Passed.{IsApart}
use Rattle.shared_heap.specs.Shared.{Shared}
use Rattle.machine.specs.Ended.{HasPlanned}
use Rattle.machine.specs.Laws.{Laws}

pub true-or-false : (b : Bool) → (b ≡ true) ⊎ (b ≡ false)
true-or-false true = inl refl
true-or-false false = inr refl

-- an object that isn't durable is volatile
not-durable : (b : Bool) → (b ≡ true → ⊥) → not b ≡ true
not-durable true differs = absurd (differs refl)
not-durable false _ = refl

-- a word is one of its line
static-below : (f : Field) → word_of_static f < 8
static-below (Beside item) = lit< tt
static-below (Root slot) = omega arith

word-below : (s : Spaces) (p : Place) → word_of_place s p < 8
word-below s (place.Static f) = static-below (static_at s f)
word-below s (place.Slot n i) = omega arith

module _ (laws : Laws) (o : Opening) (first : ℕ) (set : SetFacts) (s : Shared) (es : List Entry)
    (threads : List ThreadFrames) (t : ℕ) (fs : ThreadFrames) (request : Request Ref Item) (store : Store)
    (h : HasPlanned o first set s es threads t fs request store)
    (apart : IsApart s.machine.spaces s.machine.logs t (place_of store.target)) where
  abbrev goal : Place
  goal = place_of store.target

  abbrev value : Value
  value = value_in s.machine store.kept

  pub durable-place : durable_at (known_in o s.machine) goal ≡ true → IsDurablePlace s.machine.spaces es goal
  durable-place = (laws.barriers.places o s.machine es h.due.running.keeps goal).0

  abbrev spot : Spot
  spot = record {
    line = line_of_place s.machine.spaces es goal;
    word = word_of_place s.machine.spaces goal;
    in_line = word-below s.machine.spaces goal;
  }

  spot-at : IsDurablePlace s.machine.spaces es goal → IsSpotAt s.machine.spaces es goal spot
  spot-at durable = record { durable = durable; line = refl; word = refl }

  -- who has guarded the word of the place by the logs has guarded the place by the acts
  pub guarded-by : IsDurablePlace s.machine.spaces es goal → (word : Spot)
      → IsSpotAt s.machine.spaces es goal word → GuardedBy o s.machine goal word
  guarded-by durable word at = laws.barriers.guards o s.machine es h.due.running.keeps goal word
      (laws.barriers.kept o s.machine es h.due.running.keeps store h.planned.ready.can durable)
      (laws.barriers.words o s.machine es h.due.running.keeps goal word at)

  -- no other thread has
  guard-own : (u : ℕ) → durable_at (known_in o s.machine) goal ≡ true
      → guard_of (known_in o s.machine).guards goal ≡ Some u → u ≡ t
  guard-own u durable is = elim (same_or_not u t) [
    | inl same ↦ same
    | inr other ↦ absurd (apart es u h.due.running.keeps.heap.whole (record {
      spot = spot;
      place = spot-at (durable-place durable);
      differs = other;
      guards = ((guarded-by (durable-place durable) spot (spot-at (durable-place durable))).by u).1 is;
    }))
  ]

  -- ---- by the guard of the place

  abbrev IfUnguarded : Type 0
  IfUnguarded = durable_at (known_in o s.machine) goal ≡ true
      → guard_of (known_in o s.machine).guards goal ≡ None → StoresFreely o s.machine t goal value

  by-guard : (g : Option ℕ) → guard_of (known_in o s.machine).guards goal ≡ g
      → durable_at (known_in o s.machine) goal ≡ true → IfUnguarded → StoresFreely o s.machine t goal value
  by-guard None is durable free = free durable is
  by-guard (Some u) is durable free = own (is ∙ ap (λ n. Some n) (guard-own u durable is))

  pub freely : IfUnguarded → StoresFreely o s.machine t goal value
  freely free = elim (true-or-false (durable_at (known_in o s.machine) goal)) [
    | inl durable ↦ by-guard (guard_of (known_in o s.machine).guards goal) refl durable free
    | inr elsewhere ↦ beside elsewhere
  ]

  -- ---- a value that isn't durable

  module _ (object : Ref) (convert : ConvertsFirst s.machine.spaces es store object) where
    value-volatile : is_volatile (known_in o s.machine).durable value ≡ true
    value-volatile =
        let asks = laws.barriers.asked o s.machine es h.due.running.keeps store object convert in
        subst (λ (v : Value). is_volatile (known_in o s.machine).durable v ≡ true) (sym asks.value)
        (not-durable (has_number (known_in o s.machine).durable asks.object)
        (λ is. asks.volatile ((h.due.running.keeps.asked.durable asks.object).0 is)))

    pub freely-volatile : StoresFreely o s.machine t goal value
    freely-volatile = freely (λ durable none. volatile none value-volatile)

  -- ---- outside regions

  pub freely-outside : (log_of s.machine t).depth ≡ 0 → StoresFreely o s.machine t goal value
  freely-outside closed = freely (λ durable none. outside none closed)
