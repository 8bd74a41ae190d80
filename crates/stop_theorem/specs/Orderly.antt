-- What the marks of every plain run keep: only stores may be lost, each thread has at most one single store,
-- at the place where it owes a fence, and what a region that hasn't ended stored is at places that it has
-- guarded.
use Rattle.std.specs.Prelude.{◌≡◌, ◌≢◌, ℕ, Bool, true, false, List, [], ◌∷◌, map, Some, nat_eq}
use Rattle.std.specs.List.{AllByRecursion}
use Rattle.ap_base.specs.declared.place.Place.{Place}
use Rattle.ap_base.specs.declared.place.Place.TheVariants.{Static, Slot}
use Rattle.graph_model.specs.declared.types.Heap.{Heap}
use Rattle.graph_model.specs.Heaps.{has_number}
use Rattle.run_history.specs.declared.act.Op.{Op}
use Rattle.run_history.specs.declared.act.Op.TheVariants as op
use Rattle.run_history.specs.Worlds.{heap_after, depth_of}
use Rattle.run_history.specs.Knowing.{Fate, Sure, Open, Closing, Single, Mark, Knowledge, owes_fence, unfenced_at, guard_of}
use Rattle.run_history.specs.Knowing.{is_root, durable_at}
use Rattle.run_history.specs.Laws.{is_closing_of}
use Rattle.stop_theorem.specs.Choices.{stores_at, is_store}

-- all operations, and all marks
abbrev pub ops_of_marks : List Mark → List Op
ops_of_marks marks = map (λ (m : Mark). m.op) marks

abbrev pub is_single_of : ℕ → Fate → Bool
is_single_of t (Single u) = nat_eq u t
is_single_of t fate = false

-- the store of this fate is one of thread t's region, which hasn't ended
abbrev pub is_region_of : ℕ → Fate → Bool
is_region_of t (Open u) = nat_eq u t
is_region_of t (Closing u) = nat_eq u t
is_region_of t fate = false

abbrev pub is_sure : Fate → Bool
is_sure Sure = true
is_sure fate = false

-- each single store of the thread is at this place
abbrev pub SinglesAreAt : Place → ℕ → List Mark → Type 0
SinglesAreAt p t marks =
    AllByRecursion (λ (m : Mark). is_single_of t m.fate ≡ true → stores_at p m.op ≡ true) marks

abbrev pub NoSingleOf : ℕ → List Mark → Type 0
NoSingleOf t marks = AllByRecursion (λ (m : Mark). is_single_of t m.fate ≡ false) marks

-- no thread has two single stores
abbrev pub HasSingles : List Mark → Type 0
HasSingles [] = Unit {0}
HasSingles (m ∷ ms) = ((t : ℕ) → is_single_of t m.fate ≡ true → NoSingleOf t ms) × HasSingles ms

-- only a store may be lost
abbrev pub LosesStores : Mark → Type 0
LosesStores m = is_store m.op ≡ false → m.fate ≡ Sure

-- a store of a region that hasn't ended is at a place that this region has guarded
abbrev pub IsGuardedStore : Knowledge → Mark → Type 0
IsGuardedStore known m = (t : ℕ) (p : Place) → is_region_of t m.fate ≡ true → stores_at p m.op ≡ true
    → guard_of known.guards p ≡ Some t

-- the place is a durable root, or a slot of a durable object, whether that slot is kept or not
abbrev pub is_among_durable : Heap → List ℕ → Place → Bool
is_among_durable heap durable (Static n) = is_root heap.roots n
is_among_durable heap durable (Slot n i) = has_number durable n

-- what any other place was given is sure
abbrev pub IsSureElsewhere : Knowledge → Mark → Type 0
IsSureElsewhere known m = (p : Place) → stores_at p m.op ≡ true
    → is_among_durable known.world.heap known.durable p ≡ false → m.fate ≡ Sure

-- the store of this fate is one of thread t's open region
abbrev pub is_open_of : ℕ → Fate → Bool
is_open_of t (Open u) = nat_eq u t
is_open_of t fate = false

abbrev pub NotOpen : ℕ → Fate → Type 0
NotOpen t fate = is_open_of t fate ≡ false

-- no store of thread t's open region is there
abbrev pub NoneOpen : ℕ → List Mark → Type 0
NoneOpen t marks = AllByRecursion (λ (m : Mark). NotOpen t m.fate) marks

-- and none of its closing region
abbrev pub NoneClosing : ℕ → List Mark → Type 0
NoneClosing t marks = AllByRecursion (λ (m : Mark). is_closing_of t m.fate ≡ false) marks

-- no single store of the thread is at the place
abbrev pub NoSingleAt : Place → ℕ → List Mark → Type 0
NoSingleAt p t marks =
    AllByRecursion (λ (m : Mark). stores_at p m.op ≡ true → is_single_of t m.fate ≡ false) marks

-- The marks are in order.
pub record IsOrderly (first : Heap) (known : Knowledge) : Type 0 where
  pub heap : known.world.heap ≡ heap_after first (ops_of_marks known.marks)
  pub lost : AllByRecursion LosesStores known.marks
  pub singles : HasSingles known.marks
  pub owed : (t : ℕ) → owes_fence known.unfenced t ≡ false → NoSingleOf t known.marks
  pub placed : (t : ℕ) (p : Place) → unfenced_at known.unfenced t ≡ Some p → SinglesAreAt p t known.marks
  pub guarded : AllByRecursion (IsGuardedStore known) known.marks
  pub elsewhere : AllByRecursion (IsSureElsewhere known) known.marks
  pub closing : (t : ℕ) → has_number known.closing t ≡ true → NoneOpen t known.marks
  pub opened : (t : ℕ) → has_number known.closing t ≡ false → NoneClosing t known.marks

-- what a plain run keeps of a store: its thread owes no fence, and within a region its region has guarded the
-- place, if that is durable
abbrev pub KeepsRule : Knowledge → ℕ → Op → Type 0
KeepsRule known t (op.Stored place value) =
    (owes_fence known.unfenced t ≡ false)
    × (durable_at known place ≡ true → depth_of known.world t ≢ 0 → guard_of known.guards place ≡ Some t)
KeepsRule known t o = Unit {0}
