-- What a place may be left with: its value by some choice of the single stores, where it is told which
-- closing regions are kept.
use Rattle.std.specs.Prelude.{◌≡◌, ℕ, Bool, true, false, List, nat_eq, if◌then◌else◌}
use Rattle.std.specs.List.{AllByRecursion}
use Rattle.ap_base.specs.declared.place.Place.{Place}
use Rattle.graph_model.specs.declared.types.Value.{Value}
use Rattle.graph_model.specs.declared.types.Heap.{Heap}
use Rattle.graph_model.specs.Heaps.{value_at, place_is}
use Rattle.run_history.specs.declared.act.Op.{Op}
use Rattle.run_history.specs.declared.act.Op.TheVariants as op
use Rattle.run_history.specs.Worlds.{heap_after}
use Rattle.run_history.specs.Knowing.{Mark}
use Rattle.run_history.specs.Kept.{survives, kept}

-- the heap after the list that is kept by these choices
abbrev pub left_heap : Heap → List Mark → (ℕ → Bool) → (ℕ → Bool) → Heap
left_heap first marks regions singles = heap_after first (kept regions singles marks)

-- some threads
abbrev pub Threads : Type 0
Threads = ℕ → Bool

abbrev pub NoThread : Threads
NoThread t = false

abbrev pub EachThread : Threads
EachThread t = true

-- By some choice, which keeps the single stores of these threads, the place has this value.
pub record MayHave (first : Heap) (marks : List Mark) (regions : ℕ → Bool) (Keeps : Threads)
    (place : Place) (value : Value) : Type 0 where
  pub singles : ℕ → Bool
  pub keeps : (t : ℕ) → Keeps t ≡ true → singles t ≡ true
  pub is : value ≡ value_at (left_heap first marks regions singles) place

-- it stores at this place
abbrev pub stores_at : Place → Op → Bool
stores_at place (op.Stored other value) = place_is other place
stores_at place o = false

-- each store at the place may be kept, where it is told which closing regions are
abbrev pub AllKept : (ℕ → Bool) → Place → List Mark → Type 0
AllKept regions place marks =
    AllByRecursion (λ (m : Mark). stores_at place m.op ≡ true → survives regions EachThread m.fate ≡ true)
    marks

abbrev pub is_store : Op → Bool
is_store (op.Stored place value) = true
is_store o = false

-- with a thread, and without it
abbrev pub with_thread : ℕ → Threads → Threads
with_thread t K u = if nat_eq u t then true else K u

abbrev pub without_thread : ℕ → Threads → Threads
without_thread t K u = if nat_eq u t then false else K u
