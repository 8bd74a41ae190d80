-- Whose open region has guarded a place, as the acts of a history alone tell it: they are read once for the regions that
-- they leave, and again for the first act that guarded the place in a region that hasn't ended since.
use Rattle.std.specs.Prelude.{◌≡◌, ◌<◌, ◌+◌, ◌-◌, ◌^◌, ℕ, suc, min, Bool, true, false, ◌&&◌, nat_eq, nat_lt, nat_le, List, []}
use Rattle.std.specs.Prelude.{◌∷◌, length, slice_set, slice_index_or, Option, Some, None, if◌then◌else◌}
use Rattle.ap_base.specs.declared.place.Place.{Place}
use Rattle.graph_model.specs.Heaps.{place_is}
use Rattle.run_history.specs.declared.act.Op.{Op}
use Rattle.run_history.specs.declared.act.Op.TheVariants as op
use Rattle.run_history.specs.declared.act.Act.{Act}
use Rattle.run_history.specs.declared.acts.Held.{Held}
use Rattle.run_history.specs.declared.open_guard.Region.{Region}
use Rattle.run_history.specs.Worlds.{depth_of}
use Rattle.run_history.specs.Knowing.{Knowledge}

-- There is one thread, no region is open, and no place is guarded.
pub record IsOutsideRegions (first : Knowledge) : Type 0 where
  pub one_thread : length first.world.threads ≡ 1
  pub outside : (t : ℕ) → depth_of first.world t ≡ 0
  pub unguarded : first.guards ≡ []

abbrev pub no_region : Region
no_region = record { depth = 0; ended = 0 }

-- the region of the thread that did this as the act of this count; only a thread that is there begins one
abbrev pub region_after : Region → Op → ℕ → Bool → Region
region_after region op.Begin count true = record region { depth = min (region.depth + 1) (2 ^ 32 - 1) }
region_after region op.Begin count false = region
region_after region op.End count there =
    record { depth = region.depth - 1; ended = if nat_eq region.depth 1 then count else region.ended }
region_after region o count there = region

-- how many threads there are after an operation
abbrev pub threads_with : ℕ → Op → ℕ
threads_with threads (op.Start object child) = suc threads
threads_with threads o = threads

abbrev pub regions_with : List Region → Act → ℕ → ℕ → List Region
regions_with regions act count threads = slice_set regions act.thread
    (region_after (slice_index_or regions act.thread no_region) act.op count (nat_lt act.thread threads))

-- the regions of all threads after these acts, where so many acts were before them, and so many threads
abbrev pub regions_from : ℕ → ℕ → List Region → List Held → List Region
regions_from count threads regions [] = regions
regions_from count threads regions (h ∷ hs) =
    regions_from (suc count) (threads_with threads h.act.op) (regions_with regions h.act (suc count) threads) hs

abbrev pub guards_place : Op → Place → Bool
guards_place (op.Guarded guarded) place = place_is guarded place
guards_place o place = false

-- the thread of the first of these acts that guarded the place, and whose region hasn't ended since
abbrev pub first_guard : List Region → Place → ℕ → List Held → Option ℕ
first_guard regions place before [] = None
first_guard regions place before (h ∷ hs) =
    if guards_place h.act.op place && nat_le (slice_index_or regions h.act.thread no_region).ended before then Some h.act.thread
    else first_guard regions place (suc before) hs

-- each act's thread is one of 64
abbrev pub IsNumbered : Held → Type 0
IsNumbered h = h.act.thread < 64
