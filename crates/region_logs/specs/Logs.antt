-- The logs of all threads, and which words their open regions have guarded.
use Rattle.std.specs.Prelude.{◌≡◌, ◌≢◌, ◌<◌, ℕ, List, [], length, slice_index_or}
use Rattle.ap_base.specs.declared.place.Spot.{Spot}
use Rattle.image_layout.specs.Places.{logs as log_count}
use Rattle.region_log.specs.declared.entry.Underway.TheVariants.{Nothing}
use Rattle.region_log.specs.Guarding.{IsGuarded}
use Rattle.region_log.specs.Log.{Log}

-- the log of each thread by its number, and of how many lines of the image the words can be guarded
pub record AllLogs : Type 0 where
  pub logs : List Log
  pub lines : ℕ

-- the log of a thread that has no region open
abbrev pub empty_log : ℕ → Log
empty_log t = record { thread = t; depth = 0; entries = []; underway = Nothing }

-- the log of thread t
abbrev pub log_at : AllLogs → ℕ → Log
log_at all t = slice_index_or all.logs t (empty_log t)

-- the open region of thread t has guarded the word
abbrev pub HasGuarded : AllLogs → ℕ → Spot → Type 0
HasGuarded all t spot = IsGuarded (log_at all t) spot

-- What always holds: there are 64 logs, each its thread's, and no word is guarded by two threads.
pub record AreApart (all : AllLogs) : Type 0 where
  pub count : length all.logs ≡ log_count
  pub thread : (t : ℕ) → (log_at all t).thread ≡ t
  pub one_guard : (spot : Spot) (s t : ℕ) → spot.line < all.lines → HasGuarded all s spot → HasGuarded all t spot
      → s ≡ t

-- the logs of all threads but t are as they were
pub record OthersStay (t : ℕ) (old new : AllLogs) : Type 0 where
  pub lines : new.lines ≡ old.lines
  pub logs : (s : ℕ) → s ≢ t → log_at new s ≡ log_at old s
