-- What a store has to do with regions: no word that another thread's open region has guarded is stored to, and in a
-- region a durable place is logged before it is stored to (Shull, Huang and Torrellas, "AutoPersist", PLDI 2019,
-- on failure-atomic regions).
use Rattle.std.specs.Prelude.{◌≡◌, ◌≢◌, ◌⊎◌, ◌<◌, ℕ, true, false, List, Option, None, Some, slice_index_or}
use Rattle.ap_base.specs.declared.place.Place.{Place}
use Rattle.ap_base.specs.declared.place.Spot.{Spot}
use Rattle.region_log.specs.Guarding.{IsGuarded, is_adding}
use Rattle.region_log.specs.Log.{Log}
use Rattle.region_logs.specs.Logs.{empty_log}
use Rattle.twin_forms.specs.Table.{Entry}
use Rattle.machine_forms.specs.Passed.{Spaces}
use Rattle.machine_forms.specs.Passed.{Stands}
use Rattle.store_barrier.specs.declared.barrier.Barrier.{Barrier}
use Rattle.store_barrier.specs.declared.barrier.Barrier.TheVariants as barrier
use Rattle.store_barrier.specs.Barriers.{IsLineOf, IsSpotAt}

-- the log of thread t
abbrev pub log_in : List Log → ℕ → Log
log_in logs t = slice_index_or logs t (empty_log t)

-- ---- races

-- The place is durable, and another thread's open region has guarded its word.
pub record Races (s : Spaces) (es : List Entry) (logs : List Log) (t : ℕ) (p : Place) (other : ℕ) : Type 0 where
  pub spot : Spot
  pub place : IsSpotAt s es p spot
  pub differs : other ≢ t
  pub guards : IsGuarded (log_in logs other) spot

-- No other thread's open region has guarded the place.
abbrev pub IsApart : Spaces → List Log → ℕ → Place → Type 0
IsApart s logs t p = (es : List Entry) (other : ℕ) → Stands s es → ¬ Races s es logs t p other

-- ---- logging

-- Nobody has guarded the word, or the thread's log has an entry under way.
abbrev pub LacksWord : List Log → ℕ → Spot → Type 0
LacksWord logs t spot = (is_adding (log_in logs t).underway ≡ true) ⊎ ((u : ℕ) → ¬ IsGuarded (log_in logs u) spot)

-- The place is durable and lies in this word, the thread's region is open, and the word is to be logged, or the
-- entry that is under way in the thread's log.
pub record LogsFirst (s : Spaces) (es : List Entry) (logs : List Log) (t : ℕ) (p : Place) (spot : Spot)
    : Type 0 where
  pub place : IsSpotAt s es p spot
  pub is_open : 0 < (log_in logs t).depth
  pub lacks : LacksWord logs t spot

-- A region has guarded the word, and the thread's log has no entry under way.
pub record HasWord (logs : List Log) (t : ℕ) (spot : Spot) : Type 0 where
  pub guard : (u : ℕ) × IsGuarded (log_in logs u) spot
  pub whole : is_adding (log_in logs t).underway ≡ false

-- Where the thread's region is open, the word of a durable place is one that a region has guarded, and nothing is
-- being logged for the thread.
abbrev pub HasLogged : Spaces → List Entry → List Log → ℕ → Place → Type 0
HasLogged s es logs t p = (spot : Spot) → IsSpotAt s es p spot → 0 < (log_in logs t).depth → HasWord logs t spot

-- ---- lines

-- Outside regions the line of a durable place is to be written back next; in a region no line is.
pub record IsLineLeft (s : Spaces) (es : List Entry) (logs : List Log) (t : ℕ) (p : Place) (line : Option ℕ)
    : Type 0 where
  pub outside : (log_in logs t).depth ≡ 0 → IsLineOf s es p line
  pub inside : 0 < (log_in logs t).depth → line ≡ None

-- ---- by the word alone

-- Another thread's open region has guarded the word.
pub record IsOtherGuard (logs : List Log) (t : ℕ) (spot : Option Spot) (other : ℕ) : Type 0 where
  pub word : Spot
  pub is : spot ≡ Some word
  pub differs : other ≢ t
  pub guards : IsGuarded (log_in logs other) word

-- the line of a word, outside regions
abbrev pub IsLineAt : ℕ → Option Spot → Option ℕ → Type 0
IsLineAt depth None line = line ≡ None
IsLineAt depth (Some spot) line = (depth ≡ 0 → line ≡ Some spot.line) × (0 < depth → line ≡ None)

abbrev pub HasIfOpen : List Log → ℕ → Option Spot → Type 0
HasIfOpen logs t None = Unit {0}
HasIfOpen logs t (Some spot) = 0 < (log_in logs t).depth → HasWord logs t spot

-- How a store goes on that is no race, and before which nothing is to be converted, where its place lies in this word
-- if it is durable.
abbrev pub GoesFor : List Log → ℕ → Option Spot → Barrier → Type 0
GoesFor logs t spot (barrier.Race other) = ⊥
GoesFor logs t spot (barrier.ConvertFirst object) = ⊥
GoesFor logs t spot (barrier.LogFirst word) =
    (spot ≡ Some word) × (0 < (log_in logs t).depth) × LacksWord logs t word
GoesFor logs t spot (barrier.Store line) = IsLineAt (log_in logs t).depth spot line × HasIfOpen logs t spot
