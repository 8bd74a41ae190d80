-- The table of guards: by word of the image 0, or 1 + the thread whose open region has guarded it.
use Rattle.std.specs.Prelude.{◌≡◌, ◌≢◌, ◌⊎◌, ◌<◌, ◌+◌, ◌*◌, ◌↔◌, ℕ, List, length, slice_index, slice_index_or}
use Rattle.ap_base.specs.declared.place.Spot.{Spot}
use Rattle.image_layout.specs.Places.{logs as log_count}
use Rattle.region_log.specs.declared.entry.Entry.{Entry}
use Rattle.region_log.specs.Guarding.{IsGuarded}
use Rattle.region_log.specs.Log.{Log, SameWord}
use Rattle.region_logs.specs.Logs.{empty_log}

-- the number of a word in the table
abbrev pub word_of : Spot → ℕ
word_of spot = 8 * spot.line + spot.word

-- what the table has for a word
abbrev pub owner_of : List ℕ → Spot → ℕ
owner_of table spot = slice_index table (word_of spot)

-- the table names thread t at the words that its log has guarded, and at no other
abbrev pub Names : List ℕ → ℕ → Log → Type 0
Names table t log = (spot : Spot) → word_of spot < length table → (owner_of table spot ≡ t + 1) ↔ IsGuarded log spot

-- there are 64 logs, each its thread's, and the table names each thread at the words that it has guarded
pub record IsTable (logs : List Log) (lines : ℕ) (table : List ℕ) : Type 0 where
  pub count : length logs ≡ log_count
  pub thread : (t : ℕ) → (slice_index_or logs t (empty_log t)).thread ≡ t
  pub size : length table ≡ 8 * lines
  pub names : (t : ℕ) → Names table t (slice_index_or logs t (empty_log t))

-- the table names every other thread where it did
pub record NamesOthers (t : ℕ) (old new : List ℕ) : Type 0 where
  pub size : length new ≡ length old
  pub others : (spot : Spot) (s : ℕ) → word_of spot < length old → s ≢ t
      → (owner_of new spot ≡ s + 1) ↔ (owner_of old spot ≡ s + 1)

-- one of the first n entries is of the word
abbrev pub IsAmong : List Entry → ℕ → Spot → Type 0
IsAmong entries n spot =
    (k : ℕ) × (e : Entry) × (k < n) × (slice_index_or entries k e ≡ e) × SameWord e.spot spot

-- the words of the first n entries have this owner now, and all others have the one that they had
pub record SetsOwners (entries : List Entry) (n owner : ℕ) (old new : List ℕ) : Type 0 where
  pub size : length new ≡ length old
  pub each : (spot : Spot) → word_of spot < length old
      → (IsAmong entries n spot × (owner_of new spot ≡ owner))
      ⊎ (¬ IsAmong entries n spot × (owner_of new spot ≡ owner_of old spot))

-- the log has guarded the words that it had guarded
abbrev pub GuardsStay : Log → Log → Type 0
GuardsStay before after = (spot : Spot) → IsGuarded after spot ↔ IsGuarded before spot
