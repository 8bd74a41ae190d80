-- The index of held monitors by the buckets of their keys.
use Rattle.std.specs.Prelude.{◌≡◌, ◌<◌, ◌≤◌, ℕ, zero, suc, nat_eq, List, [], ◌∷◌, length, get_or, slice_index, None}
use Rattle.std.specs.Prelude.{if◌then◌else◌}
use Rattle.run_types.specs.declared.key.Key.TheVariants.{Class}
use Rattle.monitors.specs.declared.monitor.Monitor.{Monitor}
use Rattle.monitors.specs.Held.{monitor_of}
use Rattle.monitors.specs.Keys.{bucket_of}

abbrev pub nobody : Monitor
nobody = record { key = Class 0; owner = 0; count = 0 }

abbrev pub bucket_at : List Monitor → ℕ → ℕ
bucket_at ms i = bucket_of (get_or ms i nobody).key

-- 1 + the place of the last one of the first n monitors that is in bucket b; 0 where none is
abbrev pub last_in : (ℕ → ℕ) → ℕ → ℕ → ℕ
last_in bucket b zero = 0
last_in bucket b (suc n) = if nat_eq (bucket n) b then suc n else last_in bucket b n

-- The first n monitors are indexed: each bucket has its last one, and each of them the last one before it in its bucket.
pub record IsIndex (ms : List Monitor) (latest earlier : List ℕ) (n : ℕ) : Type 0 where
  pub buckets : length latest ≡ 8192
  pub places : length earlier ≡ 4096
  pub latest_is : (b : ℕ) → b < 8192 → slice_index latest b ≡ last_in (bucket_at ms) b n
  pub earlier_is : (i : ℕ) → i < n → slice_index earlier i ≡ last_in (bucket_at ms) (bucket_at ms i) i

-- each monitor has been entered, and each key has one
abbrev pub AreSound : List Monitor → Type 0
AreSound [] = Unit {0}
AreSound (m ∷ ms) = (0 < m.count) × (monitor_of ms m.key ≡ None) × AreSound ms

pub record AreHeld (ms : List Monitor) (room : ℕ) (latest earlier : List ℕ) : Type 0 where
  pub few : length ms ≤ 4096
  pub fit : 4096 ≤ room
  pub sound : AreSound ms
  pub index : IsIndex ms latest earlier (length ms)
