-- Monitors that are held, in the order in which they were taken (JVMS 2.11.10).
use Rattle.std.specs.Prelude.{◌≡◌, ◌<◌, ℕ, pred, true, false, ltb, nat_eq, List, [], ◌∷◌, length, get_or, Option, Some, None}
use Rattle.std.specs.Prelude.{if◌then◌else◌}
use Rattle.ap_base.specs.Causes.{next_count}
use Rattle.monitors.specs.declared.monitor.Monitor.{Monitor}
use Rattle.monitors.specs.declared.monitor.Enter.{Enter}
use Rattle.monitors.specs.declared.monitor.Enter.TheVariants.{Taken, Held, Full}
use Rattle.monitors.specs.Keys.{RefKey, is_key}

-- the monitor of a key, if a thread holds it
abbrev pub monitor_of : List Monitor → RefKey → Option Monitor
monitor_of [] key = None
monitor_of (m ∷ ms) key = if is_key m.key key then Some m else monitor_of ms key

-- the thread that holds it
abbrev pub owner_of : Option Monitor → Option ℕ
owner_of None = None
owner_of (Some m) = Some m.owner

abbrev pub IsHeldBy : ℕ → Option Monitor → Type 0
IsHeldBy t None = ⊥
IsHeldBy t (Some m) = m.owner ≡ t

-- Thread t enters a monitor that it holds already, or one that nobody holds where fewer than 4,096 are held.
abbrev pub entry_of : ℕ → ℕ → Option Monitor → Enter
entry_of t count None = if ltb count 4096 then Taken else Full
entry_of t count (Some m) = if nat_eq m.owner t then Taken else Held m.owner

abbrev pub enter_answer : ℕ → List Monitor → RefKey → Enter
enter_answer t ms key = entry_of t (length ms) (monitor_of ms key)

-- One entry more, in a count of 64 bits that stays at its highest value. A monitor that nobody held is the last one.
abbrev pub entered : List Monitor → RefKey → ℕ → List Monitor
entered [] key t = record { key = key; owner = t; count = 1 } ∷ []
entered (m ∷ ms) key t = if is_key m.key key then record m { count = next_count m.count } ∷ ms else m ∷ entered ms key t

-- with one entry less, and given up after the last
abbrev pub one_less : Monitor → List Monitor → List Monitor
one_less m ms = if nat_eq m.count 1 then ms else record m { count = pred m.count } ∷ ms

abbrev pub exited : List Monitor → RefKey → List Monitor
exited [] key = []
exited (m ∷ ms) key = if is_key m.key key then one_less m ms else m ∷ exited ms key

-- under another key, with its owner and its count
abbrev pub rekeyed : List Monitor → RefKey → RefKey → List Monitor
rekeyed [] from to = []
rekeyed (m ∷ ms) from to = if is_key m.key from then record m { key = to } ∷ ms else m ∷ rekeyed ms from to

-- a monitor of the key stands at this place
pub record IsAt (ms : List Monitor) (key : RefKey) (i : ℕ) : Type 0 where
  pub is_in : i < length ms
  pub is_it : (d : Monitor) → is_key (get_or ms i d).key key ≡ true

-- no monitor of the key is held
abbrev pub IsFree : List Monitor → RefKey → Type 0
IsFree ms key = (d : Monitor) (k : ℕ) → k < length ms → is_key (get_or ms k d).key key ≡ false
