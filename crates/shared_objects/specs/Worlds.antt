-- The plain world that a heap of objects stands for, with monitors, classes and threads.
use Rattle.std.specs.Prelude.{◌≡◌, ℕ, ◌<◌, ◌-◌, ◌^◌, true, List, map, All, Option, Some, None, IsSome}
use Rattle.std.specs.List.{AllByRecursion}
use Rattle.ap_base.specs.declared.reference.Ref.{Ref}
use Rattle.run_types.specs.declared.key.Key.{Key}
use Rattle.run_types.specs.declared.key.Key.TheVariants as key
use Rattle.graph_model.specs.declared.types.Root.{Root}
use Rattle.graph_model.specs.declared.types.Heap.{Heap}
use Rattle.run_history.specs.declared.act.PlainKey.{PlainKey}
use Rattle.run_history.specs.declared.act.PlainKey.TheVariants.{Object, Class}
use Rattle.run_history.specs.declared.plain.Monitor.{Monitor as PlainMonitor}
use Rattle.run_history.specs.Worlds.{Thread, World}
use Rattle.monitors.specs.declared.monitor.Monitor.{Monitor}
use Rattle.shared_objects.specs.declared.threads.ThreadState.{ThreadState}
use Rattle.shared_objects.specs.declared.rest.Rest.{Rest}
use Rattle.shared_objects.specs.Shown.{Numbers, Shown}

-- the number; 0 for none
abbrev pub number_or : Option ℕ → ℕ
number_or None = 0
number_or (Some n) = n

abbrev pub plain_key : Numbers → Key Ref → PlainKey
plain_key number (key.Object r) = Object (number_or (number r))
plain_key number (key.Class n) = Class n

abbrev pub plain_monitor : Numbers → Monitor → PlainMonitor
plain_monitor number m = record { key = plain_key number m.key; owner = m.owner; count = m.count }

abbrev pub plain_thread : ThreadState → Thread
plain_thread t = record { object = t.object; depth = t.depth; ended = t.ended; uncaught = t.uncaught }

abbrev pub heap_of : List Root → Shown → Heap
heap_of roots shown =
    record { shapes = shown.shapes; objects = shown.objects; statics = shown.statics; roots = roots }

-- The world, where these are the durable roots.
abbrev pub world_of : List Root → Shown → Rest → World
world_of roots shown rest = record {
  heap = heap_of roots shown;
  monitors = map (plain_monitor shown.number) rest.monitors;
  classes = rest.classes.items;
  threads = map plain_thread rest.threads;
}

-- ---- what the parts keep together

-- a class's key, or the one key of an object
abbrev pub IsHeldKey : Shown → Key Ref → Type 0
IsHeldKey shown (key.Object r) = IsSome (shown.number r) × (shown.is_key r ≡ true)
IsHeldKey shown (key.Class n) = Unit {0}

-- each monitor is held under such a key
abbrev pub KnowsMonitors : Shown → Rest → Type 0
KnowsMonitors shown rest = AllByRecursion (λ (m : Monitor). IsHeldKey shown m.key) rest.monitors

-- No count of entries, and no depth of a region, stands at its highest value. Each is at most the number of
-- acts.
pub record HasCounts (rest : Rest) : Type 0 where
  pub monitors : All (λ (m : Monitor). m.count < 2 ^ 64 - 1) rest.monitors
  pub threads : All (λ (t : ThreadState). t.depth < 2 ^ 64 - 1) rest.threads
