-- What each copy of what is seen keeps.
use Rattle.std.specs.Prelude.{◌≡◌, ℕ, ◌<◌, ◌≤◌, ◌^◌, length}
use Rattle.graph_model.specs.Heaps.{IsSound}
use Rattle.live_heap.specs.Seen.{Seen}

-- The heap is sound, it has fewer than 2^32 roots, each object has its flag, and a durable store is an act.
pub record IsSoundSeen (seen : Seen) : Type 0 where
  pub sound : IsSound seen.heap
  pub roots : length seen.heap.roots < 2 ^ 32
  pub flags : length seen.durable ≡ length seen.heap.objects
  pub stores : seen.stores ≤ seen.acts
