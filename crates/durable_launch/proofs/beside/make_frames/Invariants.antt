use Rattle.std.proofs.Common.{◌≡◌, ◌≤◌, length}
use Rattle.std.specs.Prelude.{vec_capacity}
use Rattle.durable_launch.proofs.beside.make_frames.Given as goal

-- frames of so many threads, with room for all
abbrev pub invariant-loop-thread : goal.invariant-loop-thread
invariant-loop-thread l = record {
  count : length l.frames.items ≡ l._thread;
  room : 64 ≤ vec_capacity l.frames;
}
