use Rattle.std.proofs.Common.{◌≡◌, ◌≤◌, [], length}
use Rattle.convert_queue.specs.Queues.{Queued, queue_of}
use Rattle.convert_words.specs.Scenes.{scene}
use Rattle.converter.specs.Laws.{number_at}
use Rattle.shared_heap.specs.Conversions.{with_names}
use Rattle.shared_heap.proofs.Naming.{names_to}
use Rattle.shared_heap.proofs.sealing.name_queue.Given as goal

abbrev pub invariant-loop-i : goal.invariant-loop-i
invariant-loop-i g l = record {
  named : l.acts ≡ with_names l.fn.acts
      (names_to (λ (x : Queued). number_at (scene l.heap.space l.heap.memory l.heap.marks l.queue 0 []) x.0) (queue_of l.queue l.u) l.i);
  before : l.i ≤ length (queue_of l.queue l.u);
}
