use Rattle.std.proofs.Common.{ℕ, ◌≡◌, ◌<◌, length, [], true, false}
use Rattle.convert_queue.specs.Threads.{has}
use Rattle.convert_queue.specs.Queues.{queue_in}
use Rattle.convert_queue.proofs.queue_lists.QueueLists.release_all.Given as goal

abbrev pub invariant-loop-t : goal.invariant-loop-t
invariant-loop-t l = record {
  threads : length l.self.queues ≡ length l.fn.self.queues;
  emptied : (u : ℕ) → u < l.t → has l.set u ≡ true → queue_in l.self.queues u ≡ [];
  kept : (u : ℕ) → has l.set u ≡ false → queue_in l.self.queues u ≡ queue_in l.fn.self.queues u;
  size : l.self.size ≡ l.fn.self.size;
}
