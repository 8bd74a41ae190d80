use Rattle.std.proofs.Common.{◌≡◌, ◌≢◌, ◌⊎◌, ℕ, ◌<◌, ◌≤◌, true, List, length}
use Rattle.twin_forms.specs.Table.{Entry, IsClaimed}
use Rattle.twin_forms.specs.Sights.{sight}
use Rattle.convert_queue.specs.Threads.{needs_of}
use Rattle.convert_words.specs.Agreeing.{Met}
use Rattle.converter.specs.Looking.{IsOld, IsTaken, Refers}
use Rattle.converter.proofs.looks.note_needs.Given as goal

abbrev pub invariant-loop-k : goal.invariant-loop-k
invariant-loop-k g l = record {
  kept : (a b : ℕ) → needs_of l.fn.queue.needs a b ≡ true → needs_of l.queue.needs a b ≡ true;
  met : (a b : ℕ) → needs_of l.queue.needs a b ≡ true → (needs_of l.fn.queue.needs a b ≡ true) ⊎ ((a ≡ l.t) × (b ≢ l.t) × ((es : List Entry) (n : ℕ)
      → IsOld (sight l.heap.space l.heap.memory l.heap.marks) l.object l.to es n
      → (j m : ℕ) × (l.from ≤ j) × (j < l.to) × Refers (sight l.heap.space l.heap.memory l.heap.marks) es n j m × IsClaimed es b m));
  all : (es : List Entry) (n j m : ℕ) → IsOld (sight l.heap.space l.heap.memory l.heap.marks) l.object l.to es n → l.from ≤ j → j < l.k
      → Refers (sight l.heap.space l.heap.memory l.heap.marks) es n j m → IsTaken es m → Met es (needs_of l.queue.needs) l.t m;
  long : length l.queue.needs ≡ length l.fn.queue.needs;
  same : l.queue ≡ record l.fn.queue { needs = l.queue.needs };
}
