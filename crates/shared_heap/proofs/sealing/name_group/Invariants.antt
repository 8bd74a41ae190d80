use Rattle.std.proofs.Common.{◌≡◌, []}
use Rattle.convert_words.specs.Scenes.{scene}
use Rattle.store_barrier.specs.Passed.{names_below}
use Rattle.shared_heap.specs.Conversions.{with_names}
use Rattle.shared_heap.proofs.sealing.name_group.Given as goal

abbrev pub invariant-loop-u : goal.invariant-loop-u
invariant-loop-u g l = record {
  named : l.acts ≡ with_names l.fn.acts
      (names_below (scene l.heap.space l.heap.memory l.heap.marks l.queue 0 []) l.set l.u);
}
