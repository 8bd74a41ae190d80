-- The shapes so far agree.
use Rattle.std.proofs.Common.{◌<◌, ℕ, slice_index_or}
use Rattle.graph_model.specs.Heaps.{no_shape}
use Rattle.directories.specs.ClassSets.{Agrees}
use Rattle.directories.proofs.directory.Directory.agree.Given as goal

abbrev pub invariant-loop-n : goal.invariant-loop-n
invariant-loop-n g l = (k : ℕ) → k < l.n → Agrees (g.S.Classes.facts l.set) (slice_index_or l.self.shapes k no_shape)
