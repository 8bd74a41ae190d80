use Rattle.std.proofs.Common.{◌≡◌, ℕ, ◌<◌, None, length, drop, slice_index_or}
use Rattle.class_code.specs.Declarations.{found_among, or_else}
use Rattle.class_code.proofs.finding.add_methods.Given as goal

abbrev pub invariant-loop-method : goal.invariant-loop-method
invariant-loop-method l = record {
  size : length l.found ≡ length l.fn.found;
  rest : (n : ℕ) → n < length l.fn.found
      → or_else (slice_index_or l.found n None) (found_among n (drop l.method-index l.methods))
      ≡ or_else (slice_index_or l.fn.found n None) (found_among n l.methods);
}
