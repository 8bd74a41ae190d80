use Rattle.std.proofs.Common.{◌≡◌, ℕ, ◌-◌, ◌<◌, None, length, slice_index_or}
use Rattle.plain_model.specs.Facts.{classes_of, superclasses_from, superclasses_of}
use Rattle.class_set.specs.Linked.{class_count}
use Rattle.class_set.specs.Facts.{facts_of}
use Rattle.class_code.specs.Declarations.{found_along, or_else}
use Rattle.class_code.proofs.finding.found_from.Given as goal

abbrev pub invariant-loop : goal.invariant-loop
invariant-loop l = record {
  count : l.end ≡ class_count l.set;
  size : length l.found.items ≡ l.signatures;
  rest : (n : ℕ) → n < l.signatures
      → found_along l.set n (superclasses_of (facts_of l.set) l.class)
      ≡ or_else (slice_index_or l.found.items n None)
      (found_along l.set n (superclasses_from (classes_of (facts_of l.set)) (l.end - l.counter) l.at));
}
