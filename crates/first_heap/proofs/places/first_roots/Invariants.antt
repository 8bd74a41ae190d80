use Rattle.std.proofs.Common.{◌≡◌, ◌≤◌, ◌++◌, drop}
use Rattle.class_set.specs.Facts.{facts_of}
use Rattle.plain_model.specs.First.{roots_from}
use Rattle.first_heap.proofs.places.first_roots.Given as goal

abbrev pub invariant-loop-root : goal.invariant-loop-root
invariant-loop-root l = record {
  few : l.lacking ≤ l.root-index;
  made : l.roots.items ++ roots_from (facts_of l.set) l.opening l.lacking (drop l.root-index l.opening.roots)
      ≡ roots_from (facts_of l.set) l.opening 0 l.opening.roots;
}
