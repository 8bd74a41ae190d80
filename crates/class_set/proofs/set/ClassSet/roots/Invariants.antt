use Rattle.std.proofs.Common.{◌≡◌, ◌+◌, ◌++◌, drop}
use Rattle.class_set.specs.Facts.{facts_of, roots_from, roots_of}
use Rattle.class_set.proofs.set.ClassSet.roots.Given as goal

abbrev pub invariant-loop-place : goal.invariant-loop-place
invariant-loop-place l =
    l.roots ++ roots_from (l.place + 1) (drop l.place (facts_of l.self).statics) ≡ roots_of (facts_of l.self)
