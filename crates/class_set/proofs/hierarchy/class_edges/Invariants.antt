use Rattle.std.proofs.Common.{◌≡◌, ◌++◌, drop}
use Rattle.class_set.specs.Tables.{edges_with}
use Rattle.class_set.proofs.hierarchy.class_edges.Given as goal

abbrev pub invariant-loop-class : goal.invariant-loop-class
invariant-loop-class l =
    l.edges.items ++ edges_with (drop l.class l.interfaces) (drop l.class l.supers) ≡ edges_with l.interfaces l.supers
