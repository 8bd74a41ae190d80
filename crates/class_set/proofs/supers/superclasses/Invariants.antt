use Rattle.std.proofs.Common.{◌≡◌, ◌-◌, ◌++◌, length}
use Rattle.class_set.specs.Members.{superclasses_in}
use Rattle.class_set.proofs.supers.superclasses.Given as goal

abbrev pub invariant-loop : goal.invariant-loop
invariant-loop l = record {
  count : l.end ≡ length l.supers;
  rest : l.chain.items ++ superclasses_in l.supers (l.end - l.counter) l.at ≡ superclasses_in l.supers (length l.supers) l.class;
}
