use Rattle.std.proofs.Common.{◌≡◌, ◌*◌, ◌≤◌}
use Rattle.class_code.specs.Methods.{first_method}
use Rattle.audit_runs.proofs.mains.first_method.Given as goal

abbrev pub invariant-loop-before : goal.invariant-loop-before
invariant-loop-before l = record {
  number : l.methods ≡ first_method l.set l.before;
  few : l.methods ≤ 65535 * l.before;
}
