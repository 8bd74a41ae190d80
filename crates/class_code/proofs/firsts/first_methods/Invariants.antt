use Rattle.std.proofs.Common.{◌≡◌, ℕ, ◌+◌, ◌*◌, ◌<◌, ◌≤◌, length, get_or}
use Rattle.class_code.specs.Methods.{first_method, method_count}
use Rattle.class_code.proofs.firsts.first_methods.Given as goal

abbrev pub invariant-loop-class : goal.invariant-loop-class
invariant-loop-class l = record {
  first : l.first ≡ first_method l.set l.class;
  few : l.first ≤ 65536 * l.class;
  count : length l.firsts.items ≡ l.class;
  firsts : (k : ℕ) → k < l.class → get_or l.firsts.items k 0 ≡ first_method l.set k;
  room : (k : ℕ) → k < l.class → first_method l.set k + method_count l.set k ≤ 4294967295;
}
