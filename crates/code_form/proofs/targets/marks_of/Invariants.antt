use Rattle.std.proofs.Common.{◌≡◌, ℕ, take, vec_len}
use Rattle.code_form.specs.Spelling.{is_start}
use Rattle.code_form.specs.Marks.{is_marked}
use Rattle.code_form.proofs.targets.marks_of.Given as goal

abbrev pub invariant-loop-placed : goal.invariant-loop-placed
invariant-loop-placed l = record {
  long : vec_len l.marks ≡ l.len;
  marked : (pc : ℕ) → is_marked l.marks.items pc ≡ is_start (take l.placed-index l.code) pc;
}
