use Rattle.std.proofs.Common.{◌≡◌, take}
use Rattle.code_form.specs.Spelling.{written}
use Rattle.code_form.proofs.writing.write_code.Given as goal

abbrev pub invariant-loop-placed : goal.invariant-loop-placed
invariant-loop-placed l = l.out.items ≡ written (take l.placed-index l.code)
