use Rattle.std.proofs.Common.{◌≡◌, drop}
use Rattle.std.specs.List.{find}
use Rattle.std.specs.Prelude.{not}
use Rattle.code_form.specs.Spelling.{jumps_to_starts}
use Rattle.code_form.specs.Reading.{first_astray}
use Rattle.code_form.proofs.targets.check_targets.Given as goal

abbrev pub invariant-loop-placed : goal.invariant-loop-placed
invariant-loop-placed l =
    find (λ p. not (jumps_to_starts l.code p)) (drop l.placed-index l.code) ≡ first_astray l.code
