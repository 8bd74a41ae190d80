use Rattle.std.proofs.Common.{◌≡◌, ◌++◌, take}
use Rattle.std.specs.Int.{w32}
use Rattle.std.specs.List.{flat_map}
use Rattle.code_form.specs.Spelling.{signed, offset}
use Rattle.code_form.proofs.writing.put_targets.Given as goal

abbrev pub invariant-loop-target : goal.invariant-loop-target
invariant-loop-target l =
    l.out.items ≡ l.initial.out.items ++ flat_map (λ t. signed w32 (offset l.pc t))
    (take l.target-index l.targets)
