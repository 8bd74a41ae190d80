use Rattle.std.proofs.Common.{◌≡◌, ◌++◌, take}
use Rattle.std.specs.List.{flat_map}
use Rattle.code_form.specs.Spelling.{case_bytes}
use Rattle.code_form.proofs.writing.put_cases.Given as goal

abbrev pub invariant-loop-case : goal.invariant-loop-case
invariant-loop-case l =
    l.out.items ≡ l.initial.out.items ++ flat_map (case_bytes l.pc) (take l.case-index l.cases)
