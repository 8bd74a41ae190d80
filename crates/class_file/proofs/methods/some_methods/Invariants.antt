use Rattle.std.proofs.Common.{◌≡◌, ◌-◌}
use Rattle.class_file.specs.Members.{methods_from}
use Rattle.parsing.proofs.Loops.{with_front}
use Rattle.class_file.proofs.methods.some_methods.Given as goal

abbrev pub invariant-loop-number : goal.invariant-loop-number
invariant-loop-number l = with_front l.methods.items (methods_from l.pool l.number (l.count - l.number) l.file) ≡ methods_from l.pool 0 l.count l.fn.file
