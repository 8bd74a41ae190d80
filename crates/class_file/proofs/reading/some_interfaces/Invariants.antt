use Rattle.std.proofs.Common.{◌≡◌, ◌-◌}
use Rattle.const_pool.specs.declared.entry.Tag.TheVariants.{Class}
use Rattle.parsing.specs.Results.{many_from}
use Rattle.parsing.proofs.Loops.{with_front}
use Rattle.class_file.specs.Members.{index}
use Rattle.class_file.proofs.reading.some_interfaces.Given as goal

abbrev pub invariant-loop : goal.invariant-loop
invariant-loop l = with_front l.interfaces.items (many_from (index l.pool Class) (l.count - l.counter) l.file) ≡ many_from (index l.pool Class) l.count l.fn.file
