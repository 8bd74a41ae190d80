use Rattle.std.proofs.Common.{◌≡◌, ◌-◌}
use Rattle.class_items.specs.Items.{attribute_at}
use Rattle.parsing.specs.Results.{many_from}
use Rattle.parsing.proofs.Loops.{with_front}
use Rattle.class_items.proofs.attribute.some_attributes.Given as goal

abbrev pub invariant-loop : goal.invariant-loop
invariant-loop l = with_front l.attributes.items (many_from (attribute_at l.pool) (l.count - l.counter) l.file) ≡ many_from (attribute_at l.pool) l.count l.initial.file
