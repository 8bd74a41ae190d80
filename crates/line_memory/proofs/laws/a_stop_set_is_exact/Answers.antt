use Rattle.line_memory.proofs.Reached.{each_is_left, none_else_is_left}
use Rattle.line_memory.proofs.laws.a_stop_set_is_exact.Goals as goal

pub returns : goal.returns
returns c = record { none_else = none_else_is_left; each = each_is_left }
