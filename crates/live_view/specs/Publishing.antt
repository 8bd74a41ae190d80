-- After which acts what was seen is published.
use Rattle.std.specs.Prelude.{Bool, true, false}
use Rattle.run_history.specs.declared.act.Op.{Op}
use Rattle.run_history.specs.declared.act.Op.TheVariants as op

-- after what a stop may leave changes: objects became durable, a store is fenced, a region or a thread has ended
abbrev pub is_published : Op → Bool
is_published op.Joined = true
is_published op.Fenced = true
is_published op.End = true
is_published (op.Ended uncaught) = true
is_published _ = false
