use Rattle.std.proofs.Common.{◌≡◌, map, take}
use Rattle.class_code.specs.Codes.{handler_at}
use Rattle.class_code.proofs.handlers.handlers_at.Given as goal

abbrev pub invariant-loop-handler : goal.invariant-loop-handler
invariant-loop-handler l = l.list.items ≡ map (handler_at l.set l.pool l.indices) (take l.handler-index l.handlers)
