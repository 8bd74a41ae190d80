use Rattle.std.proofs.Common.{◌≡◌, ◌++◌, take}
use Rattle.std.specs.List.{flat_map}
use Rattle.code_attribute.specs.Code.{handler_bytes}
use Rattle.code_attribute.proofs.handlers.put_all.Given as goal

abbrev pub invariant-loop-handler : goal.invariant-loop-handler
invariant-loop-handler l =
    l.out.items ≡ l.initial.out.items ++ flat_map handler_bytes (take l.handler-index l.handlers)
