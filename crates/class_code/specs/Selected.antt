-- Methods that are looked for from the receiver's class on, told apart from those that no stack has the arguments of.
use Rattle.std.specs.Prelude.{ℕ, nat_lt, Option, Some, None, Result, Ok, Err, if◌then◌else◌}
use Rattle.run_types.specs.declared.fault.LinkKind.{LinkKind}
use Rattle.frames.specs.declared.program.Selector.{Selector}
use Rattle.class_code.specs.Entries.{is_callable}

-- how many cells arguments take, where a stack has as many
abbrev pub on_stack : ℕ → Option ℕ
on_stack cells = if nat_lt cells 65536 then Some cells else None

abbrev pub if_callable : Result Selector LinkKind → Result (Option Selector) LinkKind
if_callable (Err kind) = Err kind
if_callable (Ok s) = Ok (if is_callable s then Some s else None)
