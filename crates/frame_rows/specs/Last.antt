-- A thread goes no further after a fault, and once it has ended.
use Rattle.std.specs.Prelude.{Bool, true, false}
use Rattle.natives.specs.declared.requests.Request.{Request}
use Rattle.natives.specs.declared.requests.Request.TheVariants as ask

abbrev pub is_last : {R V : Type 0} → Request R V → Bool
is_last (ask.Broken fault) = true
is_last (ask.Leave uncaught) = true
is_last request = false
