-- A method that stands at a position does what a request list says.
use Rattle.std.specs.Prelude.{◌≡◌, ℕ, List, Option}
use Rattle.run_types.specs.declared.known.Known.{Known}
use Rattle.run_types.specs.declared.resolved.At.{At}
use Rattle.natives.specs.declared.methods.Native.{Native}
use Rattle.natives.specs.declared.requests.Reply.{Reply}
use Rattle.natives.specs.declared.positions.Moved.{Moved}
use Rattle.natives.specs.declared.positions.Moved.TheVariants.{Asks, Calls, Gives}
use Rattle.natives.specs.Values.{Values}
use Rattle.natives.specs.Scripts.{Script, Ask, Call, Return, request_list}
use Rattle.natives.specs.Positions.{asks_at, next_at, begins_at}

module _ {R V : Type 0} (x : Values R V) (known : Known) (from : At) where
  -- It asks the same, and does so after each reply; it calls the same and gives the same back.
  abbrev pub Follows : Script R V → Moved R V → Type 0
  Follows (Ask q goes_on) (Asks p) =
      (q ≡ asks_at x known from p) × ((r : Reply R V) → Follows (goes_on r) (next_at x p r))
  Follows (Call called class receiver goes_on) (Calls p other_called other_class other_receiver) =
      (called ≡ other_called) × (class ≡ other_class) × (receiver ≡ other_receiver)
      × ((r : Reply R V) → Follows (goes_on r) (next_at x p r))
  Follows (Return value) (Gives other_value) = value ≡ other_value
  Follows script moved = ⊥

-- Each method, given its arguments, makes its request list.
abbrev pub MakeTheirRequestLists : {R V : Type 0} → Values R V → Type 0
MakeTheirRequestLists {R = R} {V = V} x = (known : Known) (from : At) (method : Native) (values : List V)
    → Follows x known from (request_list x known from values method) (Asks (begins_at x values method))
