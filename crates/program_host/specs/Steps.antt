-- What native methods are given, and what comes of their replies.
use Rattle.std.specs.Prelude.{pos, Option, Some, None}
use Rattle.ap_base.specs.declared.reference.Ref.{Ref}
use Rattle.ap_base.specs.declared.reference.Ref.TheVariants as ref
use Rattle.ap_base.specs.declared.reference.Item.{Item}
use Rattle.ap_base.specs.declared.reference.Item.TheVariants as item
use Rattle.natives.specs.declared.states.NativeState.{NativeState}
use Rattle.natives.specs.declared.states.NativeStep.{NativeStep as Step}
use Rattle.natives.specs.declared.states.NativeStep.TheVariants.{Ask, Call, Return}
use Rattle.frames.specs.declared.given.Given.{Given}
use Rattle.frames.specs.declared.given.Given.TheVariants as given
use Rattle.frames.specs.Settings.{NativeStep, Asks, Calls, Gives}
use Rattle.plain_frames.specs.Methods.{method_of, given_back}
use Rattle.plain_frames.specs.Coded.{item_given}

abbrev pub item_of : Given Ref → Item
item_of given.Nothing = item.Int (pos 0)
item_of (given.Int i) = item.Int i
item_of (given.Long i) = item.Long i
item_of (given.Reference r) = item.Ref r

-- an argument that isn't there is null
abbrev pub argument_of : Option (Given Ref) → Item
argument_of None = item.Ref ref.Null
argument_of (Some value) = item_of value

-- a method's next step, which is then in this state
abbrev pub step_in : NativeState Ref → Step Ref Item → NativeStep Ref (NativeState Ref)
step_in state (Ask request) = Asks state
step_in state (Call method class receiver) = Calls state (method_of method) class receiver
step_in state (Return value) = Gives (given_back item_given value)
