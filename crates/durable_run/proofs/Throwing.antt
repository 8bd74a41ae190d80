-- The class of what a turn throws by itself is a built-in one, and no interface.
use Rattle.std.proofs.Common.{◌≡◌, ◌⊎◌, ◌∙◌, ℕ, ◌<◌, false, ap, sym, subst, inl, inr, Some, arith, lit<}
use Rattle.ap_base.specs.declared.reference.Ref.{Ref}
use Rattle.ap_base.specs.declared.reference.Item.{Item}
use Rattle.run_types.specs.declared.resolved.At.{At}
use Rattle.natives.specs.declared.requests.Request.{Request}
use Rattle.natives.specs.declared.requests.Request.TheVariants as ask
use Rattle.natives.specs.declared.states.NativeState.{NativeState}
use Rattle.natives.specs.Coded.{items}
use Rattle.plain_model.specs.declared.throws.Throws.TheVariants.{NullPointer, Arithmetic}
use Rattle.plain_model.specs.Classes.{ClassFacts}
use Rattle.plain_model.specs.Facts.{SetFacts, class_at, class_count, thrown_class}
use Rattle.plain_model.proofs.Consistent.{class_of_place}
use Rattle.frames.specs.Turns.{turn}
use Rattle.run_forms.specs.Views.{ThreadFrames}
use Rattle.run_forms.specs.Standing.{Launch, IsLaunch, setting_of}
use Rattle.durable_run.proofs.Raising.{IsOwnRaise, turn-raises}
use Rattle.durable_run.proofs.Thrown.{IsNoRaise, state-none}

-- a class that isn't an array type, and no interface
abbrev pub IsPlainClass : SetFacts → ℕ → Type 0
IsPlainClass set n = (n < class_count set) × ((class_at set n).is_interface ≡ false)

null_pointer : (set : SetFacts) → IsPlainClass set (thrown_class set NullPointer)
null_pointer set = (
  omega arith,
  ap (λ (c : ClassFacts). c.is_interface) (class_of_place set 17 (lit< tt)),
)

arithmetic : (set : SetFacts) → IsPlainClass set (thrown_class set Arithmetic)
arithmetic set = (
  omega arith,
  ap (λ (c : ClassFacts). c.is_interface) (class_of_place set 3 (lit< tt)),
)

own-is_plain : (set : SetFacts) (n null_class arithmetic_class : ℕ)
    → null_class ≡ thrown_class set NullPointer
    → arithmetic_class ≡ thrown_class set Arithmetic → (n ≡ null_class) ⊎ (n ≡ arithmetic_class)
    → IsPlainClass set n
own-is_plain set n null_class arithmetic_class e f is = elim is [
  | inl same ↦ subst (IsPlainClass set) (sym (same ∙ e)) (null_pointer set)
  | inr same ↦ subst (IsPlainClass set) (sym (same ∙ f)) (arithmetic set)
]

no_raise : (launch : Launch) (request : Request Ref Item) → IsNoRaise request
    → IsOwnRaise (setting_of launch) request
no_raise launch (ask.Raise from class) is = absurd is
no_raise launch request is = tt

pub thrown-is_plain : (launch : Launch) → IsLaunch launch → (fs : ThreadFrames) (from : At) (class : ℕ)
    → (turn (setting_of launch) fs).asks ≡ Some (ask.Raise from class) → IsPlainClass launch.set class
thrown-is_plain launch is fs from class asks =
    own-is_plain launch.set class launch.program.null_pointer launch.program.arithmetic is.names.null_pointer
    is.names.arithmetic
    (turn-raises (setting_of launch) (λ (s : NativeState Ref). no_raise launch _ (state-none items s)) fs
    (ask.Raise from class) asks)
