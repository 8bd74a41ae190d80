-- A built-in method reads no more than two arguments, and one that isn't there is read as null is.
use Rattle.std.proofs.Common.{◌≡◌, ◌∙◌, ℕ, refl, sym, ap, List, [], ◌∷◌, map, take, Option, Some, None}
use Rattle.std.specs.Prelude.{slice_get}
use Rattle.ap_base.specs.declared.reference.Ref.{Ref}
use Rattle.ap_base.specs.declared.reference.Ref.TheVariants.{Null}
use Rattle.ap_base.specs.declared.reference.Item.{Item}
use Rattle.ap_base.specs.declared.reference.Item.TheVariants as item
use Rattle.run_types.specs.declared.known.Known.{Known}
use Rattle.run_types.specs.declared.resolved.At.{At}
use Rattle.natives.specs.declared.methods.Native.{Native}
use Rattle.natives.specs.declared.states.NativeState.{NativeState}
use Rattle.natives.specs.Coded.{items}
use Rattle.frames.specs.declared.given.Given.{Given}
use Rattle.frames.specs.declared.program.Program.{Program}
use Rattle.frames.specs.Calls.{value_of}
use Rattle.frame_thread.specs.Views.{receiver_given}
use Rattle.plain_frames.specs.Methods.{start}
use Rattle.plain_frames.specs.Coded.{item_given}
use Rattle.program_host.specs.Settings.{setting_of}
use Rattle.program_host.specs.Steps.{argument_of}

module _ (p : Program Native) (main : ℕ) (known : Known) (literals : List Ref) where
  pub two-arguments : (method : Native) (from : At) (values : List (Given Ref)) →
      start items item_given known method from (map (value_of (setting_of p main known literals)) values)
      ≡ start items item_given known method from
      (argument_of (slice_get values 0) ∷ argument_of (slice_get values 1) ∷ [])
  two-arguments method from [] = refl
  two-arguments method from (this ∷ []) = refl
  two-arguments method from (this ∷ that ∷ others) = refl

  -- the same of a state and arguments that have names
  pub started : (method : Native) (from : At) (values : List (Given Ref)) (this that : Item)
      (state : NativeState Ref) →
      state ≡ start items item_given known method from (this ∷ that ∷ []) →
      this ≡ argument_of (slice_get values 0) → that ≡ argument_of (slice_get values 1) →
      state ≡ start items item_given known method from
      (map (value_of (setting_of p main known literals)) values)
  started method from values this that state is is_this is_that =
      is ∙ ap (λ (x : Item). start items item_given known method from (x ∷ that ∷ [])) is_this
      ∙ ap (λ (x : Item). start items item_given known method from (argument_of (slice_get values 0) ∷ x ∷ []))
      is_that
      ∙ sym (two-arguments method from values)

module _ (method : Native) (known : Known) (from : At) where
  of-two : (values : List Item) → start items item_given known method from values ≡
      start items item_given known method from (take 2 values)
  of-two [] = refl
  of-two (this ∷ []) = refl
  of-two (this ∷ that ∷ others) = refl

  -- only the first two count
  pub only-two : (xs ys : List Item) → take 2 xs ≡ take 2 ys →
      start items item_given known method from xs ≡ start items item_given known method from ys
  only-two xs ys e = of-two xs ∙ ap (start items item_given known method from) e ∙ sym (of-two ys)

-- a receiver alone
pub no-second : (receiver : Option Ref) → item.Ref Null ≡ argument_of (slice_get (receiver_given receiver) 1)
no-second None = refl
no-second (Some r) = refl
