-- A native method asks for no arrays but those of chars.
use Rattle.std.proofs.Common.{◌≡◌, ℕ, ℤ, refl, subst}
use Rattle.run_types.specs.declared.resolved.At.{At}
use Rattle.run_types.specs.declared.known.Known.{Known}
use Rattle.natives.specs.declared.requests.Request.{Request}
use Rattle.natives.specs.declared.requests.Request.TheVariants as ask
use Rattle.natives.specs.declared.positions.Single.{Single}
use Rattle.natives.specs.declared.positions.Single.TheVariants as single
use Rattle.natives.specs.declared.positions.Equality.{Equality}
use Rattle.natives.specs.declared.positions.Equality.TheVariants as equality
use Rattle.natives.specs.declared.positions.ObjectText.{ObjectText}
use Rattle.natives.specs.declared.positions.ObjectText.TheVariants as object
use Rattle.natives.specs.declared.positions.NewBuilder.{NewBuilder}
use Rattle.natives.specs.declared.positions.NewBuilder.TheVariants as new
use Rattle.natives.specs.declared.positions.Append.{Append}
use Rattle.natives.specs.declared.positions.Append.TheVariants as append
use Rattle.natives.specs.declared.positions.Copies.{Copies}
use Rattle.natives.specs.declared.positions.Copies.TheVariants as copies
use Rattle.natives.specs.declared.positions.BuiltText.{BuiltText}
use Rattle.natives.specs.declared.positions.BuiltText.TheVariants as built
use Rattle.natives.specs.declared.positions.Printing.{Printing}
use Rattle.natives.specs.declared.positions.Printing.TheVariants as printing
use Rattle.natives.specs.declared.positions.Running.{Running}
use Rattle.natives.specs.declared.positions.Running.TheVariants as running
use Rattle.natives.specs.declared.positions.Position.{Position}
use Rattle.natives.specs.declared.positions.Position.TheVariants as position
use Rattle.natives.specs.declared.states.NativeState.{NativeState}
use Rattle.natives.specs.Values.{Values}
use Rattle.natives.specs.Positions.{single_asks, equality_asks, object_asks, new_asks, append_asks, copies_asks, built_asks}
use Rattle.natives.specs.Positions.{printing_asks, running_asks, asks_at}
use Rattle.natives.specs.States.{request_of}

module _ {R V : Type 0} (x : Values R V) (known : Known) (from : At) where
  abbrev IsOfChars : Request R V → Type 0
  IsOfChars (ask.NewArray at shape count) = shape ≡ known.chars
  IsOfChars request = Unit {0}

  single-chars : (p : Single R) → IsOfChars (single_asks x known from p)
  single-chars (single.Same pair) = tt
  single-chars p = tt

  equality-chars : (p : Equality R) → IsOfChars (equality_asks x known from p)
  equality-chars (equality.Same pair) = tt
  equality-chars p = tt

  object-chars : (p : ObjectText R) → IsOfChars (object_asks x known from p)
  object-chars (object.IsString to r) = tt
  object-chars p = tt

  new-chars : (p : NewBuilder R) → IsOfChars (new_asks x known from p)
  new-chars (new.Array builder text) = refl
  new-chars (new.Value builder text array) = tt

  append-chars : (p : Append R) → IsOfChars (append_asks x known from p)
  append-chars (append.Larger a n c) = refl
  append-chars p = tt

  copies-chars : (p : Copies R) → IsOfChars (copies_asks x known from p)
  copies-chars (copies.Read c) = tt
  copies-chars (copies.Put c char) = tt

  built-chars : (p : BuiltText R) → IsOfChars (built_asks x known from p)
  built-chars (built.Count builder) = tt
  built-chars p = tt

  printing-chars : (p : Printing R) → IsOfChars (printing_asks x known from p)
  printing-chars (printing.Exit stream) = tt
  printing-chars p = tt

  running-chars : (p : Running R) → IsOfChars (running_asks x known from p)
  running-chars running.Result = tt
  running-chars p = tt

  position-chars : (p : Position R) → IsOfChars (asks_at x known from p)
  position-chars (position.Single p) = single-chars p
  position-chars (position.Equality p) = equality-chars p
  position-chars (position.ObjectText p) = object-chars p
  position-chars (position.NewBuilder p) = new-chars p
  position-chars (position.Append p) = append-chars p
  position-chars (position.Copies p) = copies-chars p
  position-chars (position.BuiltText p) = built-chars p
  position-chars (position.Printing p) = printing-chars p
  position-chars (position.Running p) = running-chars p

pub state-chars : {R V : Type 0} (x : Values R V) (s : NativeState R) (from : At) (shape : ℕ) (count : ℤ)
    → request_of x s ≡ ask.NewArray from shape count → shape ≡ s.known.chars
state-chars x s from shape count e =
    subst (IsOfChars x s.known s.from) e (position-chars x s.known s.from s.position)
