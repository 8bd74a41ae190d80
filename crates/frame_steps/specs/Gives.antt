-- What comes of the step of a native method.
use Rattle.std.specs.Prelude.{◌≡◌, IfSome}
use Rattle.frames.specs.declared.given.Given.{Given}
use Rattle.frames.specs.Calls.{Stepped}
use Rattle.frame_steps.specs.declared.gives.Gave.{Gave}
use Rattle.frame_steps.specs.declared.gives.Gave.TheVariants as what
use Rattle.frame_thread.specs.Stacked.{Stacked, list_of, stepped, IsBelowEnd}

module _ {R N : Type 0} where
  -- what was said, or what comes of the value that the method gives back
  abbrev pub gave : {V : Type 0} → (Given R → Stepped R N V) → Gave R → Stacked R N → Stepped R N V
  gave gives (what.Said said) s = stepped said s
  gave gives (what.Value value) s = gives value

  -- where a value is given back, the frame has gone
  abbrev pub IsGiven : Gave R → (old new : Stacked R N) → Type 0
  IsGiven (what.Said said) old new = Unit {0}
  IsGiven (what.Value value) old new = (list_of new ≡ old.below) × IfSome new.form IsBelowEnd
