-- The cause of a fault of an image that isn't opened for a class set.
use Rattle.std.proofs.Common.{◌≡◌, ℕ, refl, subst, arith}
use Rattle.ap_base.specs.Causes.{IsCauseOf}
use Rattle.class_set.specs.Linked.{Linked}
use Rattle.directories.specs.Kept.{Kept}
use Rattle.image_recovery.proofs.Causes.{cause_as}
use Rattle.image_opening.specs.declared.not_opened.NotOpened.{NotOpened}
use Rattle.image_opening.specs.declared.not_opened.NotOpened.TheVariants as opening
use Rattle.set_opening.specs.declared.unopened.Unopened.{Unopened}
use Rattle.set_opening.specs.declared.unopened.Unopened.TheVariants.{ImageFailed}
use Rattle.set_opening.specs.Fitted.{IsUnfit}
use Rattle.set_opening.specs.Unopened.{IsOfOpening}

-- the image failed as it was opened, and so it isn't opened for the set, and the other way round
opening_to : (why : NotOpened) (fault : Unopened) → IsOfOpening why fault → why ≡ opening.ImageFailed → fault ≡ ImageFailed
opening_to (opening.BadImage line reason) fault of is = absurd (cc)
opening_to opening.ImageFailed fault of is = of
opening_to opening.OutOfMemory fault of is = absurd (cc)

opening_from : (why : NotOpened) (fault : Unopened) → IsOfOpening why fault → fault ≡ ImageFailed → why ≡ opening.ImageFailed
opening_from (opening.BadImage line reason) fault of is = absurd (cc)
opening_from opening.ImageFailed fault of is = refl
opening_from opening.OutOfMemory fault of is = absurd (cc)

-- it is that of the opening
pub opening_cause : (why : NotOpened) (fault : Unopened) (before now : ℕ) → IsOfOpening why fault
    → IsCauseOf opening.ImageFailed why before now → IsCauseOf ImageFailed fault before now
opening_cause why fault before now of cause =
    cause_as opening.ImageFailed why ImageFailed fault before now (opening_to why fault of) (opening_from why fault of) cause

-- an image that couldn't be made ready for the set didn't fail
pub unfit_cause : (old set : Linked) (found : Kept) (why : Unopened) (before now : ℕ) → IsUnfit old set found why → now ≡ before
    → IsCauseOf ImageFailed why before now
unfit_cause old set found why before now unfit same = record {
  later = omega (arith, same);
  spared = λ other. same;
  failed = λ is. let wrong : IsUnfit old set found ImageFailed = subst (IsUnfit old set found) is unfit in absurd wrong;
}
