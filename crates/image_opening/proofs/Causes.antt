-- The cause of a fault of an image that isn't opened.
use Rattle.std.proofs.Common.{◌≡◌, ℕ, refl}
use Rattle.ap_base.specs.Causes.{IsCauseOf}
use Rattle.line_memory.specs.declared.attach.AttachFault.{AttachFault}
use Rattle.line_memory.specs.declared.attach.AttachFault.TheVariants as attach
use Rattle.image_walk.specs.declared.fault.RecoverFault.{RecoverFault}
use Rattle.image_walk.specs.declared.fault.RecoverFault.TheVariants as recovery
use Rattle.image_recovery.proofs.Causes.{cause_as}
use Rattle.image_opening.specs.declared.not_opened.NotOpened.{NotOpened}
use Rattle.image_opening.specs.declared.not_opened.NotOpened.TheVariants.{ImageFailed}
use Rattle.image_opening.specs.Unopened.{IsOfAttach, IsOfRecovery}

-- the image failed as it was attached, and so it isn't opened, and the other way round
attach_to : (fault : AttachFault) (why : NotOpened) → IsOfAttach fault why → fault ≡ attach.ImageFailed → why ≡ ImageFailed
attach_to attach.Size why of is = absurd (cc)
attach_to attach.ImageFailed why of is = of
attach_to attach.OutOfMemory why of is = absurd (cc)

attach_from : (fault : AttachFault) (why : NotOpened) → IsOfAttach fault why → why ≡ ImageFailed → fault ≡ attach.ImageFailed
attach_from attach.Size why of is = absurd (cc)
attach_from attach.ImageFailed why of is = refl
attach_from attach.OutOfMemory why of is = absurd (cc)

-- likewise as it was recovered
recovery_to : (fault : RecoverFault) (why : NotOpened) → IsOfRecovery fault why → fault ≡ recovery.ImageFailed → why ≡ ImageFailed
recovery_to (recovery.Bad line reason) why of is = absurd (cc)
recovery_to recovery.ImageFailed why of is = of
recovery_to recovery.OutOfMemory why of is = absurd (cc)

recovery_from : (fault : RecoverFault) (why : NotOpened) → IsOfRecovery fault why → why ≡ ImageFailed → fault ≡ recovery.ImageFailed
recovery_from (recovery.Bad line reason) why of is = absurd (cc)
recovery_from recovery.ImageFailed why of is = refl
recovery_from recovery.OutOfMemory why of is = absurd (cc)

-- it is that of the attaching
pub attach_cause : (fault : AttachFault) (why : NotOpened) (before now : ℕ) → IsOfAttach fault why
    → IsCauseOf attach.ImageFailed fault before now → IsCauseOf ImageFailed why before now
attach_cause fault why before now of cause =
    cause_as attach.ImageFailed fault ImageFailed why before now (attach_to fault why of) (attach_from fault why of) cause

-- or of the recovery
pub recovering_cause : (fault : RecoverFault) (why : NotOpened) (before now : ℕ) → IsOfRecovery fault why
    → IsCauseOf recovery.ImageFailed fault before now → IsCauseOf ImageFailed why before now
recovering_cause fault why before now of cause =
    cause_as recovery.ImageFailed fault ImageFailed why before now (recovery_to fault why of) (recovery_from fault why of) cause
