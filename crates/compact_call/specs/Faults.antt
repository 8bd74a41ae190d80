-- Faults, as they are passed on.
use Rattle.std.specs.Prelude.{◌≡◌}
use Rattle.line_memory.specs.declared.attach.AttachFault.{AttachFault}
use Rattle.line_memory.specs.declared.attach.AttachFault.TheVariants as attach
use Rattle.image_opening.specs.declared.not_opened.NotOpened.{NotOpened}
use Rattle.image_opening.specs.declared.not_opened.NotOpened.TheVariants as opening
use Rattle.image_compact.specs.declared.fault.WriteFault.{WriteFault}
use Rattle.image_compact.specs.declared.fault.WriteFault.TheVariants as write
use Rattle.statuses.specs.declared.status.NewReason.TheVariants.{Size, NotBlank}
use Rattle.compact_call.specs.declared.fault.CompactFault.{CompactFault}
use Rattle.compact_call.specs.declared.fault.CompactFault.TheVariants.{BadImage, NewImage, Full, ImageFailed, OutOfMemory}

abbrev pub IsOfOpening : NotOpened → CompactFault → Type 0
IsOfOpening (opening.BadImage line reason) why = why ≡ BadImage line reason
IsOfOpening opening.ImageFailed why = why ≡ ImageFailed
IsOfOpening opening.OutOfMemory why = why ≡ OutOfMemory

abbrev pub IsOfAttach : AttachFault → CompactFault → Type 0
IsOfAttach attach.Size why = why ≡ NewImage Size
IsOfAttach attach.ImageFailed why = why ≡ ImageFailed
IsOfAttach attach.OutOfMemory why = why ≡ OutOfMemory

abbrev pub IsOfWrite : WriteFault → CompactFault → Type 0
IsOfWrite write.NotBlank why = why ≡ NewImage NotBlank
IsOfWrite (write.Full full) why = why ≡ Full full
IsOfWrite write.ImageFailed why = why ≡ ImageFailed
IsOfWrite write.OutOfMemory why = why ≡ OutOfMemory
