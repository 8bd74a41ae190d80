use Rattle.std.proofs.Common.{◌∙◌}
use Rattle.line_image.specs.Told.{Told}
use Rattle.line_memory.specs.Memory.{Memory}
use Rattle.image_recovery.proofs.Causes.{cause_on, cause_of_one}
use Rattle.image_opening.specs.declared.not_opened.NotOpened.TheVariants.{ImageFailed}
use Rattle.image_opening.proofs.Causes.{attach_cause}
use Rattle.image_opening.proofs.Fenced.{is_attached, is_unfenced}
use Rattle.image_opening.proofs.attaching.attach.Goals as goal

pub returns-in-Ok-fence-clause-attached : goal.returns-in-Ok-fence-clause-attached
returns-in-Ok-fence-clause-attached g c =
    let start : Told = g.I.Image.told c.args.image in
    let read : Memory = c.in-Ok.memory in
    let fence = c.fence.ensures in
    is_attached start (g.I.Image.faults c.args.image) read c.fence.new.self c.in-Ok.ensures.attached
    fence.keeps fence.count fence.within
    c.every_line_is_resident.ensures c.in-Ok-fence.ensures.durable

pub returns-in-Err-fence-clause-unattached : goal.returns-in-Err-fence-clause-unattached
returns-in-Err-fence-clause-unattached g c =
    let start : Told = g.I.Image.told c.args.image in
    let read : Memory = c.in-Ok.memory in
    let fence = c.fence.ensures in
    is_unfenced start (g.I.Image.faults c.args.image) read c.fence.new.self c.in-Ok.ensures.attached
    fence.keeps fence.count fence.within
    c.every_line_is_resident.ensures (g.I.Image.told c.into_image.result) c.into_image.ensures.size
    c.into_image.ensures.told c.in-Err-fence.ensures.failed

pub returns-in-Ok-fence-clause-spared : goal.returns-in-Ok-fence-clause-spared
returns-in-Ok-fence-clause-spared g c = c.in-Ok-fence.ensures.cause.spared ∙ c.in-Ok.ensures.attached.spared

pub returns-in-Err-clause-cause : goal.returns-in-Err-clause-cause
returns-in-Err-clause-cause g c =
    attach_cause c.in-Err.fault c.of_attach.result (g.I.Image.faults c.args.image) (g.I.Image.faults c.in-Err.image)
    c.of_attach.ensures c.in-Err.ensures.given_back.cause

pub returns-in-Err-fence-clause-cause : goal.returns-in-Err-fence-clause-cause
returns-in-Err-fence-clause-cause g c =
    rw (c.into_image.ensures.faults)
    (cause_on ImageFailed ImageFailed (g.I.Image.faults c.args.image) c.in-Ok.memory.faults c.fence.new.self.faults
    c.in-Ok.ensures.attached.spared
    (cause_of_one ImageFailed c.in-Ok.memory.faults c.fence.new.self.faults c.fence.ensures.cause.later c.in-Err-fence.ensures.cause.failed))
