use Rattle.std.proofs.Common.{◌∙◌, inl, inr, refl}
use Rattle.line_memory.specs.Memory.{Memory}
use Rattle.line_image.specs.Told.{Told}
use Rattle.image_opening.specs.Attached.{IsAttached}
use Rattle.image_opening.specs.Unopened.{IsUnrecovered}
use Rattle.image_recovery.proofs.Causes.{cause_on}
use Rattle.image_opening.specs.declared.not_opened.NotOpened.TheVariants.{ImageFailed}
use Rattle.image_opening.proofs.Causes.{recovering_cause}
use Rattle.image_opening.proofs.Opened.{is_open, is_unrecovered, unattached_bad, unrecovered_bad}
use Rattle.image_opening.proofs.Stops.{kept, kept_untouched}
use Rattle.image_opening.proofs.opening.open_image.Goals as goal

pub returns-in-Ok-recover-clause-opened : goal.returns-in-Ok-recover-clause-opened
returns-in-Ok-recover-clause-opened g c =
    let before : Memory = c.in-Ok.memory in
    let r = c.in-Ok-recover.recovered in
    let at : IsAttached (g.I.Image.told c.args.image) before = c.in-Ok.ensures.attached in (
      before,
      is_open (g.I.Image.told c.args.image) before r.memory r.version r.directory r.graph r.lines r.free r.undone
          at c.in-Ok-recover.ensures.recovers (c.in-Ok-recover.ensures.version at.known)
          (λ l below. inl (c.every_line_is_resident.ensures r.memory l below)),
    )

pub returns-in-Ok-recover-clause-stops : goal.returns-in-Ok-recover-clause-stops
returns-in-Ok-recover-clause-stops g c =
    let m : Memory = c.in-Ok-recover.recovered.memory in
    kept (g.I.Image.told c.args.image) m.image c.in-Ok.memory m c.in-Ok.ensures.attached
    c.in-Ok-recover.ensures.recovers.stops refl

pub returns-in-Err-recover-clause-unopened : goal.returns-in-Err-recover-clause-unopened
returns-in-Err-recover-clause-unopened g c = inr (
    is_unrecovered (g.I.Image.told c.args.image) (g.I.Image.told c.into_image.result) c.in-Ok.memory
    c.in-Err-recover.memory c.in-Err-recover.fault c.of_recovery.result c.in-Ok.ensures.attached
    c.in-Err-recover.ensures.fails c.of_recovery.ensures c.into_image.ensures.size c.into_image.ensures.told)

pub returns-in-Err-recover-clause-bad : goal.returns-in-Err-recover-clause-bad
returns-in-Err-recover-clause-bad g c =
    let start : Told = g.I.Image.told c.args.image in
    let after : Told = g.I.Image.told c.into_image.result in
    let is : IsUnrecovered start after c.of_recovery.result =
    is_unrecovered start after c.in-Ok.memory c.in-Err-recover.memory c.in-Err-recover.fault c.of_recovery.result
    c.in-Ok.ensures.attached c.in-Err-recover.ensures.fails c.of_recovery.ensures c.into_image.ensures.size
    c.into_image.ensures.told in
    unrecovered_bad start after c.of_recovery.result is

pub returns-in-Err-recover-clause-stops_unopened : goal.returns-in-Err-recover-clause-stops_unopened
returns-in-Err-recover-clause-stops_unopened g c =
    kept (g.I.Image.told c.args.image) (g.I.Image.told c.into_image.result) c.in-Ok.memory c.in-Err-recover.memory
    c.in-Ok.ensures.attached c.in-Err-recover.ensures.fails.stops c.into_image.ensures.told

pub returns-in-Err-clause-bad : goal.returns-in-Err-clause-bad
returns-in-Err-clause-bad g c =
    unattached_bad (g.I.Image.told c.args.image) (g.I.Image.told c.in-Err.given_back.1) c.in-Err.given_back.0
    c.in-Err.ensures.unattached

pub returns-in-Err-clause-stops_unopened : goal.returns-in-Err-clause-stops_unopened
returns-in-Err-clause-stops_unopened g c =
    kept_untouched (g.I.Image.told c.args.image) (g.I.Image.told c.in-Err.given_back.1) c.in-Err.given_back.0
    c.in-Err.ensures.unattached

pub returns-in-Ok-recover-clause-spared : goal.returns-in-Ok-recover-clause-spared
returns-in-Ok-recover-clause-spared g c = c.in-Ok-recover.ensures.recovers.spared ∙ c.in-Ok.ensures.spared

pub returns-in-Err-recover-clause-cause : goal.returns-in-Err-recover-clause-cause
returns-in-Err-recover-clause-cause g c =
    rw (c.into_image.ensures.faults)
    (cause_on ImageFailed c.of_recovery.result (g.I.Image.faults c.args.image) c.in-Ok.memory.faults c.in-Err-recover.memory.faults
    c.in-Ok.ensures.spared
    (recovering_cause c.in-Err-recover.fault c.of_recovery.result c.in-Ok.memory.faults c.in-Err-recover.memory.faults
    c.of_recovery.ensures c.in-Err-recover.ensures.fails.cause))
