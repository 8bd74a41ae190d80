use Rattle.std.proofs.Common.{Err, ap, refl, ◌∙◌}
use Rattle.word_changes.specs.Changes.{Nothing}
use Rattle.word_changes.proofs.Changing.{changes_nothing}
use Rattle.image_compact.proofs.ImageWords.{look_stops}
use Rattle.image_compact.proofs.Outcomes.{by_other}
use Rattle.compact_call.specs.declared.fault.CompactFault.TheVariants.{ImageFailed, OutOfMemory}
use Rattle.compact_call.proofs.NewImages.{unattached_keeps, unattached_sized, unattached_came, unattached_stays, stays_refused, attach_cause}
use Rattle.compact_call.proofs.NewImages.{attached_keeps, attached_stays, attached_refused, attached_line, is_written_to, attached_came}
use Rattle.compact_call.proofs.NewImages.{attached_cause, right_size}
use Rattle.compact_call.proofs.fresh.write_fresh.Goals as goal

pub returns-in-Err-clause-keeps : goal.returns-in-Err-clause-keeps
returns-in-Err-clause-keeps g c =
    unattached_keeps c.args.graph.now (g.J.Image.told c.args.image) (g.J.Image.faults c.args.image) c.in-Err.fault
    (g.J.Image.told c.in-Err.image) (g.J.Image.faults c.in-Err.image) c.in-Err.ensures.given_back

pub returns-in-Err-clause-sized : goal.returns-in-Err-clause-sized
returns-in-Err-clause-sized g c wrong =
    ap Err (unattached_sized c.args.graph.now (g.J.Image.told c.args.image) (g.J.Image.faults c.args.image) c.in-Err.fault
    (g.J.Image.told c.in-Err.image) (g.J.Image.faults c.in-Err.image) c.in-Err.ensures.given_back
    c.of_attach.result c.of_attach.ensures wrong)

pub returns-in-Err-clause-fault : goal.returns-in-Err-clause-fault
returns-in-Err-clause-fault g c =
    unattached_came c.args.graph.now (g.J.Image.told c.args.image) (g.J.Image.faults c.args.image) c.in-Err.fault
    (g.J.Image.told c.in-Err.image) (g.J.Image.faults c.in-Err.image) c.in-Err.ensures.given_back
    c.of_attach.result c.of_attach.ensures

pub returns-in-Err-clause-refused : goal.returns-in-Err-clause-refused
returns-in-Err-clause-refused g c =
    stays_refused (g.J.Image.told c.args.image) (g.J.Image.told c.in-Err.image) c.of_attach.result
    (unattached_stays c.args.graph.now (g.J.Image.told c.args.image) (g.J.Image.faults c.args.image) c.in-Err.fault
    (g.J.Image.told c.in-Err.image) (g.J.Image.faults c.in-Err.image) c.in-Err.ensures.given_back)

pub returns-in-Err-clause-cause : goal.returns-in-Err-clause-cause
returns-in-Err-clause-cause g c =
    attach_cause c.in-Err.fault c.of_attach.result (g.J.Image.faults c.args.image) (g.J.Image.faults c.in-Err.image) c.of_attach.ensures
    c.in-Err.ensures.given_back.cause

pub returns-in-Err-line_of-clause-cause : goal.returns-in-Err-line_of-clause-cause
returns-in-Err-line_of-clause-cause g c =
    by_other ImageFailed OutOfMemory (g.J.Image.faults c.args.image) (g.J.Image.faults c.into_image.result) (λ is. cc)
    (c.into_image.ensures.faults ∙ c.in-Ok.ensures.attached.spared)

pub returns-in-Err-line_of-clause-keeps : goal.returns-in-Err-line_of-clause-keeps
returns-in-Err-line_of-clause-keeps g c =
    let range = c.in-Ok.ensures.attached.range in
    attached_keeps c.args.graph.now (g.J.Image.told c.args.image) (g.J.Image.faults c.args.image) c.in-Ok.memory c.in-Ok.memory
    c.in-Ok.ensures.attached (g.J.Image.told c.into_image.result) c.into_image.ensures.told c.into_image.ensures.size refl
    (λ tells blank. look_stops c.in-Ok.memory c.in-Ok.memory c.in-Ok.memory.size c.args.graph.now range.0 range.1
    (changes_nothing Nothing c.in-Ok.memory) blank)
    (λ known used. changes_nothing Nothing c.in-Ok.memory)

pub returns-in-Err-line_of-clause-sized : goal.returns-in-Err-line_of-clause-sized
returns-in-Err-line_of-clause-sized g c wrong =
    absurd (right_size c.args.graph.now (g.J.Image.told c.args.image) (g.J.Image.faults c.args.image) c.in-Ok.memory c.in-Ok.memory
    c.in-Ok.ensures.attached wrong)

pub returns-in-Err-line_of-clause-refused : goal.returns-in-Err-line_of-clause-refused
returns-in-Err-line_of-clause-refused g c =
    attached_stays c.args.graph.now (g.J.Image.told c.args.image) (g.J.Image.faults c.args.image) c.in-Ok.memory c.in-Ok.memory
    c.in-Ok.ensures.attached (g.J.Image.told c.into_image.result) c.into_image.ensures.told
    (changes_nothing Nothing c.in-Ok.memory)

pub returns-in-Ok-write_image-clause-keeps : goal.returns-in-Ok-write_image-clause-keeps
returns-in-Ok-write_image-clause-keeps g c =
    let w = c.in-Ok-write_image.ensures.writes in
    attached_keeps c.args.graph.now (g.J.Image.told c.args.image) (g.J.Image.faults c.args.image) c.in-Ok.memory c.in-Ok-write_image.memory
    c.in-Ok.ensures.attached (g.J.Image.told c.into_image-in-Ok-write_image.result) c.into_image-in-Ok-write_image.ensures.told c.into_image-in-Ok-write_image.ensures.size w.goes_on.size
    w.stops (λ known used. absurd (used (w.was_blank known)))

pub returns-in-Ok-write_image-clause-sized : goal.returns-in-Ok-write_image-clause-sized
returns-in-Ok-write_image-clause-sized g c wrong =
    absurd (right_size c.args.graph.now (g.J.Image.told c.args.image) (g.J.Image.faults c.args.image) c.in-Ok.memory c.in-Ok-write_image.memory
    c.in-Ok.ensures.attached wrong)

pub returns-in-Ok-write_image-clause-written : goal.returns-in-Ok-write_image-clause-written
returns-in-Ok-write_image-clause-written g c =
    is_written_to c.args.graph.now (g.J.Image.told c.args.image) (g.J.Image.faults c.args.image) c.in-Ok.memory c.in-Ok-write_image.memory
    c.in-Ok.ensures.attached (g.J.Image.told c.into_image-in-Ok-write_image.result) c.into_image-in-Ok-write_image.ensures.told c.in-Ok-write_image.ensures.writes

pub returns-in-Ok-write_image-clause-line : goal.returns-in-Ok-write_image-clause-line
returns-in-Ok-write_image-clause-line g c =
    c.in-Ok-line_of.ensures.line (attached_line c.args.graph.now (g.J.Image.told c.args.image) (g.J.Image.faults c.args.image) c.in-Ok.memory c.in-Ok-write_image.memory
    c.in-Ok.ensures.attached c.in-Ok-write_image.ensures.writes)

pub returns-in-Err-write_image-clause-keeps : goal.returns-in-Err-write_image-clause-keeps
returns-in-Err-write_image-clause-keeps g c =
    let f = c.in-Err-write_image.ensures.fails in
    attached_keeps c.args.graph.now (g.J.Image.told c.args.image) (g.J.Image.faults c.args.image) c.in-Ok.memory c.in-Err-write_image.memory
    c.in-Ok.ensures.attached (g.J.Image.told c.into_image-in-Err-write_image.result) c.into_image-in-Err-write_image.ensures.told c.into_image-in-Err-write_image.ensures.size f.goes_on.size
    f.stops f.not_blank

pub returns-in-Err-write_image-clause-sized : goal.returns-in-Err-write_image-clause-sized
returns-in-Err-write_image-clause-sized g c wrong =
    absurd (right_size c.args.graph.now (g.J.Image.told c.args.image) (g.J.Image.faults c.args.image) c.in-Ok.memory c.in-Err-write_image.memory
    c.in-Ok.ensures.attached wrong)

pub returns-in-Err-write_image-clause-fault : goal.returns-in-Err-write_image-clause-fault
returns-in-Err-write_image-clause-fault g c =
    attached_came c.args.graph.now (g.J.Image.told c.args.image) (g.J.Image.faults c.args.image) c.in-Ok.memory c.in-Err-write_image.memory
    c.in-Ok.ensures.attached c.in-Err-write_image.fault c.in-Err-write_image.ensures.fails
    c.of_write.result c.of_write.ensures

pub returns-in-Err-write_image-clause-refused : goal.returns-in-Err-write_image-clause-refused
returns-in-Err-write_image-clause-refused g c =
    attached_refused c.args.graph.now (g.J.Image.told c.args.image) (g.J.Image.faults c.args.image) c.in-Ok.memory c.in-Err-write_image.memory
    c.in-Ok.ensures.attached (g.J.Image.told c.into_image-in-Err-write_image.result) c.into_image-in-Err-write_image.ensures.told
    c.in-Err-write_image.fault c.in-Err-write_image.ensures.fails c.of_write.result c.of_write.ensures

pub returns-in-Err-write_image-clause-cause : goal.returns-in-Err-write_image-clause-cause
returns-in-Err-write_image-clause-cause g c =
    attached_cause c.args.graph.now (g.J.Image.told c.args.image) (g.J.Image.faults c.args.image) c.in-Ok.memory c.in-Err-write_image.memory
    c.in-Ok.ensures.attached c.in-Err-write_image.fault c.in-Err-write_image.ensures.fails c.of_write.result c.of_write.ensures
    (g.J.Image.faults c.into_image-in-Err-write_image.result) c.into_image-in-Err-write_image.ensures.faults
