use Rattle.std.proofs.Common.{◌≡◌, inl}
use Rattle.audit_call.specs.Audits.{images, outside}
use Rattle.command_words.specs.Commands.{texts}
use Rattle.image_commands.specs.Audits.{faults, things}
use Rattle.image_commands.proofs.Doing.{does}
use Rattle.image_commands.proofs.auditing.do_audit.Goals as goal

pub returns : goal.returns
returns g c =
    let done = c.audit_files.ensures in
    let given = c.args in
    let back = c.audit_files.result in
    let had = things (g.C.ClassSource.left given.source) (images (g.I.Image.told given.before) (g.J.Image.told given.after))
    (outside (g.R.ClassSource.left given.records) (g.R.ClassSource.faults given.records) (g.S.Sink.taken given.sink))
    (faults (g.C.ClassSource.faults given.source) (g.R.ClassSource.faults given.records) (g.I.Image.faults given.before)
    (g.J.Image.faults given.after) (g.S.Sink.faults given.sink)) in
    let has = things (g.C.ClassSource.left back.source) (images (g.I.Image.told back.before) (g.J.Image.told back.after))
    (outside (g.R.ClassSource.left back.records) (g.R.ClassSource.faults back.records) (g.S.Sink.taken back.sink))
    (faults (g.C.ClassSource.faults back.source) (g.R.ClassSource.faults back.records) (g.I.Image.faults back.before)
    (g.J.Image.faults back.after) (g.S.Sink.faults back.sink)) in
    record {
      meets = record {
        usage = λ is. absurd (done.no_words is);
        does = inl (does (texts given.words.now.items) c.in-Ok.command c.in-Some.asked c.of_audit-asked.result c.as_slice.result.now had has
            ((back.source ≡ given.source) × (back.records ≡ given.records) × (back.before ≡ given.before) × (back.after ≡ given.after)
            × (back.sink ≡ given.sink)) back.status c.in-Ok.ensures.command c.of_audit-asked.ensures c.in-Some.is c.as_slice.ensures.same
            (record { ends = done.ends; answers = done.answers; left = done.left }));
        before_kept = done.before_kept;
        after_kept = done.after_kept;
        source_fault = done.source_fault;
        image_fault = done.image_fault;
        image_spared = done.image_spared;
        sink_fault = done.sink_fault;
        sink_spared = done.sink_spared;
      };
    }
