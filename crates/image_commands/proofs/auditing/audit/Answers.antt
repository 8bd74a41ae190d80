use Rattle.std.proofs.Common.{ap}
use Rattle.command_words.specs.Commands.{command_of, texts}
use Rattle.image_commands.specs.Asked.{of_audit}
use Rattle.image_commands.proofs.Complete.{audits}
use Rattle.image_commands.proofs.auditing.audit.Goals as goal

pub returns-clause-complete : goal.returns-clause-complete
returns-clause-complete g c =
    let meets = c.do_audit.ensures.meets in
    audits _ _ c.do_audit.result.status meets.source_fault meets.image_fault meets.sink_fault
    (of_audit (command_of (texts c.args.words.now.items))) _ (λ same. ap g.S.Sink.taken same.4) meets.does
