use Rattle.frame_thread.specs.Views.{native_step}
use Rattle.program_host.proofs.Advancing.{advanced}
use Rattle.program_host.proofs.host.ProgramHostHostNativeRefNativeStateItem.next.Goals as goal

pub returns : goal.returns
returns c =
    advanced c.args.state c.next_request-step.new.state c.args.reply.now c.next_request-step.result
    (native_step c.advance.result) c.next_request-step.ensures.step c.next_request-step.ensures.state
    c.advance.ensures
