use Rattle.ap_base.specs.declared.reference.Ref.TheVariants.{Null}
use Rattle.ap_base.specs.declared.reference.Item.TheVariants as item
use Rattle.frame_thread.specs.Views.{receiver_given}
use Rattle.program_host.proofs.Beginning.{started, no-second}
use Rattle.program_host.proofs.host.ProgramHostHostNativeRefNativeStateItem.begin.Goals as goal

pub returns : goal.returns
returns c =
    let host = c.args.self.now in
    started host.program host.main host.known host.literals c.args.method c.args.from
    (receiver_given c.args.receiver) c.this.result (item.Ref Null) c.begun.result c.begun.ensures
    c.this.ensures (no-second c.args.receiver)
