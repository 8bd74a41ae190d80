use Rattle.std.proofs.Common.{◌∙◌, reverse, map}
use Rattle.frames.specs.Calls.{value_of}
use Rattle.program_host.specs.Settings.{setting_of}
use Rattle.program_host.proofs.Beginning.{started, only-two}
use Rattle.program_host.proofs.host.ProgramHostHostNativeRefNativeStateItem.start.Goals as goal

pub returns : goal.returns
returns c values h =
    let host = c.args.self.now in
    started host.program host.main host.known host.literals c.args.method c.args.from
    (reverse c.args.arguments.now) c.argument.result c.argument-2.result c.begun.result c.begun.ensures
    c.argument.ensures c.argument-2.ensures ∙
    only-two c.args.method host.known c.args.from
    (map (value_of (setting_of host.program host.main host.known host.literals)) (reverse c.args.arguments.now)) values h
