use Rattle.std.proofs.Common.{◌≡◌, ◌∙◌, ap, arith}
use Rattle.frames.specs.Tables.{method_at}
use Rattle.frame_thread.specs.Outlines.{outline_of}
use Rattle.frame_thread.specs.Views.{receiver_given}
use Rattle.frame_steps.proofs.Begun.{code-begun, code-full}
use Rattle.frame_steps.proofs.begins.code.Goals as goal

pub returns-then-left-locals-clause-step : goal.returns-then-left-locals-clause-step
returns-then-left-locals-clause-step g c empty =
    let x = g.H.Host.setting c.args.host.now in
    let o : c.outline_at-method.result ≡ outline_of (method_at x.program c.args.number) =
    c.outline_at-method.ensures ∙ ap (λ p. outline_of (method_at p c.args.number)) c.program.ensures in
    code-full x c.args.number c.args.entry c.args.base c.args.receiver c.args.thread.now (receiver_given c.args.receiver) empty
    c.outline_at-method.result o c.requires.of
    (omega (arith, c.if-locals-cells_given.false, c.cells_given.ensures)) c.full.new.thread c.full.result
    (omega (arith, c.if-left-locals.true, c.left.ensures.left)) c.full.ensures.thread c.full.ensures.said

pub returns-clause-step : goal.returns-clause-step
returns-clause-step g c empty =
    let x = g.H.Host.setting c.args.host.now in
    let o : c.outline_at-method.result ≡ outline_of (method_at x.program c.args.number) =
    c.outline_at-method.ensures ∙ ap (λ p. outline_of (method_at p c.args.number)) c.program.ensures in
    code-begun x c.args.number c.args.entry c.args.base c.args.receiver c.args.thread.now (receiver_given c.args.receiver) empty
    c.outline_at-method.result o c.requires.of
    (omega (arith, c.if-locals-cells_given.false, c.cells_given.ensures)) c.make.new.thread
    c.receive.new.thread c.enters.new.thread (omega (arith, c.if-left-locals.false, c.left.ensures.left))
    c.make.ensures c.receive.ensures c.enters.ensures
