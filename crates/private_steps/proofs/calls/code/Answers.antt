use Rattle.std.proofs.Common.{◌≡◌, ◌∙◌, ap, arith}
use Rattle.frames.specs.Tables.{method_at}
use Rattle.frame_thread.specs.Outlines.{outline_of}
use Rattle.private_steps.proofs.Called.{called-full, called-begun}
use Rattle.private_steps.proofs.calls.code.Goals as goal

pub returns-then-left-locals-clause-step : goal.returns-then-left-locals-clause-step
returns-then-left-locals-clause-step g c given empty =
    let x = g.H.Host.setting c.args.host.now in
    let o : c.outline_at-method.result ≡ outline_of (method_at x.program c.args.number) =
    c.outline_at-method.ensures ∙ ap (λ p. outline_of (method_at p c.args.number)) c.program.ensures in
    called-full x c.args.number c.args.entry c.args.taken c.args.thread.now given empty
    c.outline_at-method.result o c.requires.of c.requires.taken c.if-locals-taken.false c.full.new.thread
    c.full.result (omega (arith, c.if-left-locals.true, c.left.ensures.left)) c.full.ensures.thread
    c.full.ensures.said

pub returns-clause-step : goal.returns-clause-step
returns-clause-step g c given empty =
    let x = g.H.Host.setting c.args.host.now in
    let o : c.outline_at-method.result ≡ outline_of (method_at x.program c.args.number) =
    c.outline_at-method.ensures ∙ ap (λ p. outline_of (method_at p c.args.number)) c.program.ensures in
    called-begun x c.args.number c.args.entry c.args.taken c.args.thread.now given empty
    c.outline_at-method.result o c.requires.of c.requires.taken c.if-locals-taken.false c.call.new.self
    c.enters.new.thread (omega (arith, c.if-left-locals.false, c.left.ensures.left)) c.call.ensures
    c.enters.ensures
