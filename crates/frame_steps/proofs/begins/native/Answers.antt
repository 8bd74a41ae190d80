use Rattle.std.proofs.Common.{◌≡◌, ◌∙◌, ◌∷◌, map, sym, ap, arith}
use Rattle.run_types.specs.declared.resolved.At.{At}
use Rattle.frames.specs.Tables.{start_of}
use Rattle.frames.specs.Settings.{Native, Runs}
use Rattle.frames.specs.Calls.{goes_on, value_of}
use Rattle.frame_thread.specs.declared.form.Form.TheVariants as form
use Rattle.frame_thread.specs.Views.{receiver_given}
use Rattle.frame_thread.specs.Stacked.{list_of}
use Rattle.frame_steps.specs.Beginnings.{below_of}
use Rattle.frame_steps.proofs.Sizes.{room-yes, room-no}
use Rattle.frame_steps.proofs.Begun.{other-begun}
use Rattle.frame_steps.proofs.begins.native.Goals as goal

pub returns-then-left-lt16-clause-step : goal.returns-then-left-lt16-clause-step
returns-then-left-lt16-clause-step g c empty =
    room-no (g.H.Host.setting c.args.host.now) 16 c.args.thread.now c.full.new.thread c.full.result _
    c.requires.of (omega (arith, c.if-left-lt16.true, c.left.ensures.left)) c.full.ensures.thread
    c.full.ensures.said

pub returns-clause-step : goal.returns-clause-step
returns-clause-step g c empty =
    let x = g.H.Host.setting c.args.host.now in
    let from : c.start-from.result ≡ start_of x.program c.args.number =
    c.start-from.ensures ∙ ap (λ p. start_of p c.args.number) c.program.ensures in
    let b = below_of c.args.base (list_of c.args.thread.now) in
    other-begun c.push.new.thread c.set_doing.new.self (form.Native c.start-from.result c.begin-state.result) b
    c.push.ensures.form c.push.ensures.below c.set_doing.ensures ∙
    ap (λ state. goes_on Runs (Native c.start-from.result state ∷ b)) c.begin-state.ensures ∙
    ap (λ (at : At). goes_on Runs (Native at
    (x.start c.args.method at (map (value_of x) (receiver_given c.args.receiver))) ∷ b)) from ∙
    sym (room-yes x 16 (list_of c.args.thread.now) _ c.requires.of
    (omega (arith, c.if-left-lt16.false, c.left.ensures.left)))
