use Rattle.std.proofs.Common.{◌≡◌, ◌∙◌, [], ◌∷◌, reverse, take, map, refl, sym, ap, arith}
use Rattle.run_types.specs.declared.resolved.At.{At}
use Rattle.frame_cells.specs.Own.{Own}
use Rattle.frames.specs.Tables.{method_at, start_of}
use Rattle.frames.specs.Settings.{Native, Runs}
use Rattle.frames.specs.Calls.{goes_on, value_of, arguments_on}
use Rattle.frame_thread.specs.declared.form.Form.TheVariants as form
use Rattle.frame_thread.specs.Stacked.{list_of, frames_with, without}
use Rattle.frame_steps.proofs.Sizes.{room-yes, room-no}
use Rattle.frame_steps.proofs.Begun.{other-begun}
use Rattle.private_steps.proofs.Parameters.{first-two}
use Rattle.private_steps.proofs.calls.native.Goals as goal

pub returns-then-left-lt16-clause-step : goal.returns-then-left-lt16-clause-step
returns-then-left-lt16-clause-step g c given empty h =
    room-no (g.H.Host.setting c.args.host.now) 16 c.args.thread.now c.full.new.thread c.full.result _
    c.requires.of (omega (arith, c.if-left-lt16.true, c.left.ensures.left)) c.full.ensures.thread
    c.full.ensures.said

pub returns-clause-step : goal.returns-clause-step
returns-clause-step g c given empty h =
    let x = g.H.Host.setting c.args.host.now in
    let t = c.args.thread.now in
    let from : c.start-from.result ≡ start_of x.program c.args.number =
    c.start-from.ensures ∙ ap (λ p. start_of p c.args.number) c.program.ensures in
    let b = frames_with t.form (without c.args.taken t.own) t.below in
    let l : list_of c.take.new.thread ≡ b = rw c.take.ensures refl in
    let pe : c.parameters.result.now ≡ (method_at x.program c.args.number).parameters =
    c.parameters.ensures ∙ ap (λ p. (method_at p c.args.number).parameters) c.program-2.ensures in
    let se = ap (λ (o : Own _). o.stack) c.cells.ensures in
    let r = c.read.ensures given (ap (λ ps. arguments_on ps c.cells.result.now.own.stack []) pe ∙
    ap (λ s. arguments_on (method_at x.program c.args.number).parameters s []) se ∙ h) in
    let v = ap reverse c.as_slice.ensures ∙ r in
    other-begun c.push.new.self c.set_doing.new.self (form.Native c.start-from.result c.start-state.result) b
    c.push.ensures.form (c.push.ensures.below ∙ l) c.set_doing.ensures ∙
    ap (λ state. goes_on Runs (Native c.start-from.result state ∷ b))
    (c.start-state.ensures (map (value_of x) given)
    (ap (λ vs. take 2 (map (value_of x) vs)) v ∙ first-two (value_of x) given)) ∙
    ap (λ (at : At). goes_on Runs (Native at (x.start c.args.method at (map (value_of x) given)) ∷ b)) from ∙
    sym (room-yes x 16 (list_of t) _ c.requires.of
    (omega (arith, c.if-left-lt16.false, c.left.ensures.left)))
