use Rattle.std.proofs.Common.{◌≡◌, ◌∙◌, refl, sym, ap, arith}
use Rattle.frames.specs.declared.given.Given.TheVariants as given
use Rattle.frames.specs.Calls.{returns_to}
use Rattle.frame_thread.specs.Stacked.{list_of, frames_with, without}
use Rattle.frame_steps.proofs.Sizes.{room-yes, room-no}
use Rattle.private_steps.proofs.calls.empty.Goals as goal

pub returns-then-left-lt16-clause-step : goal.returns-then-left-lt16-clause-step
returns-then-left-lt16-clause-step g c k cells list =
    room-no (g.H.Host.setting c.args.host.now) 16 c.args.thread.now c.full.new.thread c.full.result _
    c.requires.of (omega (arith, c.if-left-lt16.true, c.left.ensures.left)) c.full.ensures.thread
    c.full.ensures.said

pub returns-clause-step : goal.returns-clause-step
returns-clause-step g c k cells list =
    let x = g.H.Host.setting c.args.host.now in
    let t = c.args.thread.now in
    let l : list_of c.take.new.thread ≡ frames_with t.form (without c.args.taken t.own) t.below =
    rw c.take.ensures refl in
    c.gives.ensures.step ∙ ap (returns_to x given.Nothing) l ∙
    sym (room-yes x 16 (list_of t) _ c.requires.of
    (omega (arith, c.if-left-lt16.false, c.left.ensures.left)))
