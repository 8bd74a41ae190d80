use Rattle.std.proofs.Common.{◌≡◌, ◌∙◌, ◌∷◌, sym, ap, arith}
use Rattle.frames.specs.Settings.{Initialiser}
use Rattle.frames.specs.Calls.{begins_initialiser}
use Rattle.frame_thread.specs.Stacked.{list_of}
use Rattle.frame_steps.proofs.Sizes.{room-yes, room-no}
use Rattle.frame_steps.proofs.initialises.initialises.Goals as goal

pub returns-then-left-lt16-clause-step : goal.returns-then-left-lt16-clause-step
returns-then-left-lt16-clause-step g c =
    room-no (g.H.Host.setting c.args.host.now) 16 c.args.thread.now c.full.new.thread c.full.result _
    c.requires.of (omega (arith, c.if-left-lt16.true, c.left.ensures.left)) c.full.ensures.thread
    c.full.ensures.said

pub returns-clause-step : goal.returns-clause-step
returns-clause-step g c =
    let x = g.H.Host.setting c.args.host.now in
    let l : list_of c.push.new.thread ≡ Initialiser c.args.class c.args.from ∷ list_of c.args.thread.now =
    rw (c.push.ensures.form, c.push.ensures.below)
    (ap (λ fs. Initialiser c.args.class c.args.from ∷ fs) c.base-base.ensures.below) in
    c.begins_initialiser.ensures.step ∙ ap (begins_initialiser x c.args.class) l ∙
    sym (room-yes x 16 (list_of c.args.thread.now) _ c.requires.of
    (omega (arith, c.if-left-lt16.false, c.left.ensures.left)))
