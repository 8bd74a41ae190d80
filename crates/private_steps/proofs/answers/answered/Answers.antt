use Rattle.std.proofs.Common.{◌≡◌, ◌∙◌, sym, ap}
use Rattle.frames.specs.Settings.{BeginsMain, Initialises}
use Rattle.frames.specs.Turns.{answered}
use Rattle.frame_thread.specs.Views.{doing_of}
use Rattle.frame_thread.specs.Stacked.{list_of}
use Rattle.private_steps.proofs.answers.answered.Goals as goal

pub returns-in-BeginsMain-clause-step : goal.returns-in-BeginsMain-clause-step
returns-in-BeginsMain-clause-step g c =
    let x = g.H.Host.setting c.args.host.now in
    let t = c.args.thread.now in
    let d : BeginsMain c.in-BeginsMain.field-0 ≡ t.doing = ap doing_of (sym c.in-BeginsMain.is) ∙ c.doing.ensures.doing in
    c.main_answered.ensures.step c.in-BeginsMain.field-0 ∙
    ap (λ d. answered x d (list_of t) c.args.reply.now) d

pub returns-in-Initialises-clause-step : goal.returns-in-Initialises-clause-step
returns-in-Initialises-clause-step g c =
    let x = g.H.Host.setting c.args.host.now in
    let t = c.args.thread.now in
    let d : Initialises c.in-Initialises.field-0 ≡ t.doing = ap doing_of (sym c.in-Initialises.is) ∙ c.doing.ensures.doing in
    c.superclass_answered.ensures.step c.in-Initialises.field-0 ∙
    ap (λ d. answered x d (list_of t) c.args.reply.now) d
