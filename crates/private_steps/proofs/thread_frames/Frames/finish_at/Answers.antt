use Rattle.std.proofs.Common.{◌≡◌, ◌≤◌, ◌∙◌, length, Some, sym, ap, subst, arith}
use Rattle.frames.specs.declared.program.Program.{Program}
use Rattle.frames.specs.Settings.{Frames}
use Rattle.frames.specs.Calls.{Stepped}
use Rattle.frames.specs.Turns.{turn}
use Rattle.frame_thread.specs.Stacked.{list_of}
use Rattle.frame_thread.specs.Stops.{turned}
use Rattle.private_steps.specs.Ahead.{IsAhead}
use Rattle.private_steps.proofs.Whole.{asked-waits}
use Rattle.private_steps.proofs.Ahead.{same-come}
use Rattle.private_steps.proofs.thread_frames.Frames.finish_at.Goals as goal

pub returns-clause-finishes : goal.returns-clause-finishes
returns-clause-finishes g c old ahead =
    let x = g.H.Host.setting c.args.host.now in
    let here = c.self.inside.thread in
    let new = c.finish-asked.new.thread in
    let p = ap (λ (f : Frames _ _). f.paused) (c.self.view_is ∙ ahead.stands) in
    let a = subst (λ (f : Frames _ _). IsAhead x c.args.stop old f) (sym c.self.view_is) ahead in
    let t : turned (Some c.in-Some.request) new ≡ turn x old =
    ap (λ a. turned a new) (sym c.in-Some.is) ∙ c.finish-asked.ensures.turn
    ∙ same-come x here c.in-Some-Running.standing c.self.inside.paused c.args.stop old a
    (sym c.form.ensures ∙ c.in-Some-Running.is ∙ ap Some c.in-Some-Running.field-0-is) in (
      ap (λ b. let f : Frames _ _ = record { doing = new.doing; frames = list_of new; paused = b } in f) p
          ∙ ap (λ (s : Stepped _ _ _). s.frames) t,
      ap (λ (s : Stepped _ _ _). s.asks) t,
    )

pub returns-clause-waits : goal.returns-clause-waits
returns-clause-waits g c =
    let x = g.H.Host.setting c.args.host.now in
    let n = ap (λ (p : Program _). length p.code) c.program.ensures in
    let few : length x.program.code ≤ 18446744073709551615 = omega (arith, n, c.len-length.ensures) in
    let old = c.requires.ahead.0 in
    let done = returns-clause-finishes g c old c.requires.ahead.1 in
    asked-waits x few old _ c.in-Some.request done.0 done.1
