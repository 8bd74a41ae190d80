use Rattle.std.proofs.Common.{◌≡◌, ◌≤◌, ◌∙◌, length, Some, sym, ap, arith}
use Rattle.frames.specs.declared.program.Program.{Program}
use Rattle.frames.specs.Settings.{Frames}
use Rattle.frames.specs.Calls.{Stepped}
use Rattle.frames.specs.Turns.{turn}
use Rattle.frame_thread.specs.Views.{request_said}
use Rattle.frame_thread.specs.Stacked.{list_of, frames_of}
use Rattle.frame_thread.specs.Stops.{turned}
use Rattle.private_steps.specs.Turning.{asked_or_left}
use Rattle.private_steps.proofs.Whole.{asked-waits}
use Rattle.private_steps.proofs.thread_frames.Frames.finish_gone.Goals as goal

pub returns-clause-finishes : goal.returns-clause-finishes
returns-clause-finishes g c old come =
    let x = g.H.Host.setting c.args.host.now in
    let here = c.self.inside.thread in
    let new = c.go_on-asked.new.thread in
    let p = ap (λ (f : Frames _ _). f.paused) c.self.view_is ∙ come.0 in
    let w : frames_of here ≡ c.args.self.now =
    ap (λ b. let f : Frames _ _ = record { doing = here.doing; frames = list_of here; paused = b } in f) (sym p)
    ∙ c.self.view_is in
    let t : turned (Some c.in-Some.request) new ≡ turn x old =
    ap (λ a. turned a new) (sym c.in-Some.is) ∙ c.go_on-asked.ensures.turn
    ∙ ap (asked_or_left x (request_said c.args.said) c.args.left) w ∙ come.1 in (
      ap (λ b. let f : Frames _ _ = record { doing = new.doing; frames = list_of new; paused = b } in f) p
          ∙ ap (λ (s : Stepped _ _ _). s.frames) t,
      ap (λ (s : Stepped _ _ _). s.asks) t,
    )

pub returns-clause-waits : goal.returns-clause-waits
returns-clause-waits g c =
    let x = g.H.Host.setting c.args.host.now in
    let n = ap (λ (p : Program _). length p.code) c.program.ensures in
    let few : length x.program.code ≤ 18446744073709551615 = omega (arith, n, c.len-length.ensures) in
    let old = c.requires.gone.0 in
    let done = returns-clause-finishes g c old c.requires.gone.1 in
    asked-waits x few old _ c.in-Some.request done.0 done.1
