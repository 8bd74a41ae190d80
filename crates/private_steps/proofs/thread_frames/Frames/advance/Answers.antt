use Rattle.std.proofs.Common.{◌≡◌, ◌∙◌, sym, ap, subst}
use Rattle.frames.specs.Settings.{Frames}
use Rattle.frames.specs.Turns.{turn, turn_of}
use Rattle.frame_thread.specs.Stacked.{list_of, frames_of}
use Rattle.private_steps.specs.Ahead.{ComesOn}
use Rattle.private_steps.proofs.Whole.{turn-paused, turn-runs}
use Rattle.private_steps.proofs.thread_frames.Frames.advance.Goals as goal

pub returns-then-self-clause-come : goal.returns-then-self-clause-come
returns-then-self-clause-come g c =
    let p = ap (λ (f : Frames _ _). f.paused) (sym c.self.view_is) ∙ c.if-self.true in
    (p, turn-paused (g.H.Host.setting c.args.host.now) c.args.self.now p)

pub returns-clause-come : goal.returns-clause-come
returns-clause-come g c =
    let x = g.H.Host.setting c.args.host.now in
    let old = c.self.inside.thread in
    let new = c.advance.new.thread in
    let p = ap (λ (f : Frames _ _). f.paused) (sym c.self.view_is) ∙ c.if-self.false in
    let w : frames_of old ≡ c.args.self.now =
    ap (λ b. let f : Frames _ _ = record { doing = old.doing; frames = list_of old; paused = b } in f)
    (sym c.if-self.false) ∙ c.self.view_is in
    let whole : turn_of x 1024 (frames_of old) ≡ turn x c.args.self.now =
    ap (turn_of x 1024) w ∙ sym (turn-runs x c.args.self.now p) in
    subst (λ b. let f : Frames _ _ = record { doing = new.doing; frames = list_of new; paused = b } in
    ComesOn x c.advance.result (turn x c.args.self.now) f) (sym c.if-self.false)
    (subst (λ s. ComesOn x c.advance.result s (frames_of new)) whole c.advance.ensures.comes)
