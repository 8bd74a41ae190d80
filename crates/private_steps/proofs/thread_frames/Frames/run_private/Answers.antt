use Rattle.std.proofs.Common.{◌≡◌, ◌≤◌, ◌∙◌, length, Some, None, sym, ap, arith}
use Rattle.frames.specs.declared.program.Program.{Program}
use Rattle.frames.specs.Settings.{Frames}
use Rattle.frames.specs.Calls.{Stepped}
use Rattle.frames.specs.Turns.{turn, turn_of}
use Rattle.frame_thread.specs.Stacked.{list_of, frames_of}
use Rattle.frame_thread.specs.Stops.{turned}
use Rattle.private_steps.proofs.Whole.{turn-paused, turn-runs, asked-waits}
use Rattle.private_steps.proofs.thread_frames.Frames.run_private.Goals as goal

pub returns-then-self-clause-frames : goal.returns-then-self-clause-frames
returns-then-self-clause-frames g c =
    let p = ap (λ (f : Frames _ _). f.paused) (sym c.self.view_is) ∙ c.if-self.true in
    sym (ap (λ (s : Stepped _ _ _). s.frames) (turn-paused (g.H.Host.setting c.args.host.now) c.args.self.now p))

pub returns-then-self-clause-asks : goal.returns-then-self-clause-asks
returns-then-self-clause-asks g c =
    let p = ap (λ (f : Frames _ _). f.paused) (sym c.self.view_is) ∙ c.if-self.true in
    sym (ap (λ (s : Stepped _ _ _). s.asks) (turn-paused (g.H.Host.setting c.args.host.now) c.args.self.now p))

pub returns-in-Some-clause-frames : goal.returns-in-Some-clause-frames
returns-in-Some-clause-frames g c =
    let x = g.H.Host.setting c.args.host.now in
    let old = c.self.inside.thread in
    let new = c.turn.new.thread in
    let p = ap (λ (f : Frames _ _). f.paused) (sym c.self.view_is) ∙ c.if-self.false in
    let w : frames_of old ≡ c.args.self.now =
    ap (λ b. let f : Frames _ _ = record { doing = old.doing; frames = list_of old; paused = b } in f)
    (sym c.if-self.false) ∙ c.self.view_is in
    let t : turned c.turn.result new ≡ turn x c.args.self.now =
    c.turn.ensures.turn ∙ ap (turn_of x 1024) w ∙ sym (turn-runs x c.args.self.now p) in
    let s : turned (Some c.in-Some.request) new ≡ turn x c.args.self.now =
    ap (λ a. turned a new) (sym c.in-Some.is) ∙ t in
    ap (λ b. let f : Frames _ _ = record { doing = new.doing; frames = list_of new; paused = b } in f)
    c.if-self.false ∙ ap (λ (s : Stepped _ _ _). s.frames) s

pub returns-in-Some-clause-asks : goal.returns-in-Some-clause-asks
returns-in-Some-clause-asks g c =
    let x = g.H.Host.setting c.args.host.now in
    let old = c.self.inside.thread in
    let new = c.turn.new.thread in
    let p = ap (λ (f : Frames _ _). f.paused) (sym c.self.view_is) ∙ c.if-self.false in
    let w : frames_of old ≡ c.args.self.now =
    ap (λ b. let f : Frames _ _ = record { doing = old.doing; frames = list_of old; paused = b } in f)
    (sym c.if-self.false) ∙ c.self.view_is in
    let t : turned c.turn.result new ≡ turn x c.args.self.now =
    c.turn.ensures.turn ∙ ap (turn_of x 1024) w ∙ sym (turn-runs x c.args.self.now p) in
    let s : turned (Some c.in-Some.request) new ≡ turn x c.args.self.now =
    ap (λ a. turned a new) (sym c.in-Some.is) ∙ t in
    ap (λ (s : Stepped _ _ _). s.asks) s

pub returns-in-Some-clause-waits : goal.returns-in-Some-clause-waits
returns-in-Some-clause-waits g c =
    let x = g.H.Host.setting c.args.host.now in
    let n = ap (λ (p : Program _). length p.code) c.program.ensures in
    let few : length x.program.code ≤ 18446744073709551615 = omega (arith, n, c.len-length.ensures) in
    asked-waits x few c.args.self.now _ c.in-Some.request (returns-in-Some-clause-frames g c)
    (returns-in-Some-clause-asks g c)

pub returns-in-None-clause-frames : goal.returns-in-None-clause-frames
returns-in-None-clause-frames g c =
    let x = g.H.Host.setting c.args.host.now in
    let old = c.self.inside.thread in
    let new = c.turn.new.thread in
    let p = ap (λ (f : Frames _ _). f.paused) (sym c.self.view_is) ∙ c.if-self.false in
    let w : frames_of old ≡ c.args.self.now =
    ap (λ b. let f : Frames _ _ = record { doing = old.doing; frames = list_of old; paused = b } in f)
    (sym c.if-self.false) ∙ c.self.view_is in
    let t : turned c.turn.result new ≡ turn x c.args.self.now =
    c.turn.ensures.turn ∙ ap (turn_of x 1024) w ∙ sym (turn-runs x c.args.self.now p) in
    let s : turned None new ≡ turn x c.args.self.now = ap (λ a. turned a new) (sym c.in-None.is) ∙ t in
    ap (λ (s : Stepped _ _ _). s.frames) s

pub returns-in-None-clause-asks : goal.returns-in-None-clause-asks
returns-in-None-clause-asks g c =
    let x = g.H.Host.setting c.args.host.now in
    let old = c.self.inside.thread in
    let new = c.turn.new.thread in
    let p = ap (λ (f : Frames _ _). f.paused) (sym c.self.view_is) ∙ c.if-self.false in
    let w : frames_of old ≡ c.args.self.now =
    ap (λ b. let f : Frames _ _ = record { doing = old.doing; frames = list_of old; paused = b } in f)
    (sym c.if-self.false) ∙ c.self.view_is in
    let t : turned c.turn.result new ≡ turn x c.args.self.now =
    c.turn.ensures.turn ∙ ap (turn_of x 1024) w ∙ sym (turn-runs x c.args.self.now p) in
    let s : turned None new ≡ turn x c.args.self.now = ap (λ a. turned a new) (sym c.in-None.is) ∙ t in
    ap (λ (s : Stepped _ _ _). s.asks) s
