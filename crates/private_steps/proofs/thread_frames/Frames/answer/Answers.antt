use Rattle.std.proofs.Common.{◌≡◌, ◌∙◌, false, sym, ap}
use Rattle.frames.specs.Settings.{Frames}
use Rattle.frames.specs.Turns.{answered}
use Rattle.frame_thread.specs.declared.said.Said.TheVariants as said
use Rattle.frame_thread.specs.Stacked.{stepped}
use Rattle.private_steps.proofs.Whole.{answer-paused, answer-breaks, answer-other, breaks-none}
use Rattle.private_steps.proofs.thread_frames.Frames.answer.Goals as goal

pub returns-then-self-clause-answer : goal.returns-then-self-clause-answer
returns-then-self-clause-answer g c =
    let p = ap (λ (f : Frames _ _). f.paused) (sym c.self.view_is) ∙ c.if-self.true in
    ap (λ (f : Frames _ _). let n : Frames _ _ = record f { paused = false } in n) c.self.view_is ∙
    sym (answer-paused (g.H.Host.setting c.args.host.now) c.args.self.now c.args.reply.now p)

pub returns-in-Breaks-clause-answer : goal.returns-in-Breaks-clause-answer
returns-in-Breaks-clause-answer g c =
    let x = g.H.Host.setting c.args.host.now in
    let p = ap (λ (f : Frames _ _). f.paused) (sym c.self.view_is) ∙ c.if-self.false in
    let s : stepped (said.Breaks c.in-Breaks.fault) c.answered.new.thread ≡
    answered x c.args.self.now.doing c.args.self.now.frames c.args.reply.now =
    ap (λ t. stepped t c.answered.new.thread) (sym c.in-Breaks.is) ∙ c.answered.ensures.step ∙
    ap (λ (f : Frames _ _). answered x f.doing f.frames c.args.reply.now) c.self.view_is in
    rw (c.set_doing.ensures, c.if-self.false)
    (sym (answer-breaks x c.args.self.now c.args.reply.now c.in-Breaks.fault c.answered.new.thread p s))

pub returns-in_default-clause-answer : goal.returns-in_default-clause-answer
returns-in_default-clause-answer g c =
    let x = g.H.Host.setting c.args.host.now in
    let p = ap (λ (f : Frames _ _). f.paused) (sym c.self.view_is) ∙ c.if-self.false in
    let s : stepped c.answered.result c.answered.new.thread ≡
    answered x c.args.self.now.doing c.args.self.now.frames c.args.reply.now =
    c.answered.ensures.step ∙
    ap (λ (f : Frames _ _). answered x f.doing f.frames c.args.reply.now) c.self.view_is in
    rw c.if-self.false (sym (answer-other x c.args.self.now c.args.reply.now c.answered.result
    c.answered.new.thread p (breaks-none c.answered.result c.in_default.not-Breaks) s))
