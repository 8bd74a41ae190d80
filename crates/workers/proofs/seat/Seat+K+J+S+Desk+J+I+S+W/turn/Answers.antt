use Rattle.turnstile.specs.Passes.{turnstile_id}
use Rattle.workers.proofs.Seating.{sits-again}
use Rattle.workers.proofs.seat.Seat+K+J+S+Desk+J+I+S+W.turn.Goals as goal

pub invariant_of-self : goal.invariant_of-self
invariant_of-self g c =
    let s = c.self.inside in
    let lives = c.after-self-inside.ensures.lives in
    sits-again g.K.Sharing.turnstile g.J.Naming.entry s.thread s.pass c.enter-desk.new.pass c.leave.new.pass s.frames
    c.step-told.new.frames s.stage c.after-self-inside.result (turnstile_id c.args.hall.now.turnstile.now) c.step-told.new.self.noted
    c.self.invariant c.args.hall.now.named c.enter-desk.ensures.hands c.leave.ensures.of c.leave.ensures.idle c.leave.ensures.number
    c.leave.ensures.part (λ has. c.step-told.ensures.noted (lives (c.after-self-inside.ensures.seen has)))
    (λ runs. c.step-told.ensures.program (lives runs))
