use Rattle.std.proofs.Common.{◌∙◌, ap, refl}
use Rattle.run_history.specs.declared.act.Act.{Act}
use Rattle.turnstile.specs.Passes.{number_of, phase_of}
use Rattle.turnstile.proofs.Adds.{adds_none, adds_since}
use Rattle.workers.specs.Shared.{Desked}
use Rattle.workers.proofs.seat.Seat+K+J+S+Desk+J+I+S+W.end_round.Goals as goal

pub leave-requires-clause-entries : goal.leave-requires-clause-entries
leave-requires-clause-entries g c κs within =
    let found = c.enter-desk.result.locked.value in
    let n = number_of c.enter-desk.new.pass in
    adds_since (λ (a : Act). a.thread) (phase_of c.enter-desk.new.pass) found.entries found.noted n n _ c.enter-desk.ensures.holding refl
    (adds_none (λ (a : Act). a.thread) n found.entries _ (ap (λ (d : Desked). d.entries) (c.end_round.ensures.same ∙ c.deref_mut.ensures.value)))
