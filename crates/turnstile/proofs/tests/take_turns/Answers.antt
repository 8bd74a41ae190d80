use Rattle.std.proofs.Common.{◌∙◌, ap}
use Rattle.turnstile.specs.Hands.{own_number}
use Rattle.turnstile.proofs.Adds.{adds_since}
use Rattle.turnstile.proofs.tests.take_turns.Goals as goal

pub leave-requires-clause-entries : goal.leave-requires-clause-entries
leave-requires-clause-entries g c κs =
    adds_since _ _ _ _ _ _ _ c.enter-notes.ensures.holding (ap (λ hs. own_number hs) c.enter-notes.ensures.hands ∙ c.loop-what.invariant.2) c.add.ensures.entries
