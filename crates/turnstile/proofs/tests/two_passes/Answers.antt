use Rattle.std.proofs.Common.{◌∙◌, ap}
use Rattle.turnstile.specs.Hands.{own_number}
use Rattle.turnstile.proofs.Adds.{two_stock, two_first, two_second}
use Rattle.turnstile.proofs.tests.two_passes.Goals as goal

pub split-second-requires-clause-stock : goal.split-second-requires-clause-stock
split-second-requires-clause-stock c κs = two_stock _ _ c.in-Ok.ensures.hands c.requires.parts

pub returns-clause-first : goal.returns-clause-first
returns-clause-first c = ap (λ hs. own_number hs) c.split-second.ensures.old ∙ two_first _ _ c.in-Ok.ensures.hands c.requires.parts

pub returns-clause-second : goal.returns-clause-second
returns-clause-second c = ap (λ hs. own_number hs) c.split-second.ensures.new ∙ two_second _ _ c.in-Ok.ensures.hands c.requires.parts
