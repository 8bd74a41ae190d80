use Rattle.std.proofs.Common.{arith}
use mathlib.Core.Option.{none}
use Rattle.atomic_table.specs.Table.{step}
use Rattle.turnstile.proofs.Moves.{look_allows}
use Rattle.turnstile.proofs.turnstile.Turnstile.look.Goals as goal

pub load-requires : goal.load-requires
load-requires g c =
    let words = c.args.self.now.two_words in
    (c.requires.of, omega arith, look_allows g.T.Kept.worker g.T.Kept.entries g.T.Kept.parts _ _ _ _ (step 1 1 0 0 none) c.requires.waits)
