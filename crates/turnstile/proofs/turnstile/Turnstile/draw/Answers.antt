use Rattle.std.proofs.Common.{arith}
use mathlib.Core.Option.{none}
use Rattle.atomic_table.specs.Table.{step}
use Rattle.turnstile.proofs.Moves.{draw_allows}
use Rattle.turnstile.proofs.turnstile.Turnstile.draw.Goals as goal

pub fetch_add-requires : goal.fetch_add-requires
fetch_add-requires g c =
    let words = c.args.self.now.two_words in
    (c.requires.of, omega arith, draw_allows g.T.Kept.worker g.T.Kept.entries g.T.Kept.parts _ _ _ _ (step 1 0 1 0 none) c.requires.idle c.requires.some)
