use Rattle.std.proofs.Common.{arith}
use Rattle.turnstile.proofs.Ends.{splits}
use Rattle.turnstile.proofs.turnstile.Turnstile.split.Goals as goal

pub split_seat-seat-requires : goal.split_seat-seat-requires
split_seat-seat-requires g c =
    let words = c.args.self.now.two_words in
    (c.requires.of, omega arith, splits g.T.Kept.worker g.T.Kept.entries g.T.Kept.parts _ _ _ c.requires.idle)
