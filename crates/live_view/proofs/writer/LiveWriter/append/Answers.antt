use Rattle.std.proofs.Common.{rules}
use Rattle.live_view.proofs.Watched.{appended_kept}
use Rattle.live_view.proofs.writer.LiveWriter.append.Goals as goal

pub invariant_of-self : goal.invariant_of-self
invariant_of-self g c =
    appended_kept _ _ _ _ _ _ _ _ _ c.in-Some.entry _ c.self.invariant (search rules) (search rules) c.in-Ok.ensures.pending
    c.in-Some.ensures.heard c.in-Some.ensures.front c.again-front.ensures
