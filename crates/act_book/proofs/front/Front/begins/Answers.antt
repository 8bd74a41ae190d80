use Rattle.std.proofs.Common.{◌≤◌, ap, subst, length, List}
use mathlib.Core.List.{IsPrefix}
use Rattle.run_history.specs.Recorded.{Recorded}
use Rattle.act_book.proofs.Fronts.{prefix_shorter}
use Rattle.act_book.proofs.front.Front.begins.Goals as goal

pub returns : goal.returns
returns c =
    let both = c.learn.new.self.log in
    let this : IsPrefix c.self.inside.seen.log both =
    subst (λ (l : List Recorded). IsPrefix l both) (ap (λ s. s.log) c.again-both.ensures) c.learn.ensures.2 in
    let short : length c.self.inside.seen.log ≤ length c.other.inside.seen.log =
    rw (← c.self.view_is, ← c.other.view_is) at c.requires.shorter in
    rw (← c.self.view_is, ← c.other.view_is)
    (prefix_shorter c.self.inside.seen.log c.other.inside.seen.log both this c.learn.ensures.3 short)
