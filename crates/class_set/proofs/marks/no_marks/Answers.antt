use Rattle.std.proofs.Common.{rules, ◌≡◌, false, replicate}
use Rattle.class_set.proofs.TextsAdded.{none_marked}
use Rattle.class_set.proofs.marks.no_marks.Goals as goal

pub returns : goal.returns
returns c = λ index.
    let none : c.in_ok-marks.marks.items ≡ replicate c.from.result false =
    c.in_ok-marks.ensures.items_if_clones_equal (λ y h. search rules) in
    rw none (none_marked c.from.result index)
