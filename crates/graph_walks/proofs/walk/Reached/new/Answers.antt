use Rattle.std.proofs.Common.{◌≡◌, rules, false, replicate}
use Rattle.graph_walks.proofs.Marks.{AreMarked-none}
use Rattle.graph_walks.proofs.walk.Reached.new.Goals as goal

pub invariant_of-result : goal.invariant_of-result
invariant_of-result c =
    let none : c.in_ok-vec.field-0.items ≡ replicate c.args.count false =
    c.in_ok-vec.ensures.items_if_clones_equal (λ y h. search rules) in
    rw (none, c.new.ensures.items) (AreMarked-none c.args.count)
