use Rattle.std.proofs.Common.{◌≡◌, rules, None, replicate}
use Rattle.image_walk.proofs.Placing.{placed_none}
use Rattle.image_walk.proofs.found.FoundObjects.new.Goals as goal

pub invariant_of-result : goal.invariant_of-result
invariant_of-result c =
    let none : c.in_ok-vec.field-0.items ≡ replicate c.args.size None =
    c.in_ok-vec.ensures.items_if_clones_equal (λ y h. search rules) in
    rw (none, c.new.ensures.items) (placed_none c.args.size c.requires)
