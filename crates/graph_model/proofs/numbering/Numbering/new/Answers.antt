use Rattle.std.proofs.Common.{◌≡◌, rules, None, replicate}
use Rattle.graph_model.proofs.Placed.{IsPlaced-none}
use Rattle.graph_model.proofs.numbering.Numbering.new.Goals as goal

pub invariant_of-result : goal.invariant_of-result
invariant_of-result c =
    let none : c.in_ok-vec.field-0.items ≡ replicate c.args.objects None =
    c.in_ok-vec.ensures.items_if_clones_equal (λ y h. search rules) in
    rw (none, c.new.ensures.items) (IsPlaced-none c.args.objects c.requires)
