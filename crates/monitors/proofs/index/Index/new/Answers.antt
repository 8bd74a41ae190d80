use Rattle.monitors.proofs.Indexing.{index_none}
use Rattle.monitors.proofs.index.Index.new.Goals as goal

pub returns : goal.returns
returns c = record { none = index_none _ _ (c.in_ok-vec.ensures.items_if_clones_equal (λ y e. e)) (c.in_ok-vec-2.ensures.items_if_clones_equal (λ y e. e)) }
