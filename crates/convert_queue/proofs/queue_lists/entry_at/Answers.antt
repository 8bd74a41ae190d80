use Rattle.std.proofs.Common.{ap, sym, ◌∙◌}
use Rattle.convert_queue.specs.Chains.{next_in}
use Rattle.convert_queue.proofs.ChainLemmas.{nth_more}
use Rattle.convert_queue.proofs.queue_lists.entry_at.Goals as goal

pub loop-k-preserved : goal.loop-k-preserved
loop-k-preserved c =
    ap (next_in c.args.entries.now) c.loop-k.invariant ∙ sym (nth_more (next_in c.args.entries.now) c.loop-k.k c.args.chain.first)
