use Rattle.std.proofs.Common.{List, ap, ◌∙◌}
use Rattle.convert_queue.specs.declared.queue_lists.Entry.{Entry}
use Rattle.convert_queue.specs.Chains.{next_in, nth_from}
use Rattle.convert_queue.proofs.ListLemmas.{get_some, get_none, chain_read}
use Rattle.convert_queue.proofs.queue_lists.QueueLists.get.Goals as goal

pub returns-then-n-chain : goal.returns-then-n-chain
returns-then-n-chain c =
    let entries = c.self.inside.entries.items in
    let chains = c.self.inside.chains.items in
    let free = c.self.inside.free in
    let a = c.self.invariant in
    let is = chain_read chains free c.index-chain.result.now c.args.t a.threads c.requires.thread c.index-chain.ensures in
    record { queued = get_none entries chains free c.index-chain.result.now c.args.t c.args.n c.args.self.now c.self.view_is a c.requires.thread is c.if-n-chain.true }

pub returns : goal.returns
returns c =
    let entries = c.self.inside.entries.items in
    let chains = c.self.inside.chains.items in
    let free = c.self.inside.free in
    let a = c.self.invariant in
    let is = chain_read chains free c.index-chain.result.now c.args.t a.threads c.requires.thread c.index-chain.ensures in
    record {
      queued = get_some entries chains free c.index-chain.result.now c.args.t c.args.n c.entry_at-entry.result c.index.result.now c.args.self.now c.self.view_is a
          c.requires.thread is c.if-n-chain.false
          (c.entry_at-entry.ensures.entry ∙ ap (λ (es : List Entry). nth_from (next_in es) c.args.n c.index-chain.result.now.first) c.deref.ensures.value)
          c.index.ensures;
    }
