use Rattle.std.proofs.Common.{List, ap, ◌∙◌}
use Rattle.convert_queue.specs.declared.queue_lists.Entry.{Entry}
use Rattle.convert_queue.specs.Chains.{next_in, nth_from}
use Rattle.convert_queue.proofs.ListLemmas.{moved_done, chain_read}
use Rattle.convert_queue.proofs.queue_lists.QueueLists.move_to.Goals as goal

pub invariant_of-self : goal.invariant_of-self
invariant_of-self c =
    let entries = c.self.inside.entries.items in
    let chains = c.self.inside.chains.items in
    let free = c.self.inside.free in
    let a = c.self.invariant in
    let is = chain_read chains free c.index.result.now c.args.t a.threads c.requires.thread c.index.ensures in
    let done = moved_done entries chains free c.index.result.now c.moved.result c.args.t c.args.n a c.requires.thread is c.moved.ensures.chain
    (λ less. c.moved.ensures.cursor less ∙ ap (λ (es : List Entry). nth_from (next_in es) c.args.n c.index.result.now.first) c.deref.ensures.value) in
    done.0

pub returns : goal.returns
returns c =
    let entries = c.self.inside.entries.items in
    let chains = c.self.inside.chains.items in
    let free = c.self.inside.free in
    let a = c.self.invariant in
    let is = chain_read chains free c.index.result.now c.args.t a.threads c.requires.thread c.index.ensures in
    let done = moved_done entries chains free c.index.result.now c.moved.result c.args.t c.args.n a c.requires.thread is c.moved.ensures.chain
    (λ less. c.moved.ensures.cursor less ∙ ap (λ (es : List Entry). nth_from (next_in es) c.args.n c.index.result.now.first) c.deref.ensures.value) in
    record { same = done.1 ∙ c.self.view_is }
