use Rattle.std.proofs.Common.{ℕ, ◌≡◌, ◌<◌, List, [], length, arith, sym, subst, ap, ◌∙◌, slice_set}
use Rattle.convert_queue.specs.declared.queue_lists.Chain.{Chain}
use Rattle.convert_queue.specs.Chains.{chain_at, Lists}
use Rattle.convert_queue.proofs.ListLemmas.{release_done, empty_view, last_within, chain_read, lists_of}
use Rattle.convert_queue.proofs.queue_lists.QueueLists.release.Goals as goal

pub returns-then-chain-eq0 : goal.returns-then-chain-eq0
returns-then-chain-eq0 c =
    let entries = c.self.inside.entries.items in
    let chains = c.self.inside.chains.items in
    let free = c.self.inside.free in
    let a = c.self.invariant in
    let is = chain_read chains free c.index-chain.result.now c.args.t a.threads c.requires.thread c.index-chain.ensures in
    let none : (chain_at chains free c.args.t).count ≡ 0 = subst (λ (k : Chain). k.count ≡ 0) is c.if-chain-eq0.true in
    record {
      emptied = sym c.self.view_is
          ∙ ap (λ (q : List (List (ℕ × ℕ))). lists_of q (length entries)) (empty_view entries chains free c.args.t (omega (arith, a.threads, c.requires.thread)) none)
          ∙ ap (λ (l : Lists). lists_of (slice_set l.queues c.args.t []) l.size) c.self.view_is;
    }

pub set_next-requires : goal.set_next-requires
set_next-requires c =
    let entries = c.self.inside.entries.items in
    let chains = c.self.inside.chains.items in
    let free = c.self.inside.free in
    let a = c.self.invariant in
    let is = chain_read chains free c.index-chain.result.now c.args.t a.threads c.requires.thread c.index-chain.ensures in
    let some : 0 < (chain_at chains free c.args.t).count = subst (λ (k : Chain). 0 < k.count) is (omega (arith, c.if-chain-eq0.false)) in
    record { there = subst (λ (k : Chain). k.last < length entries) (sym is) (last_within entries chains free c.args.t a c.requires.thread some) }

pub invariant_of-self : goal.invariant_of-self
invariant_of-self c =
    let entries = c.self.inside.entries.items in
    let chains = c.self.inside.chains.items in
    let free = c.self.inside.free in
    let a = c.self.invariant in
    let is = chain_read chains free c.index-chain.result.now c.args.t a.threads c.requires.thread c.index-chain.ensures in
    let done = release_done entries c.set_next.new.entries.items chains free c.index-chain.result.now c.args.t a c.requires.thread is
    (omega (arith, c.if-chain-eq0.false)) c.set_next.ensures.entries in
    done.0

pub returns : goal.returns
returns c =
    let entries = c.self.inside.entries.items in
    let chains = c.self.inside.chains.items in
    let free = c.self.inside.free in
    let a = c.self.invariant in
    let is = chain_read chains free c.index-chain.result.now c.args.t a.threads c.requires.thread c.index-chain.ensures in
    let done = release_done entries c.set_next.new.entries.items chains free c.index-chain.result.now c.args.t a c.requires.thread is
    (omega (arith, c.if-chain-eq0.false)) c.set_next.ensures.entries in
    record { emptied = done.1 ∙ ap (λ (l : Lists). lists_of (slice_set l.queues c.args.t []) l.size) c.self.view_is }
