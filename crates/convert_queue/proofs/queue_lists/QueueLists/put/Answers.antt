use Rattle.std.proofs.Common.{◌≡◌, ◌<◌, ◌-◌, length, arith, sym, subst, ap, ◌∙◌, slice_set}
use Rattle.std.proofs.lemmas.List.{length-set, get_or_default}
use Rattle.convert_queue.specs.declared.queue_lists.Entry.{Entry}
use Rattle.convert_queue.specs.declared.queue_lists.Chain.{Chain}
use Rattle.convert_queue.specs.Queues.{queue_in}
use Rattle.convert_queue.specs.Chains.{AreLists, queue_from, next_in, no_entry, Lists}
use Rattle.convert_queue.proofs.ListLemmas.{put_done, some_free, first_free, last_within, count_below, chain_read, lists_of}
use Rattle.std.proofs.Common.{map, ◌++◌, ◌∷◌, []}
use Rattle.convert_queue.proofs.queue_lists.QueueLists.put.Goals as goal

pub index-requires : goal.index-requires
index-requires c =
    let a = c.self.invariant in
    let lt = first_free c.self.inside.entries.items c.self.inside.chains.items c.self.inside.free a
    (some_free c.self.inside.entries.items c.self.inside.chains.items c.self.inside.free c.args.self.now c.self.view_is a c.requires.room) in
    omega (arith, lt)

pub overflow_sub-self : goal.overflow_sub-self
overflow_sub-self c =
    some_free c.self.inside.entries.items c.self.inside.chains.items c.self.inside.free c.args.self.now c.self.view_is c.self.invariant c.requires.room

pub index_mut-requires : goal.index_mut-requires
index_mut-requires c =
    let a = c.self.invariant in
    let lt = first_free c.self.inside.entries.items c.self.inside.chains.items c.self.inside.free a
    (some_free c.self.inside.entries.items c.self.inside.chains.items c.self.inside.free c.args.self.now c.self.view_is a c.requires.room) in
    omega (arith, lt)

pub link-requires-clause-there : goal.link-requires-clause-there
link-requires-clause-there c = λ some.
    let entries = c.self.inside.entries.items in
    let chains = c.self.inside.chains.items in
    let free = c.self.inside.free in
    let x : Entry = record { object = c.args.object; line = c.args.line; next = free.first } in
    let is = chain_read chains free c.index-chain.result.now c.args.t c.self.invariant.threads c.requires.thread c.index-chain.ensures in
    let lt = last_within entries chains free c.args.t c.self.invariant c.requires.thread (subst (λ (k : Chain). 0 < k.count) is some) in
    let lt' : c.index-chain.result.now.last < length entries = subst (λ (k : Chain). k.last < length entries) (sym is) lt in
    omega (arith, lt', length-set entries free.first x)

pub link-requires-clause-few : goal.link-requires-clause-few
link-requires-clause-few c =
    let entries = c.self.inside.entries.items in
    let chains = c.self.inside.chains.items in
    let free = c.self.inside.free in
    let a = c.self.invariant in
    let is = chain_read chains free c.index-chain.result.now c.args.t a.threads c.requires.thread c.index-chain.ensures in
    let some = some_free entries chains free c.args.self.now c.self.view_is a c.requires.room in
    let less = count_below chains c.args.t free (omega (arith, a.threads, c.requires.thread)) in
    subst (λ (k : Chain). k.count < 4294967295) (sym is) (omega (arith, less, some, a.total, a.few))

pub invariant_of-self : goal.invariant_of-self
invariant_of-self c =
    let entries = c.self.inside.entries.items in
    let chains = c.self.inside.chains.items in
    let free = c.self.inside.free in
    let a = c.self.invariant in
    let some = some_free entries chains free c.args.self.now c.self.view_is a c.requires.room in
    let is = chain_read chains free c.index-chain.result.now c.args.t a.threads c.requires.thread c.index-chain.ensures in
    let next : c.index.result.now.next ≡ next_in entries free.first =
    ap (λ (e : Entry). e.next) (c.index.ensures ∙ get_or_default entries free.first c.index.result.now no_entry (first_free entries chains free a some)) in
    subst (λ (k : Chain). AreLists c.link.new.entries.items (slice_set chains c.args.t k) (record free { first = c.index.result.now.next; count = free.count - 1 }))
    (sym c.link.ensures.chain)
    (put_done entries c.link.new.entries.items chains free c.index-chain.result.now c.args.t c.args.object c.args.line c.index.result.now.next
    a c.requires.thread some is next c.link.ensures.entries).0

pub returns : goal.returns
returns c =
    let entries = c.self.inside.entries.items in
    let chains = c.self.inside.chains.items in
    let free = c.self.inside.free in
    let a = c.self.invariant in
    let some = some_free entries chains free c.args.self.now c.self.view_is a c.requires.room in
    let is = chain_read chains free c.index-chain.result.now c.args.t a.threads c.requires.thread c.index-chain.ensures in
    let next : c.index.result.now.next ≡ next_in entries free.first =
    ap (λ (e : Entry). e.next) (c.index.ensures ∙ get_or_default entries free.first c.index.result.now no_entry (first_free entries chains free a some)) in
    record {
      put = ap (λ (k : Chain). lists_of (map (queue_from c.link.new.entries.items) (slice_set chains c.args.t k)) (length c.link.new.entries.items)) c.link.ensures.chain
          ∙ (put_done entries c.link.new.entries.items chains free c.index-chain.result.now c.args.t c.args.object c.args.line c.index.result.now.next
          a c.requires.thread some is next c.link.ensures.entries).1
          ∙ ap (λ (l : Lists). lists_of (slice_set l.queues c.args.t (queue_in l.queues c.args.t ++ (c.args.object, c.args.line) ∷ [])) l.size) c.self.view_is;
    }
