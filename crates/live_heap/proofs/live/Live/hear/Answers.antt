use Rattle.std.proofs.Common.{◌≡◌, ◌+◌, suc, if◌then◌else◌, sym, ap, subst, ◌∙◌, arith}
use Rattle.live_heap.specs.Copies.{IsSoundSeen}
use Rattle.live_heap.specs.Seen.{Seen, seen_after}
use Rattle.live_heap.proofs.Kept.{after_is, seen_after-sound}
use Rattle.live_heap.proofs.live.Live.hear.Goals as goal

pub invariant_of-self-2 : goal.invariant_of-self-2
invariant_of-self-2 c =
    let before : Seen = record {
      heap = c.self.inside.heap;
      durable = c.self.inside.durable.items;
      acts = c.self.inside.acts;
      stores = c.self.inside.stores;
    } in
    let is = after_is before c.args.heard.now c.take_in.new.heap c.take_in.new.durable.items (c.self.inside.acts + 1)
    c.counted-self-inside.result c.in_ok-is_store.ensures.heap c.in_ok-is_store.ensures.durable (omega arith)
    (c.counted-self-inside.ensures
    ∙ ap (λ b. if b then suc c.self.inside.stores else c.self.inside.stores) c.in_ok-is_store.ensures.store) in
    subst IsSoundSeen (sym is) (seen_after-sound before c.args.heard.now c.self.invariant)

pub returns-clause-heard : goal.returns-clause-heard
returns-clause-heard c =
    let before : Seen = record {
      heap = c.self.inside.heap;
      durable = c.self.inside.durable.items;
      acts = c.self.inside.acts;
      stores = c.self.inside.stores;
    } in
    let is = after_is before c.args.heard.now c.take_in.new.heap c.take_in.new.durable.items (c.self.inside.acts + 1)
    c.counted-self-inside.result c.in_ok-is_store.ensures.heap c.in_ok-is_store.ensures.durable (omega arith)
    (c.counted-self-inside.ensures
    ∙ ap (λ b. if b then suc c.self.inside.stores else c.self.inside.stores) c.in_ok-is_store.ensures.store) in
    is ∙ ap (λ s. seen_after s c.args.heard.now) c.self.view_is
