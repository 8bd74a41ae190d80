use Rattle.std.proofs.Common.{◌≡◌, ◌<◌, [], length, ap, sym, ◌∙◌, arith}
use Rattle.std.specs.Prelude.{reverse}
use Rattle.std.proofs.lemmas.Bool.{false≢true}
use Rattle.std.proofs.lemmas.List.{get_or_read}
use Rattle.graph_walks.proofs.Lists.{no_items}
use Rattle.graph_walks.specs.Paths.{next_of}
use Rattle.graph_walks.proofs.Walks.{IsAcyclic-from}
use Rattle.graph_walks.proofs.Walking.{IsWalk-past, IsWalk-on, IsWalk-end, pending_there, IsInOrder-past, IsInOrder-on}
use Rattle.graph_walks.proofs.Walking.{IsInOrder-end, popped, work_left-on}
use Rattle.graph_walks.proofs.walk.Reached.from.Goals as goal

pub has-requires : goal.has-requires
has-requires c =
    let below = pending_there c.args.edges.now c.args.starts.now c.requires.there c.requires.starts c.loop-vertex.reached.reached
    c.loop-vertex.pending.items c.pop.new.self.items c.in-Some.vertex c.loop-vertex.invariant.walk c.in-Some.ensures.items in
    omega (arith, c.loop-vertex.invariant.count, below)

pub add-requires-clause-within : goal.add-requires-clause-within
add-requires-clause-within c =
    let below = pending_there c.args.edges.now c.args.starts.now c.requires.there c.requires.starts c.loop-vertex.reached.reached
    c.loop-vertex.pending.items c.pop.new.self.items c.in-Some.vertex c.loop-vertex.invariant.walk c.in-Some.ensures.items in
    omega (arith, c.loop-vertex.invariant.count, below)

pub bounds-edges-vertex : goal.bounds-edges-vertex
bounds-edges-vertex c =
    pending_there c.args.edges.now c.args.starts.now c.requires.there c.requires.starts c.loop-vertex.reached.reached
    c.loop-vertex.pending.items c.pop.new.self.items c.in-Some.vertex c.loop-vertex.invariant.walk c.in-Some.ensures.items

pub loop-vertex-smaller-in-Continue-branch-4 : goal.loop-vertex-smaller-in-Continue-branch-4
loop-vertex-smaller-in-Continue-branch-4 c =
    let edges = c.args.edges.now in
    let reached = c.loop-vertex.reached.reached in
    let v = c.in-Some.vertex in
    let below = pending_there edges c.args.starts.now c.requires.there c.requires.starts reached
    c.loop-vertex.pending.items c.pop.new.self.items v c.loop-vertex.invariant.walk c.in-Some.ensures.items in
    let next : c.index-edges-vertex.result ≡ next_of edges v =
    get_or_read edges v c.index-edges-vertex.result below c.index-edges-vertex.is [] in
    let room : length reached < length edges = omega (arith, c.in_ok-add.ensures.room, c.loop-vertex.invariant.count) in
    rw (
      c.in_ok-push_reversed-2.ensures,
      c.as_slice.ensures,
      next,
      c.in_ok-add.ensures.added,
      popped c.loop-vertex.pending.items c.pop.new.self.items v c.in-Some.ensures.items,
    )
    (work_left-on edges reached v (reverse c.pop.new.self.items) below room)

pub loop-vertex-preserved-in-Continue-branch-4 : goal.loop-vertex-preserved-in-Continue-branch-4
loop-vertex-preserved-in-Continue-branch-4 c =
    let edges = c.args.edges.now in
    let starts = c.args.starts.now in
    let reached = c.loop-vertex.reached.reached in
    let v = c.in-Some.vertex in
    let rest = reverse c.pop.new.self.items in
    let at = popped c.loop-vertex.pending.items c.pop.new.self.items v c.in-Some.ensures.items in
    let below = pending_there edges starts c.requires.there c.requires.starts reached
    c.loop-vertex.pending.items c.pop.new.self.items v c.loop-vertex.invariant.walk c.in-Some.ensures.items in
    let next : c.index-edges-vertex.result ≡ next_of edges v =
    get_or_read edges v c.index-edges-vertex.result below c.index-edges-vertex.is [] in
    let new = sym c.has.ensures ∙ c.if-not-has.true in
    rw (c.in_ok-push_reversed-2.ensures, c.as_slice.ensures, next, c.in_ok-add.ensures.added) (record {
      walk = IsWalk-on edges starts reached v rest (rw at at c.loop-vertex.invariant.walk);
      order = λ graph. IsInOrder-on edges starts graph reached v rest below new (rw at at c.loop-vertex.invariant.order graph);
      count = c.in_ok-add.ensures.count ∙ c.loop-vertex.invariant.count;
    })

pub loop-vertex-preserved : goal.loop-vertex-preserved
loop-vertex-preserved c =
    let edges = c.args.edges.now in
    let starts = c.args.starts.now in
    let reached = c.loop-vertex.reached.reached in
    let v = c.in-Some.vertex in
    let rest = reverse c.pop.new.self.items in
    let at = popped c.loop-vertex.pending.items c.pop.new.self.items v c.in-Some.ensures.items in
    let old = sym c.has.ensures ∙ c.if-not-has.false in
    record {
      walk = IsWalk-past edges starts reached v rest old (rw at at c.loop-vertex.invariant.walk);
      order = λ graph. IsInOrder-past edges starts graph reached v rest old (rw at at c.loop-vertex.invariant.order graph);
      count = c.loop-vertex.invariant.count;
    }

pub returns-clause-exact : goal.returns-clause-exact
returns-clause-exact c =
    let none : reverse c.loop-vertex.pending.items ≡ [] = ap reverse (no_items c.loop-vertex.pending.items
    (λ l. false≢true (c.in_default.ensures.variant.1 (omega (arith, c.loop-vertex.pending.ok.0, l))))) in
    IsWalk-end c.args.edges.now c.args.starts.now c.loop-vertex.reached.reached (rw none at c.loop-vertex.invariant.walk)

pub returns-clause-order : goal.returns-clause-order
returns-clause-order c no_circle =
    let graph = IsAcyclic-from c.args.edges.now c.requires.there no_circle in
    let none : reverse c.loop-vertex.pending.items ≡ [] = ap reverse (no_items c.loop-vertex.pending.items
    (λ l. false≢true (c.in_default.ensures.variant.1 (omega (arith, c.loop-vertex.pending.ok.0, l))))) in
    IsInOrder-end c.args.edges.now c.args.starts.now c.loop-vertex.reached.reached (rw none at c.loop-vertex.invariant.order graph)
