use Rattle.std.proofs.Common.{ap, sym, ◌∙◌, subst}
use Rattle.std.specs.Prelude.{Contains}
use Rattle.std.proofs.lemmas.List.{append-nil}
use Rattle.graph_walks.specs.Order.{walk, firsts, visits, visits_from}
use Rattle.graph_walks.proofs.Vertices.{Contains-from_has_vertex, has_vertex-from_Contains}
use Rattle.graph_walks.proofs.order.visits.Goals as goal

pub returns-clause-exact : goal.returns-clause-exact
returns-clause-exact c n =
    let order = c.into_order.result.items in
    let reached = c.in_ok-from.field-0.reached in
    let exact = c.in_ok-from.ensures.exact n in (
      λ d. exact.0 (has_vertex-from_Contains reached n (subst (λ ns. Contains ns n) c.into_order.ensures d)),
      λ r. subst (λ ns. Contains ns n) (sym c.into_order.ensures) (Contains-from_has_vertex reached n (exact.1 r)),
    )

pub returns-clause-order : goal.returns-clause-order
unfolding visits visits_from
returns-clause-order c no_circle =
    c.into_order.ensures ∙ c.in_ok-from.ensures.order no_circle ∙ ap firsts (append-nil (walk c.args.edges.now c.args.vertex))
