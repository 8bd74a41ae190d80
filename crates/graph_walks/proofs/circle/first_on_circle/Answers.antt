use Rattle.std.proofs.Common.{◌≡◌, ◌<◌, [], length, sym, ◌∙◌, subst, arith, inl, inr}
use Rattle.std.proofs.lemmas.Bool.{cases_eq, false≢true}
use Rattle.std.proofs.lemmas.List.{get_or_read}
use Rattle.graph_walks.specs.Paths.{next_of, Leads, IsReached}
use Rattle.graph_walks.proofs.Paths.{IsReached-from_leads, Leads-from_reached, Leads-within}
use Rattle.graph_walks.proofs.circle.first_on_circle.Goals as goal

pub returns-then-has-clause-found : goal.returns-then-has-clause-found
returns-then-has-clause-found c =
    let edges = c.args.edges.now in
    let v = c.loop-vertex.vertex in
    let there : v < length edges = omega (arith, c.loop-vertex-test.true) in
    let next : c.as_slice.result.now ≡ next_of edges v =
    c.as_slice.ensures ∙ get_or_read edges v c.index-edges-vertex.result there c.index-edges-vertex.is [] in
    let reached : IsReached edges c.as_slice.result.now v = (c.in_ok-from.ensures.exact v).0 (sym c.has-in-loop-vertex.ensures ∙ c.if-has.true) in
    record { circle = Leads-from_reached edges v v (subst (λ ns. IsReached edges ns v) next reached); first = c.loop-vertex.invariant }

pub loop-vertex-preserved : goal.loop-vertex-preserved
loop-vertex-preserved c u l path =
    let edges = c.args.edges.now in
    let v = c.loop-vertex.vertex in
    elim (cases_eq u v) [
      | inr other ↦ c.loop-vertex.invariant u (omega (arith, l, other)) path
      | inl e ↦ (let there : v < length edges = subst (λ k. k < length edges) e (Leads-within edges u u path) in
          let next : c.as_slice.result.now ≡ next_of edges v =
          c.as_slice.ensures ∙ get_or_read edges v c.index-edges-vertex.result there c.index-edges-vertex.is [] in
          let here : Leads edges v v = subst (λ k. Leads edges k k) e path in
          let reached : IsReached edges c.as_slice.result.now v =
          subst (λ ns. IsReached edges ns v) (sym next) (IsReached-from_leads edges v v here) in
          absurd (false≢true (sym (sym c.has-in-loop-vertex.ensures ∙ c.if-has.false) ∙ (c.in_ok-from.ensures.exact v).1 reached)))
    ]
