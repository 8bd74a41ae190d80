use Rattle.std.proofs.Common.{◌≡◌, [], ◌∷◌, ◌++◌, length, map, take, slice_index_or, ap, sym, ◌∙◌, subst}
use Rattle.std.proofs.lemmas.List.{map-append, take_more}
use Rattle.graph_walks.specs.Circles.{HasNoCircle}
use Rattle.graph_walks.specs.Order.{firsts, visits_from}
use Rattle.class_set.specs.Tables.{alone}
use Rattle.class_set.proofs.EachOnce.{alone_free, visits_alone}
use Rattle.class_set.proofs.each_once.each_once.Goals as goal

pub loop-next-preserved : goal.loop-next-preserved
loop-next-preserved c =
    let edges = c.args.edges.now in
    let count = length edges in
    let i = c.loop-next.next-index in
    let next = c.as_slice-in-loop-next.result.now in
    let along : c.as_slice.result.now ≡ alone count = c.as_slice.ensures.value ∙ c.in_ok-vertices.ensures in
    let is : c.from_vec.result ≡ firsts c.next-item.result =
    c.from_vec.ensures ∙ c.into_order.ensures
    ∙ c.in_ok-reached.ensures.order (subst HasNoCircle (sym along) (alone_free count))
    ∙ ap (λ es. visits_from es next) along
    ∙ visits_alone count next
    ∙ ap firsts c.as_slice-in-loop-next.ensures in
    c.in_ok-push.ensures.items
    ∙ ap (λ xs. xs ++ c.from_vec.result ∷ []) c.loop-next.invariant
    ∙ ap (λ x. map firsts (take i edges) ++ x ∷ []) (is ∙ ap firsts c.next-item.is)
    ∙ sym (map-append firsts (take i edges) (slice_index_or edges i c.next-item.result ∷ []))
    ∙ ap (map firsts) (sym (take_more edges i c.next-item.result c.loop-next-test.true))
