use Rattle.std.proofs.Common.{◌≡◌, ◌+◌, ◌<◌, ℕ, List, Option, map, None, slice_index_or, length, ap, sym, ◌∙◌, arith, subst}
use Rattle.std.specs.Prelude.{All}
use Rattle.std.proofs.lemmas.List.{length-map}
use Rattle.graph_walks.specs.Circles.{HasNoCircle}
use Rattle.graph_walks.specs.Order.{firsts, visits}
use Rattle.plain_model.specs.First.{numbers_to}
use Rattle.class_set.specs.Lookups.{class_edges}
use Rattle.class_set.specs.Members.{interface_edges, supers_of}
use Rattle.class_set.specs.Tables.{edges_with, reached_above}
use Rattle.class_set.proofs.Above.{supers_counted}
use Rattle.class_set.proofs.Chains.{chain_within}
use Rattle.class_set.proofs.Circles.{edges_counted, no_class_above_itself}
use Rattle.class_set.proofs.EachOnce.{above_once, once_free, once_there, orders_once}
use Rattle.class_set.proofs.Edges.{edges_apart, edges_within, interfaces_counted, interfaces_free, interfaces_within}
use Rattle.class_set.proofs.Edges.{supers_within}
use Rattle.class_set.proofs.hierarchy.hierarchy.Goals as goal

pub class_edges-requires : goal.class_edges-requires
class_edges-requires c =
    let files = c.args.files.now in
    omega (arith, ap length (c.as_slice.ensures.value ∙ c.in_ok-interfaces.ensures), interfaces_counted files, ap length c.requires.supers, supers_counted files)

pub each_once-requires : goal.each_once-requires
each_once-requires c =
    let same = c.as_slice-2.ensures.value ∙ c.in_ok-interfaces.ensures in
    record {
      there = subst (λ (es : List (List ℕ)). All (λ next. All (λ (v : ℕ). v < length es) next) es) (sym same) (interfaces_within c.args.files.now);
    }

pub types_above-requires-clause-few : goal.types_above-requires-clause-few
types_above-requires-clause-few c = omega (arith, c.requires.few, ap length c.requires.supers, supers_counted c.args.files.now)

pub types_above-requires-clause-there : goal.types_above-requires-clause-there
types_above-requires-clause-there c =
    let files = c.args.files.now in
    let same = c.as_slice-3.ensures.value ∙ c.in_ok-interfaces_once.ensures
    ∙ ap (map firsts) (c.as_slice-2.ensures.value ∙ c.in_ok-interfaces.ensures) in
    subst (λ (es : List (List ℕ)). All (λ next. All (λ (v : ℕ). v < length es) next) es) (sym same)
    (once_there (interface_edges files) (interfaces_within files))

pub types_above-requires-clause-no_circle : goal.types_above-requires-clause-no_circle
types_above-requires-clause-no_circle c =
    let files = c.args.files.now in
    let same = c.as_slice-3.ensures.value ∙ c.in_ok-interfaces_once.ensures
    ∙ ap (map firsts) (c.as_slice-2.ensures.value ∙ c.in_ok-interfaces.ensures) in
    subst HasNoCircle (sym same)
    (once_free (interface_edges files) (interfaces_free files (no_class_above_itself files c.requires.links.no_circle)))

pub types_above-requires-clause-within : goal.types_above-requires-clause-within
types_above-requires-clause-within c = λ n l.
    let files = c.args.files.now in
    let same = c.as_slice-3.ensures.value ∙ c.in_ok-interfaces_once.ensures
    ∙ ap (map firsts) (c.as_slice-2.ensures.value ∙ c.in_ok-interfaces.ensures) in
    let count : length c.as_slice-3.result.now ≡ length files + 28 =
    ap length same ∙ length-map (interface_edges files) firsts ∙ interfaces_counted files in
    let size : length c.args.supers.now ≡ length files + 28 = ap length c.requires.supers ∙ supers_counted files in
    chain_within c.args.supers.now (length c.as_slice-3.result.now) (length c.args.supers.now) n
    (λ k v at. omega (arith, count, supers_within files k v (ap (λ ss. slice_index_or ss k None) (sym c.requires.supers) ∙ at))) (omega (arith, count, size, l))

pub each_once-requires-2 : goal.each_once-requires-2
each_once-requires-2 c =
    let files = c.args.files.now in
    let same = c.as_slice-4.ensures.value ∙ c.in_ok-edges.ensures
    ∙ ap (λ es. edges_with es c.args.supers.now) (c.as_slice.ensures.value ∙ c.in_ok-interfaces.ensures)
    ∙ ap (edges_with (interface_edges files)) c.requires.supers ∙ edges_apart files in
    record {
      there = subst (λ (es : List (List ℕ)). All (λ next. All (λ (v : ℕ). v < length es) next) es) (sym same) (edges_within files);
    }

pub field_orders-requires-clause-few : goal.field_orders-requires-clause-few
field_orders-requires-clause-few c =
    let files = c.args.files.now in
    let same = c.as_slice-5.ensures.value ∙ c.in_ok-edges_once.ensures ∙ ap (map firsts) (c.as_slice-4.ensures.value ∙ c.in_ok-edges.ensures
    ∙ ap (λ es. edges_with es c.args.supers.now) (c.as_slice.ensures.value ∙ c.in_ok-interfaces.ensures)
    ∙ ap (edges_with (interface_edges files)) c.requires.supers ∙ edges_apart files) in
    omega (arith, c.requires.few, ap length same, length-map (class_edges files) firsts, edges_counted files)

pub field_orders-requires-clause-there : goal.field_orders-requires-clause-there
field_orders-requires-clause-there c =
    let files = c.args.files.now in
    let same = c.as_slice-5.ensures.value ∙ c.in_ok-edges_once.ensures ∙ ap (map firsts) (c.as_slice-4.ensures.value ∙ c.in_ok-edges.ensures
    ∙ ap (λ es. edges_with es c.args.supers.now) (c.as_slice.ensures.value ∙ c.in_ok-interfaces.ensures)
    ∙ ap (edges_with (interface_edges files)) c.requires.supers ∙ edges_apart files) in
    subst (λ (es : List (List ℕ)). All (λ next. All (λ (v : ℕ). v < length es) next) es) (sym same)
    (once_there (class_edges files) (edges_within files))

pub field_orders-requires-clause-no_circle : goal.field_orders-requires-clause-no_circle
field_orders-requires-clause-no_circle c =
    let files = c.args.files.now in
    let same = c.as_slice-5.ensures.value ∙ c.in_ok-edges_once.ensures ∙ ap (map firsts) (c.as_slice-4.ensures.value ∙ c.in_ok-edges.ensures
    ∙ ap (λ es. edges_with es c.args.supers.now) (c.as_slice.ensures.value ∙ c.in_ok-interfaces.ensures)
    ∙ ap (edges_with (interface_edges files)) c.requires.supers ∙ edges_apart files) in
    subst HasNoCircle (sym same) (once_free (class_edges files) (no_class_above_itself files c.requires.links.no_circle))

pub returns-clause-orders : goal.returns-clause-orders
returns-clause-orders c =
    let files = c.args.files.now in
    let same = c.as_slice-5.ensures.value ∙ c.in_ok-edges_once.ensures ∙ ap (map firsts) (c.as_slice-4.ensures.value ∙ c.in_ok-edges.ensures
    ∙ ap (λ es. edges_with es c.args.supers.now) (c.as_slice.ensures.value ∙ c.in_ok-interfaces.ensures)
    ∙ ap (edges_with (interface_edges files)) c.requires.supers ∙ edges_apart files) in
    c.in_ok-orders.ensures
    ∙ ap (λ (es : List (List ℕ)). map (visits es) (numbers_to (length es))) same
    ∙ orders_once (class_edges files) (numbers_to (length (map firsts (class_edges files))))
    ∙ ap (λ n. map (visits (class_edges files)) (numbers_to n)) (length-map (class_edges files) firsts ∙ edges_counted files)

pub returns-clause-above : goal.returns-clause-above
returns-clause-above c =
    let files = c.args.files.now in
    let supers = c.args.supers.now in
    let same = c.as_slice-3.ensures.value ∙ c.in_ok-interfaces_once.ensures
    ∙ ap (map firsts) (c.as_slice-2.ensures.value ∙ c.in_ok-interfaces.ensures) in
    c.in_ok-above.ensures
    ∙ ap (λ es. map (reached_above es supers) (numbers_to (length supers))) same
    ∙ above_once (interface_edges files) supers (numbers_to (length supers))
    ∙ ap (λ (ss : List (Option ℕ)). map (reached_above (interface_edges files) ss) (numbers_to (length ss))) c.requires.supers
    ∙ ap (λ n. map (reached_above (interface_edges files) (supers_of files)) (numbers_to n)) (supers_counted files)
