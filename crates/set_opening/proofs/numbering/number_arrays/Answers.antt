use Rattle.std.proofs.Common.{◌≡◌, ◌+◌, ◌<◌, ℕ, suc, List, ap, ◌∙◌, arith, take, length, slice_index_or}
use Rattle.graph_model.specs.declared.types.Shape.{Shape}
use Rattle.class_set.specs.Linked.{Linked}
use Rattle.set_opening.specs.Arrays.{with_array_of, with_arrays_of}
use Rattle.set_opening.proofs.Arrays.{arrays-more}
use Rattle.set_opening.proofs.numbering.number_arrays.Goals as goal

pub loop-shape-preserved : goal.loop-shape-preserved
loop-shape-preserved c =
    let old : Linked = c.args.set.now in
    let shapes : List Shape = c.args.directory.now.shapes in
    let items : c.shapes-shape-items.result.now ≡ shapes = c.shapes-shape-items.ensures.shapes in
    let i = c.loop-shape.shape-index in
    let item : Shape = c.shape-item.result in
    let here : item ≡ slice_index_or shapes i item =
    c.shape-item.is ∙ ap (λ (all : List Shape). slice_index_or all i item) items in
    let long : length c.shapes-shape-items.result.now ≡ length shapes =
    ap (λ (all : List Shape). length all) items in
    let below : i < length shapes = omega (arith, long, c.loop-shape-test.true) in
    let next : suc i ≡ i + 1 = omega arith in
    c.in_ok-number_array_of.ensures.numbered
    ∙ ap (λ (s : Linked). with_array_of s item) c.loop-shape.invariant
    ∙ ap (λ (x : Shape). with_array_of (with_arrays_of old (take i shapes)) x) here
    ∙ arrays-more old shapes i item below
    ∙ ap (λ (n : ℕ). with_arrays_of old (take n shapes)) next
