use Rattle.std.proofs.Common.{◌≡◌, ℕ, true, false, List, filter, map, take, sym, ◌∙◌, ap, subst, arith}
use Rattle.std.proofs.lemmas.List.{take_all}
use Rattle.std.proofs.lemmas.Result.{IfOk-weaker}
use Rattle.graph_model.specs.declared.types.Shape.{Shape}
use Rattle.text_table.specs.Sorted.{insert_text, sorted_texts}
use Rattle.class_set.specs.Linked.{Linked}
use Rattle.directories.specs.ClassSets.{AreInOrder}
use Rattle.set_directory.specs.Written.{has_shape, written_names}
use Rattle.set_directory.proofs.Sorted.{sorted_in_order}
use Rattle.set_directory.proofs.Steps.{name_kept, name_left, shapes_named}
use Rattle.set_directory.proofs.names.shape_names.Goals as goal
use Rattle.set_directory.proofs.names.shape_names.Goals.{then-has_shape+in_ok-add, else-has_shape}

pub loop-shape-preserved : goal.loop-shape-preserved
loop-shape-preserved c =
    let set : Linked = c.args.set.now in
    let items = c.shapes-shape-items.result.now in
    let shape : Shape = c.shape-item.result in
    let asked : has_shape set shape.name ≡ c.has_shape.result =
    ap (has_shape set) (sym c.as_slice.ensures.same) ∙ sym c.has_shape.ensures in
    elim c.if-has_shape.branch [
      | then-has_shape+in_ok-add w ↦
          name_kept (has_shape set) items shape c.loop-shape.shape-index c.loop-shape.names c.if-has_shape.names
          c.loop-shape-test.true c.shape-item.is (asked ∙ w.if-has_shape.true)
          (w.names-is ∙ w.in_ok-add.ensures.added
          ∙ ap (λ (t : List ℕ). insert_text c.loop-shape.names t) w.as_slice-then-has_shape.ensures.same)
          c.loop-shape.invariant
      | else-has_shape w ↦
          w.names-is ∙ name_left (has_shape set) items shape c.loop-shape.shape-index c.loop-shape.names
          c.loop-shape-test.true c.shape-item.is (asked ∙ w.if-has_shape.false) c.loop-shape.invariant
    ]

pub listed-requires : goal.listed-requires
listed-requires c = record {
  in_order = subst (λ (ts : List (List ℕ)). AreInOrder ts) (sym c.loop-shape.invariant)
      (sorted_in_order (filter (has_shape c.args.set.now)
      (map (λ (s : Shape). s.name) (take c.loop-shape.shape-index c.shapes-shape-items.result.now))));
}

pub returns-clause-names : goal.returns-clause-names
returns-clause-names c =
    let set : Linked = c.args.set.now in
    let items : List Shape = c.shapes-shape-items.result.now in
    let all : take c.loop-shape.shape-index items ≡ items = take_all c.loop-shape.shape-index items (omega arith) in
    let whole : c.loop-shape.names ≡ written_names set =
    c.loop-shape.invariant
    ∙ ap (λ (ns : List (List ℕ)). sorted_texts (filter (has_shape set) ns))
    (ap (λ (xs : List Shape). map (λ (s : Shape). s.name) xs) (all ∙ c.shapes-shape-items.ensures.shapes) ∙ shapes_named set) in
    IfOk-weaker c.listed.result (λ ts. ts ≡ c.loop-shape.names) (λ ts. ts ≡ written_names set) (λ ts is. is ∙ whole) c.listed.ensures
