use Rattle.std.proofs.Common.{◌≡◌, Some, ap, sym, ◌∙◌}
use Rattle.std.specs.Prelude.{slice_get}
use Rattle.graph_model.specs.declared.types.Shape.{Shape}
use Rattle.plain_model.specs.Facts.{classes_of, shapes_of}
use Rattle.class_set.specs.Linked.{Linked}
use Rattle.class_set.specs.Facts.{facts_of}
use Rattle.class_set.proofs.FieldCounts.{shape_got}
use Rattle.set_types.proofs.types.SetTypesTypes.element.Goals as goal

pub returns : goal.returns
returns c =
    let shape = c.in_ok-shape.field-0.now in
    let found : slice_get (shapes_of (facts_of c.args.self.now)) c.args.class ≡ Some shape =
    sym (c.in_ok-shape.ensures ∙ ap (λ (s : Linked). slice_get (shapes_of (facts_of s)) c.args.class) c.self.view_is) in
    ap (λ (s : Shape). s.element) (shape_got (classes_of (facts_of c.args.self.now)) c.args.class shape found)
