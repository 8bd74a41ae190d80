use Rattle.std.proofs.Common.{ap, ◌∙◌}
use Rattle.plain_model.specs.Facts.{shapes_of}
use Rattle.class_set.specs.Linked.{Linked}
use Rattle.class_set.specs.Facts.{facts_of}
use Rattle.class_set.proofs.set.ClassSet.shapes.Goals as goal

pub returns-clause-shapes : goal.returns-clause-shapes
returns-clause-shapes c =
    c.as_slice.ensures.value ∙ c.self.invariant.1.shapes_listed ∙ ap (λ (s : Linked). shapes_of (facts_of s)) c.self.view_is
