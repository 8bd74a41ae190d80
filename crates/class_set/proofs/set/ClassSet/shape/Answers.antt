use Rattle.std.proofs.Common.{ap, ◌∙◌}
use Rattle.std.specs.Prelude.{slice_get}
use Rattle.plain_model.specs.Facts.{shapes_of}
use Rattle.class_set.specs.Linked.{Linked}
use Rattle.class_set.specs.Facts.{facts_of}
use Rattle.class_set.proofs.Copied.{copied_get}
use Rattle.class_set.proofs.set.ClassSet.shape.Goals as goal

pub returns : goal.returns
returns c =
    copied_get c.deref.result.now c.args.n c.get.result c.get.ensures.lookup.0 c.get.ensures.lookup.1
    ∙ ap (λ ss. slice_get ss c.args.n) c.deref.ensures.value
    ∙ ap (λ ss. slice_get ss c.args.n) c.self.invariant.1.shapes_listed
    ∙ ap (λ (s : Linked). slice_get (shapes_of (facts_of s)) c.args.n) c.self.view_is
