use Rattle.std.proofs.Common.{◌≡◌, subst}
use Rattle.class_set.specs.Facts.{facts_of}
use Rattle.plain_model.specs.Facts.{element_of}
use Rattle.space_rows.proofs.classes.ClassesTypes.element.Goals as goal

pub returns : goal.returns
returns c = subst (λ t. c.element.result ≡ element_of (facts_of t) c.args.class) c.of.ensures.types c.element.ensures
