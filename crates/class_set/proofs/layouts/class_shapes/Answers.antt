use Rattle.std.proofs.Common.{◌++◌, map, ap, sym, ◌∙◌}
use Rattle.plain_model.specs.Classes.{ClassFacts}
use Rattle.plain_model.specs.BuiltIn.{built_in_classes}
use Rattle.class_set.proofs.Shaped.{shapes_named}
use Rattle.class_set.proofs.layouts.class_shapes.Goals as goal

pub returns : goal.returns
returns c =
    c.in_ok-add_built_in_shapes.ensures
    ∙ ap (λ ss. ss ++ map (λ (k : ClassFacts). k.shape) (built_in_classes 0)) c.in_ok-shapes.ensures
    ∙ sym (shapes_named c.args.files.now)
