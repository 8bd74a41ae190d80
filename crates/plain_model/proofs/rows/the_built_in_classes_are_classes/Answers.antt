use Rattle.std.proofs.Common.{refl}
use Rattle.plain_model.proofs.BuiltIns.{built_ins_are_classes, built_ins_link, supertypes_are_followed}
use Rattle.plain_model.proofs.rows.the_built_in_classes_are_classes.Goals as goal

pub returns : goal.returns
returns c = record { classes = built_ins_are_classes; table = refl; links = built_ins_link; supertypes = supertypes_are_followed }
