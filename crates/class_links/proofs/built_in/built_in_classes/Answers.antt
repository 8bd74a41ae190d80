use Rattle.std.proofs.Common.{refl}
use Rattle.class_links.specs.Names.{built_in}
use Rattle.class_links.proofs.built_in.built_in_classes.Goals as goal

pub returns : goal.returns
unfolding built_in
returns c = refl
