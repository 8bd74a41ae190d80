use Rattle.std.proofs.Common.{refl}
use Rattle.built_in_table.specs.Members.{built_in_members, built_in_names, built_in_supers, built_in_interfaces}
use Rattle.built_in_table.proofs.built_in.built_in_classes.Goals as goal

pub returns : goal.returns
unfolding built_in_members built_in_names built_in_supers built_in_interfaces
returns c = record { names = refl; supers = λ first. refl; interfaces = λ first. refl; kinds = refl; shapes = refl; members = refl }
