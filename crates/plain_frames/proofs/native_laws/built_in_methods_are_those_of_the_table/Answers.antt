use Rattle.plain_frames.proofs.Named.{named, no_others}
use Rattle.plain_frames.proofs.native_laws.built_in_methods_are_those_of_the_table.Goals as goal

pub returns : goal.returns
returns c = record { named = named; others = no_others }
