use Rattle.plain_frames.proofs.Kept.{built_in_methods_keep_in}
use Rattle.plain_frames.proofs.native_laws.built_in_methods_keep_in.Goals as goal

pub returns : goal.returns
returns c = built_in_methods_keep_in
