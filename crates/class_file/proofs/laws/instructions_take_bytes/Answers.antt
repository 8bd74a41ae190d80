use Rattle.class_file.proofs.Sizes.{ops_within}
use Rattle.class_file.proofs.laws.instructions_take_bytes.Goals as goal

pub returns : goal.returns
returns c = ops_within
