use Rattle.image_layout.proofs.Filled.{filled}
use Rattle.image_layout.proofs.laws.parts_fill_the_lines.Goals as goal

pub returns : goal.returns
returns c = filled
