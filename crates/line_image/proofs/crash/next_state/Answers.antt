use Rattle.line_image.proofs.Generator.{next_state_lem}
use Rattle.line_image.proofs.crash.next_state.Goals as goal

pub returns : goal.returns
returns c = next_state_lem c.args.state
