use Rattle.kept_lists.proofs.Marking.{goes-on}
use Rattle.kept_lists.proofs.laws.doubts_go_on.Goals as goal

pub returns : goal.returns
returns c = λ first acts a before now s small w. goes-on first acts before now s a.act.thread a.act.at a.named small a.act.op w
