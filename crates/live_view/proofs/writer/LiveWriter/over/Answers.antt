use Rattle.std.proofs.Common.{rules}
use Rattle.live_view.proofs.Tied.{ties_first}
use Rattle.live_view.proofs.writer.LiveWriter.over.Goals as goal

pub new-requires-clause-rule : goal.new-requires-clause-rule
new-requires-clause-rule g c = ties_first _ c.requires.none (search rules)
