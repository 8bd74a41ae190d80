use Rattle.line_memory.proofs.Keeps.{keeps_itself}
use Rattle.line_memory.proofs.memory.LineMemory.touch.Goals as goal

pub returns-clause-keeps : goal.returns-clause-keeps
returns-clause-keeps g c = keeps_itself c.args.self.now
