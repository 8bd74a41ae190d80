-- Waits are the same where those of the threads are.
use Rattle.std.proofs.Common.{arith}
use Rattle.run_types.specs.Waits.{threads-waits}
use Rattle.run_types.proofs.wait.WaitsPartialEq.eq.Goals as goal

pub returns : goal.returns
returns c = grind (arith, threads-waits)
