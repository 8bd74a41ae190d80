use Rattle.std.proofs.Common.{refl}
use Rattle.command_words.specs.Commands.{texts}
use Rattle.reopened_runs.proofs.Output.{prints}
use Rattle.reopened_runs.proofs.whole.run_and_print.Goals as goal

pub returns-clause-prints : goal.returns-clause-prints
returns-clause-prints g c =
    prints (texts c.args.words.now.items) _ _ _ _ _ _ _ c.autopersist-ended.ensures.meets c.args.source.left refl c.args.sink
    c.autopersist-ended.result.sink refl refl refl refl refl refl
