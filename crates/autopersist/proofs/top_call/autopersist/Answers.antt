use Rattle.command_words.specs.Commands.{texts}
use Rattle.autopersist.proofs.Complete.{complete}
use Rattle.autopersist.proofs.top_call.autopersist.Goals as goal

pub returns-clause-complete : goal.returns-clause-complete
returns-clause-complete g c =
    complete (texts c.args.words.now.items) _ _ _ _ _ _ _ c.do_command.ensures.meets
