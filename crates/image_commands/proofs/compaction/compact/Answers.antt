use Rattle.command_words.specs.Commands.{command_of, texts}
use Rattle.image_commands.specs.Asked.{of_compact}
use Rattle.image_commands.proofs.Complete.{compacts}
use Rattle.image_commands.proofs.compaction.compact.Goals as goal

pub returns-clause-complete : goal.returns-clause-complete
returns-clause-complete g c =
    let meets = c.do_compact.ensures.meets in
    compacts (of_compact (command_of (texts c.args.words.now.items))) _ _ _ c.do_compact.result.status meets.image_fault meets.sink_fault meets.does
