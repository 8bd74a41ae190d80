use Rattle.command_words.proofs.RefusedRows as refused
use Rattle.command_words.proofs.laws.words_are_refused.Goals as goal

pub returns : goal.returns
returns c = record {
  run = refused.run_holds;
  others = refused.others_hold;
  ranges = refused.ranges_hold;
  numbers = refused.numbers_hold;
  values = refused.values_hold;
  commands = refused.commands_hold;
  name = refused.name_holds;
  files = refused.files_hold;
}
