use Rattle.command_words.proofs.Ranges.{ranges_hold}
use Rattle.command_words.proofs.laws.numbers_are_in_range.Goals as goal

pub returns : goal.returns
returns c = ranges_hold
