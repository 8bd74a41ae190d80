use Rattle.command_words.proofs.ReadRows.{files_hold, others_hold, values_hold, numbers_hold, order_holds}
use Rattle.command_words.proofs.laws.words_are_read.Goals as goal

pub returns : goal.returns
returns c = record { order = order_holds; numbers = numbers_hold; values = values_hold; others = others_hold; files = files_hold }
