-- The rows of history files, by computation.
use Rattle.std.proofs.Common.{refl}
use Rattle.parsing.specs.Results.{many_from}
use Rattle.history_file.specs.Spelling.{word}
use Rattle.history_file.specs.Reading.{word_at, number_at, exactly, head_at, act_at, header_at, file_in}
use Rattle.history_file.specs.Rows.{ArePrinted, AreRefused}

pub printed : ArePrinted
unfolding word
printed = refl

pub refused : AreRefused
unfolding word word_at number_at exactly head_at act_at header_at file_in many_from
refused = record { missing = refl; behind = refl; many = refl; other = refl }
