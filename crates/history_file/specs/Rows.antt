-- Rows of history files.
use Rattle.std.specs.Prelude.{◌≡◌, [], ◌∷◌, ◌++◌, Err}
use Rattle.run_history.specs.declared.act.Op.TheVariants as op
use Rattle.run_history.specs.Recorded.{Recorded}
use Rattle.history_file.specs.Spelling.{words, magic, act_bytes}
use Rattle.history_file.specs.Reading.{history_in}

-- thread 0 prints 7 and a line's end before the first image call
abbrev pub print : Recorded
print = record { act = record { thread = 0; at = 0; op = op.Print (55 ∷ 10 ∷ []) }; named = [] }

abbrev pub ArePrinted : Type 0
ArePrinted = act_bytes print ≡ words (17179869197 ∷ 0 ∷ 2 ∷ 2615 ∷ [])

-- four words of which the third announces an act that is missing; and a byte behind a file without acts
pub record AreRefused : Type 0 where
  pub missing : history_in (words (magic ∷ 1 ∷ 1 ∷ 0 ∷ [])) ≡ Err 4
  pub behind : history_in (words (magic ∷ 1 ∷ 0 ∷ 0 ∷ []) ++ 0 ∷ []) ≡ Err 4
  pub many : history_in (words (magic ∷ 1 ∷ 4294967296 ∷ 0 ∷ [])) ≡ Err 2
  pub other : history_in (words (magic ∷ 2 ∷ 0 ∷ 0 ∷ [])) ≡ Err 1
