-- Within which ranges the numbers of a command are.
use Rattle.std.specs.Prelude.{ℕ, ◌≤◌, ⊤}
use Rattle.command_words.specs.Numbers.{workers_range, lines_range, heap_range, acts_range, most_nodes}
use Rattle.command_words.specs.declared.command.Command.{Command}
use Rattle.command_words.specs.declared.command.Command.TheVariants.{Run, Make, Compact}
use Rattle.command_words.specs.declared.command.Run.{Run as RunWords}
use Rattle.command_words.specs.declared.command.Make.{Make as MakeWords}
use Rattle.command_words.specs.declared.numbers.Range.{Range}

abbrev pub IsIn : Range → ℕ → Type 0
IsIn range number = (range.least ≤ number) × (number ≤ range.most)

-- Each number is in its range.
pub record RunsInRange (words : RunWords) : Type 0 where
  pub workers : IsIn workers_range words.workers
  pub lines : IsIn lines_range words.lines
  pub heap : IsIn heap_range words.limits.heap_words
  pub acts : IsIn acts_range words.limits.acts

pub record MakesInRange (words : MakeWords) : Type 0 where
  pub count : (1 ≤ words.count) × (words.count ≤ most_nodes)
  pub workers : IsIn workers_range words.workers
  pub lines : IsIn lines_range words.lines

abbrev pub IsInRange : Command → Type 0
IsInRange (Run words) = RunsInRange words
IsInRange (Make words) = MakesInRange words
IsInRange (Compact words) = IsIn lines_range words.lines
IsInRange other = ⊤
