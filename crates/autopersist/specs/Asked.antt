-- What the words ask of the top call: compaction and audits have calls of their own.
use Rattle.std.specs.Prelude.{Option, Some, None}
use Rattle.command_words.specs.declared.command.Command.{Command}
use Rattle.command_words.specs.declared.command.Command.TheVariants.{Compact, Audit}

abbrev pub of_top : Option Command → Option Command
of_top (Some (Compact words)) = None
of_top (Some (Audit words)) = None
of_top other = other
