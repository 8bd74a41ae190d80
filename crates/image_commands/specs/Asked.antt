-- What the words ask of each call.
use Rattle.std.specs.Prelude.{Option, Some, None}
use Rattle.command_words.specs.declared.command.Command.{Command}
use Rattle.command_words.specs.declared.command.Command.TheVariants.{Compact, Audit}
use Rattle.command_words.specs.declared.command.Compact.{Compact as CompactWords}
use Rattle.command_words.specs.declared.command.Audit.{Audit as AuditWords}

abbrev pub of_compact : Option Command → Option CompactWords
of_compact (Some (Compact words)) = Some words
of_compact other = None

abbrev pub of_audit : Option Command → Option AuditWords
of_audit (Some (Audit words)) = Some words
of_audit other = None
