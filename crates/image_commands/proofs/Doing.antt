-- What is done where the words ask for `audit`.
use Rattle.std.proofs.Common.{◌≡◌, ℕ, List, Option, Some, ap, subst, sym, ◌∙◌}
use Rattle.command_words.specs.Commands.{command_of}
use Rattle.command_words.specs.declared.command.Audit.{Audit}
use Rattle.command_words.specs.declared.command.Command.{Command}
use Rattle.statuses.specs.declared.status.Status.{Status}
use Rattle.image_commands.specs.Asked.{of_audit}
use Rattle.image_commands.specs.Audits.{AuditsRun, DoesAudit, Things}

pub does : (words : List (List ℕ)) (command : Command) (asked : Audit) (found : Option Audit) (name : List ℕ) (had has : Things)
    (Untouched : Type 0) (how : Status) → command_of words ≡ Some command → found ≡ of_audit (Some command) → found ≡ Some asked
    → name ≡ asked.main → AuditsRun name had has how → DoesAudit (of_audit (command_of words)) had has Untouched how
does words command asked found name had has Untouched how is found-is some same run =
    subst (λ (o : Option Audit). DoesAudit o had has Untouched how) (sym (ap of_audit is ∙ sym found-is ∙ some))
    (subst (λ (n : List ℕ). AuditsRun n had has how) same run)
