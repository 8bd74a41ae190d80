-- What the call of `audit` promises, in one record: a field a promise.
use Rattle.std.specs.Prelude.{◌≡◌, ◌≢◌, ◌⊎◌, ℕ, List, Option, Some, None}
use Rattle.ap_base.specs.Causes.{Rose, next_count}
use Rattle.image_opening.specs.Unopened.{NoneFailed, OneFailed}
use Rattle.ap_base.specs.declared.source.NamedBytes.{NamedBytes}
use Rattle.audit_call.specs.Audits.{AnswersFor, AuditEnds, Images, IsKept, Outside}
use Rattle.command_words.specs.Commands.{command_of}
use Rattle.command_words.specs.declared.command.Audit.{Audit}
use Rattle.source_classes.specs.Names.{slashed}
use Rattle.source_classes.specs.Reading.{IsLeft}
use Rattle.statuses.specs.declared.status.Status.{Status}
use Rattle.statuses.specs.declared.status.Status.TheVariants as status
use Rattle.image_commands.specs.Asked.{of_audit}

-- How often the two sources, the two images and the sink have failed.
pub record Faults : Type 0 where
  pub source : ℕ
  pub records : ℕ
  pub before : ℕ
  pub after : ℕ
  pub sink : ℕ

abbrev pub faults : (source records before after sink : ℕ) → Faults
faults source records before after sink = record {
  source = source;
  records = records;
  before = before;
  after = after;
  sink = sink;
}

-- What they tell at one moment: the class files that are left, the images, the records that are left and what the sink took, and the counts.
pub record Things : Type 0 where
  pub files : Option (List NamedBytes)
  pub images : Images
  pub outside : Outside
  pub faults : Faults

abbrev pub things : Option (List NamedBytes) → Images → Outside → Faults → Things
things files images outside counts = record { files = files; images = images; outside = outside; faults = counts }

-- The run whose main class has this name was audited, by the files that the source of class files had.
pub record AuditsRun (name : List ℕ) (had has : Things) (how : Status) : Type 0 where
  -- how it ended: each answer with its cause
  pub ends : AuditEnds had.files (slashed name) had.images has.images had.outside has.outside how
  -- where the source tells its files, the answer is theirs
  pub answers : AnswersFor had.files (slashed name) had.images has.images had.outside has.outside how
  -- what is left of the class files
  pub left : (files : List NamedBytes) → had.files ≡ Some files → IsLeft files how has.files

-- What is done where this is asked for: without such a command, nothing.
abbrev pub DoesAudit : Option Audit → (had has : Things) → (Untouched : Type 0) → Status → Type 0
DoesAudit None had has Untouched how = (how ≡ status.Usage) × Untouched
DoesAudit (Some words) had has Untouched how = AuditsRun words.main had has how

-- What a call with these words comes to. That all that was given is as it was stands for itself.
pub record MeetsAudit (words : List (List ℕ)) (had has : Things) (Untouched : Type 0) (how : Status) : Type 0 where
  -- `Usage` exactly where the words are no such command, but that memory may run out before.
  pub usage : how ≡ status.Usage → of_audit (command_of words) ≡ None
  -- What the command does. Memory may run out before any of it.
  pub does : DoesAudit (of_audit (command_of words)) had has Untouched how ⊎ ((how ≡ status.OutOfMemory) × Untouched)
  -- At any stop both images stand for the graphs for which they stood, and they keep their sizes, whatever is answered.
  pub before_kept : IsKept had.images.before has.images.before
  pub after_kept : IsKept had.images.after has.images.after
  -- A fault of the outside comes only where it failed.
  pub source_fault : how ≡ status.SourceFault → Rose had.faults.source has.faults.source ⊎ Rose had.faults.records has.faults.records
  -- One of the images fails once where the call ends by it, and else neither.
  pub image_fault : how ≡ status.ImageFault → OneFailed had.faults.before has.faults.before had.faults.after has.faults.after
  pub image_spared : how ≢ status.ImageFault → NoneFailed had.faults.before has.faults.before had.faults.after has.faults.after
  -- The sink fails once where the call ends by it, and else never.
  pub sink_fault : how ≡ status.SinkFault → has.faults.sink ≡ next_count had.faults.sink
  pub sink_spared : how ≢ status.SinkFault → has.faults.sink ≡ had.faults.sink
