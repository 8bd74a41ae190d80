-- Completeness: where the inputs of a command are as it asks and nothing outside fails, the command does its work, or memory runs out before
-- any of it; a run may meet a limit too, and then this tells which.
use Rattle.std.specs.Prelude.{◌≡◌, ◌⊎◌, ℕ, List, [], codes, Option, Some, None, Ok}
use Rattle.ap_base.specs.Causes.{Rose}
use Rattle.ap_base.specs.Sinks.{with_bytes}
use Rattle.ap_base.specs.Sources.{first_file}
use Rattle.ap_base.specs.declared.source.NamedBytes.{NamedBytes}
use Rattle.graph_model.specs.declared.types.Graph.{Graph}
use Rattle.run_types.specs.declared.fault.Full.{Full}
use Rattle.run_types.specs.declared.limits.Limits.{Limits}
use Rattle.image_meaning.specs.Checks.{Words}
use Rattle.run_history.specs.Recorded.{Recorded}
use Rattle.class_file.specs.declared.class.ClassFile.{ClassFile}
use Rattle.class_links.specs.Kept.{kept_files}
use Rattle.listing.specs.Classes.{assembled}
use Rattle.workload.specs.Listings.{work_listing}
use Rattle.assembly.specs.Assembling.{class_of}
use Rattle.command_words.specs.declared.command.Command.{Command}
use Rattle.command_words.specs.declared.command.Command.TheVariants.{Run, Make, Check, Dump, Asm, Compact, Audit}
use Rattle.statuses.specs.declared.status.Status.{Status}
use Rattle.statuses.specs.declared.status.Status.TheVariants as status
use Rattle.class_runs.specs.Chosen.{Choice, ClassesGive, FilesGive}
use Rattle.class_runs.specs.Complete.{Admits, EndsComplete, MeetsLimit, StandsForSome}
use Rattle.image_report.specs.Reports.{HasPrinted, IsChecked, IsDumped}
use Rattle.autopersist.specs.Outside.{Outside}
use Rattle.autopersist.specs.Runs.{default_limits}

-- ---- what is asked of a call

-- neither source, nor image, nor sink failed
pub record NothingFailed (before after : Outside) : Type 0 where
  pub source : Rose before.source_faults after.source_faults → ⊥
  pub image : Rose before.image_faults after.image_faults → ⊥
  pub sink : Rose before.sink_faults after.sink_faults → ⊥

-- ---- what it comes to

-- memory ran out: there are no acts, and nothing was put
abbrev pub RanOutOfMemory : (before after : Outside) → List Recorded → Status → Type 0
RanOutOfMemory before after acts how = (how ≡ status.OutOfMemory) × (acts ≡ []) × (after.taken ≡ before.taken)

-- The run needed more than there is, and the status tells of what.
abbrev pub RanOutOfRoom : Choice → Limits → (before after : Outside) → Status → Graph → List Recorded → Type 0
RanOutOfRoom choice limits before after how opening acts =
    (full : Full) × (how ≡ status.Full full) × MeetsLimit choice.set choice.main limits before.image before.takes opening acts after.image full

-- What was chosen ran over an image that suits it, and ended as the plain run of its acts; or there is no `main`. Or it met a limit.
abbrev pub RunsWhole : Choice → Limits → (before after : Outside) → Status → Graph → List Recorded → Type 0
RunsWhole choice limits before after how opening acts = Admits choice.set before.image
    → EndsComplete choice.set choice.main limits before.image before.takes opening acts how
    ⊎ RanOutOfMemory before after acts how ⊎ RanOutOfRoom choice limits before after how opening acts

-- The sink took all of the text of an image that is blank or well formed.
abbrev pub PrintsAll : (ℕ → Words → List ℕ → Type 0) → (before after : Outside) → Status → List Recorded → Type 0
PrintsAll Says before after how acts = StandsForSome before.image
    → ((how ≡ status.Ok) × HasPrinted Says before.image before.taken after.taken) ⊎ RanOutOfMemory before after acts how

-- The sink took the bytes of the class.
abbrev pub PutsAll : List ℕ → (before after : Outside) → Status → List Recorded → Type 0
PutsAll bytes before after how acts =
    ((how ≡ status.Ok) × (after.taken ≡ with_bytes before.taken bytes)) ⊎ RanOutOfMemory before after acts how

-- ---- the commands

-- `run`: the source tells files that give a class set. `make`: the workload's classes give one. `asm`: the first file is a listing that has
-- the class.
abbrev pub DoesAll : Option Command → (before after : Outside) → Status → Graph → List Recorded → Type 0
DoesAll (Some (Run run)) before after how opening acts = (files : List NamedBytes) → before.left ≡ Some files
    → (choice : Choice) → FilesGive run.main files (Ok choice) → RunsWhole choice run.limits before after how opening acts
DoesAll (Some (Make make)) before after how opening acts = (classes : List ClassFile) → assembled (work_listing make.count) ≡ Ok classes
    → (choice : Choice) → ClassesGive (codes "Work") (kept_files classes) (Ok choice)
    → RunsWhole choice default_limits before after how opening acts
DoesAll (Some (Check check)) before after how opening acts = PrintsAll IsChecked before after how acts
DoesAll (Some (Dump dump)) before after how opening acts = PrintsAll IsDumped before after how acts
DoesAll (Some (Asm asm)) before after how opening acts = (files : List NamedBytes) → before.left ≡ Some files
    → (bytes : List ℕ) → class_of asm.class (first_file files) ≡ Ok bytes → PutsAll bytes before after how acts
DoesAll (Some (Compact words)) before after how opening acts = Unit {0}
DoesAll (Some (Audit words)) before after how opening acts = Unit {0}
DoesAll None before after how opening acts = Unit {0}

abbrev pub DoesItsWork : Option Command → (before after : Outside) → Status → Graph → List Recorded → Type 0
DoesItsWork command before after how opening acts =
    NothingFailed before after → DoesAll command before after how opening acts
