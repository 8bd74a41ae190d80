-- What the top call promises, in one record: a field a promise. Whatever calls it, or is called in its place, cites this.
use Rattle.std.specs.Prelude.{◌≡◌, ◌≢◌, ◌⊎◌, ℕ, List, [], Option, Some, None}
use Rattle.ap_base.specs.Causes.{Rose, next_count}
use Rattle.graph_model.specs.declared.types.Graph.{Graph}
use Rattle.image_meaning.specs.Meaning.{empty_graph}
use Rattle.run_history.specs.Recorded.{Recorded}
use Rattle.class_runs.specs.Passed.{with_all}
use Rattle.assembly.specs.Assembling.{Assembles}
use Rattle.command_words.specs.Commands.{command_of}
use Rattle.command_words.specs.declared.command.Command.{Command}
use Rattle.command_words.specs.declared.command.Command.TheVariants.{Run, Make, Check, Dump, Asm, Compact, Audit}
use Rattle.statuses.specs.declared.status.Status.{Status}
use Rattle.statuses.specs.declared.status.Status.TheVariants as status
use Rattle.image_report.specs.Reports.{IsChecked, IsDumped}
use Rattle.autopersist.specs.Asked.{of_top}
use Rattle.autopersist.specs.Outside.{Outside}
use Rattle.autopersist.specs.Reports.{Reports}
use Rattle.autopersist.specs.Runs.{RunsClass, RunsWorkload}

-- Nothing was asked, opened, run or put, and the sink takes what it would have taken.
pub record IsIdle (before after : Outside) (SameSource SameImage : Type 0) (acts : List Recorded) : Type 0 where
  pub unasked : SameSource
  pub unopened : SameImage
  pub unrun : acts ≡ []
  pub nothing : after.taken ≡ before.taken
  pub takes : after.takes ≡ before.takes

-- The listing that the source gave was assembled, and its class put. The image wasn't opened.
pub record AssemblesOne (class : List ℕ) (before after : Outside) (SameImage : Type 0) (how : Status) (acts : List Recorded) : Type 0 where
  pub unopened : SameImage
  pub unrun : acts ≡ []
  pub assembles : Assembles class before.left after.left how before.taken after.taken

-- What is done where this is asked of the call: without a command, nothing. Two commands are never asked of it.
abbrev pub Does : Option Command → (before after : Outside) → (SameSource SameImage : Type 0) → Status → Graph → List Recorded → Type 0
Does None before after SameSource SameImage how opening acts =
    (how ≡ status.Usage) × IsIdle before after SameSource SameImage acts
Does (Some (Run run)) before after SameSource SameImage how opening acts = RunsClass run before after SameImage how opening acts
Does (Some (Make make)) before after SameSource SameImage how opening acts =
    RunsWorkload make before after SameSource SameImage how opening acts
Does (Some (Check check)) before after SameSource SameImage how opening acts = Reports IsChecked before after SameSource how acts
Does (Some (Dump dump)) before after SameSource SameImage how opening acts = Reports IsDumped before after SameSource how acts
Does (Some (Asm asm)) before after SameSource SameImage how opening acts = AssemblesOne asm.class before after SameImage how acts
Does (Some (Compact words)) before after SameSource SameImage how opening acts = ⊥
Does (Some (Audit words)) before after SameSource SameImage how opening acts = ⊥

-- What a call with these words comes to: how it ended, from which graph which acts ran, and what the outside told before and tells after.
-- That the source, or the image, is the one that was given stands for itself.
pub record Meets (words : List (List ℕ)) (before after : Outside) (SameSource SameImage : Type 0) (how : Status) (opening : Graph)
    (acts : List Recorded) : Type 0 where
  -- `Usage` exactly where the words are no command of this call, but that memory may run out before.
  pub usage : how ≡ status.Usage → of_top (command_of words) ≡ None
  -- What the command does. Memory may run out before any of it.
  pub does : Does (of_top (command_of words)) before after SameSource SameImage how opening acts
      ⊎ ((how ≡ status.OutOfMemory) × IsIdle before after SameSource SameImage acts)
  -- A fault of the source comes only where it failed.
  pub source_fault : how ≡ status.SourceFault → Rose before.source_faults after.source_faults
  -- The image fails once where the call ends by it, and else never.
  pub image_fault : how ≡ status.ImageFault → after.image_faults ≡ next_count before.image_faults
  pub image_spared : how ≢ status.ImageFault → after.image_faults ≡ before.image_faults
  -- So does the sink.
  pub sink_fault : how ≡ status.SinkFault → after.sink_faults ≡ next_count before.sink_faults
  pub sink_spared : how ≢ status.SinkFault → after.sink_faults ≡ before.sink_faults
  -- Memory runs out only before the first act, and before the first byte is put.
  pub no_memory : how ≡ status.OutOfMemory → (acts ≡ []) × (after.taken ≡ before.taken)
  -- Where there are no acts, the opening graph has no roots and nodes.
  pub unbegun : acts ≡ [] → opening ≡ empty_graph
  -- The watcher saw the acts, each once and in order.
  pub watched : after.seen ≡ with_all before.seen acts
  -- The image keeps its number of lines.
  pub size : after.image.size ≡ before.image.size
