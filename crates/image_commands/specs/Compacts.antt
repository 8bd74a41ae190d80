-- What the call of `compact` promises, in one record: a field a promise.
use Rattle.std.specs.Prelude.{◌≡◌, ◌≢◌, ◌⊎◌, ℕ, List, Option, Some, None, Result, Ok, Err}
use Rattle.ap_base.specs.Causes.{next_count}
use Rattle.image_opening.specs.Unopened.{NoneFailed, OneFailed}
use Rattle.line_image.specs.Told.{Told}
use Rattle.command_words.specs.Commands.{command_of}
use Rattle.command_words.specs.declared.command.Compact.{Compact}
use Rattle.compact_call.specs.Outcomes.{CameOf}
use Rattle.compact_call.specs.declared.fault.CompactFault.{CompactFault}
use Rattle.compact_call.specs.declared.fault.CompactFault.TheVariants as fault
use Rattle.image_opening.specs.Attached.{IsSettled}
use Rattle.image_opening.specs.Stops.{KeepsItsGraph}
use Rattle.statuses.specs.declared.status.Status.{Status}
use Rattle.statuses.specs.declared.status.Status.TheVariants as status
use Rattle.image_commands.specs.Asked.{of_compact}

abbrev pub status_of_compaction : Result (Unit {0}) CompactFault → Status
status_of_compaction (Ok done) = status.Ok
status_of_compaction (Err (fault.BadImage line reason)) = status.BadImage line reason
status_of_compaction (Err (fault.NewImage reason)) = status.NewImage reason
status_of_compaction (Err (fault.Full full)) = status.Full full
status_of_compaction (Err fault.ImageFailed) = status.ImageFault
status_of_compaction (Err fault.SinkFailed) = status.SinkFault
status_of_compaction (Err fault.OutOfMemory) = status.OutOfMemory

-- What the two images and the sink tell at one moment.
pub record Images : Type 0 where
  pub old : Told
  pub old_faults : ℕ
  pub fresh : Told
  pub fresh_faults : ℕ
  -- the bytes that the sink took
  pub taken : Option (List ℕ)
  pub sink_faults : ℕ

abbrev pub images : Told → ℕ → Told → ℕ → Option (List ℕ) → ℕ → Images
images old old_faults fresh fresh_faults taken sink_faults = record {
  old = old;
  old_faults = old_faults;
  fresh = fresh;
  fresh_faults = fresh_faults;
  taken = taken;
  sink_faults = sink_faults;
}

-- Neither image was opened, and nothing was put.
pub record IsUntouched (before after : Images) (SameImages : Type 0) : Type 0 where
  pub unopened : SameImages
  pub nothing : after.taken ≡ before.taken

-- The graph of the old image was written to the new one, or why it wasn't.
pub record Compacts (before after : Images) (how : Status) : Type 0 where
  pub outcome : Result (Unit {0}) CompactFault
  pub is : how ≡ status_of_compaction outcome
  pub came : CameOf before.old before.fresh after.fresh before.taken after.taken outcome
  -- At any stop the old image stands for the graph for which it stood, whatever is answered.
  pub stops : IsSettled before.old → KeepsItsGraph before.old after.old

-- What is done where this is asked for: without such a command, nothing.
abbrev pub DoesCompact : Option Compact → (before after : Images) → (SameImages : Type 0) → Status → Type 0
DoesCompact None before after SameImages how = (how ≡ status.Usage) × IsUntouched before after SameImages
DoesCompact (Some words) before after SameImages how = Compacts before after how

-- What a call with these words comes to, where both images are the ones that were given, or are not.
pub record MeetsCompact (words : List (List ℕ)) (before after : Images) (SameImages : Type 0) (how : Status) : Type 0 where
  -- `Usage` exactly where the words are no such command, but that memory may run out before.
  pub usage : how ≡ status.Usage → of_compact (command_of words) ≡ None
  -- What the command does. Memory may run out before any of it.
  pub does : DoesCompact (of_compact (command_of words)) before after SameImages how
      ⊎ ((how ≡ status.OutOfMemory) × IsUntouched before after SameImages)
  -- One of the images fails once where the call ends by it, and else neither.
  pub image_fault : how ≡ status.ImageFault → OneFailed before.old_faults after.old_faults before.fresh_faults after.fresh_faults
  pub image_spared : how ≢ status.ImageFault → NoneFailed before.old_faults after.old_faults before.fresh_faults after.fresh_faults
  -- The sink fails once where the call ends by it, and else never.
  pub sink_fault : how ≡ status.SinkFault → after.sink_faults ≡ next_count before.sink_faults
  pub sink_spared : how ≢ status.SinkFault → after.sink_faults ≡ before.sink_faults
  -- Both images keep their numbers of lines.
  pub old_size : after.old.size ≡ before.old.size
  pub new_size : after.fresh.size ≡ before.fresh.size
