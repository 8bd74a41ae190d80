-- A run that is followed event by event.
use Rattle.std.specs.Prelude.{ℕ, List}
use Rattle.line_image.specs.Told.{Told}
use Rattle.class_set.specs.Facts.{facts_of}
use Rattle.class_set.specs.Linked.{Linked}
use Rattle.program_host.specs.Hosts.{setting_in}
use Rattle.program_host.specs.declared.host.ProgramHost.{ProgramHost}
use Rattle.run_forms.specs.Views.{ThreadFrames}
use Rattle.durable_launch.specs.Passed.{IsReady, Opening, Shared}
use Rattle.durable_launch.specs.Launching.{CanLaunch}
use Rattle.durable_launch.specs.declared.heaps.OpenedHeap.{OpenedHeap}

-- An event of each live thread may come, of some launch of the set.
abbrev pub IsPlaying : Linked → ProgramHost → Shared → List ThreadFrames → Type 0
IsPlaying set host heap frames = (o : Opening) × (first : ℕ) × IsReady o first (facts_of set) (setting_in host) heap frames

-- The set can be launched over this heap, with so many words of volatile memory.
abbrev pub IsOpen : {I : Type 0} → Linked → ℕ → OpenedHeap I → Type 0
IsOpen set words heap = (start : Told) × (old : Linked) × CanLaunch start old set words heap
