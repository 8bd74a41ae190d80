-- From an image that was opened for a class set to the first turn of a run over it.
use Rattle.std.specs.Prelude.{◌≡◌, ℕ, ◌<◌, true, List, [], length, slice_index}
use Rattle.ap_base.specs.declared.reference.Ref.{Ref}
use Rattle.run_types.specs.declared.limits.Limits.{Limits}
use Rattle.graph_model.specs.declared.types.Graph.{Graph}
use Rattle.line_image.specs.Told.{Told}
use Rattle.line_memory.specs.Memory.{Memory}
use Rattle.image_meaning.specs.Directories.{Directory}
use Rattle.plain_model.specs.First.{first_heap}
use Rattle.class_set.specs.Linked.{Linked}
use Rattle.class_set.specs.Facts.{facts_of}
use Rattle.directories.specs.Kept.{Kept}
use Rattle.image_recovery.specs.Recovered.{entries_in}
use Rattle.program_host.specs.Hosts.{setting_in}
use Rattle.program_host.specs.Literals.{literal_in}
use Rattle.program_launch.specs.declared.mains.Main.{Main}
use Rattle.program_launch.specs.Launches.{set_program}
use Rattle.workers.specs.Passed.{Launch}
use Rattle.workers.specs.Passed.{Opening, memory_of, work_left}
use Rattle.set_opening.specs.Passed.{SpacesTables}
use Rattle.set_opening.specs.Passed.{HasTables, IsWholeOpened, RootsLieInSlots, ShowsOpening, StandFor}
use Rattle.set_opening.specs.Passed.{AreTables}
use Rattle.set_opening.specs.Passed.{spaces_of}
use Rattle.set_opening.specs.Opened.{IsOpenedFor}
use Rattle.workers.specs.Passed.{IsReady}
use Rattle.set_spaces.specs.Passed.{Spaces, is_written, shown_of}
use Rattle.durable_launch.specs.declared.heaps.OpenedHeap.{OpenedHeap}
use Rattle.durable_launch.specs.declared.launches.Launched.{Launched}

-- ---- the first heap

-- The heap shows the plain first heap of the set and the graph, its nodes at these lines and all else in volatile
-- memory of so many words. Its shapes are first the directory's, which has one for each class whose objects the
-- code makes.
pub record IsHeapOver (set : Linked) (words : ℕ) (directory : Directory) (lines : List ℕ) (graph : Graph)
    (s : Spaces) (arguments : Ref) (literals : List Ref) : Type 0 where
  pub shows : ShowsOpening (facts_of set) graph words (shown_of s)
  pub stand_for : StandFor (facts_of set) graph (shown_of s) arguments literals
  pub whole : IsWholeOpened directory lines s
  pub roots : RootsLieInSlots (first_heap (facts_of set) graph).roots s.statics
  pub tables : SpacesTables
  pub are_tables : AreTables (facts_of set) directory tables
  pub has_tables : HasTables tables s
  pub listed : (n : ℕ) → is_written set n ≡ true
      → (n < length s.numbers) × (slice_index s.numbers n < length directory.shapes)

-- The heap is the first one over an image that was opened so for the set.
pub record CanLaunch {I : Type 0} (start : Told) (old set : Linked) (words : ℕ) (heap : OpenedHeap I)
    : Type 0 where
  pub directory : Kept
  pub lines : List ℕ
  pub opened : IsOpenedFor start old set heap.spaces.heap.memory directory lines heap.graph heap.free
  pub over : IsHeapOver set words (entries_in directory) lines heap.graph (spaces_of heap.spaces)
      heap.arguments heap.literals.items

-- ---- the run

-- the run of this set from this graph, which begins with this main class and method
abbrev pub launch_over : Linked → Main → Limits → Graph → List Ref → Launch
launch_over set main limits graph literals = record {
  set = facts_of set;
  program = set_program set;
  main = main.class;
  method = main.method;
  opening = graph;
  literal = literal_in literals;
  limits = limits;
}

-- what it began with, over the memory of an image that told `start` before it was attached
abbrev pub opening_over : Told → Memory → Directory → Launch → Opening
opening_over start m directory launch = record {
  launch = launch;
  directory = directory;
  begin = start.calls;
  start = m;
}

-- An event may come of the run of the set over this image, which has made no act.
pub record IsLaunched {I : Type 0} (start : Told) (directory : Directory) (set : Linked) (main : Main) (limits : Limits)
    (heap : OpenedHeap I) (launched : Launched I) : Type 0 where
  pub literals : List Ref
  pub ready : IsReady (opening_over start heap.spaces.heap.memory directory
      (launch_over set main limits heap.graph literals)) heap.free (facts_of set)
      (setting_in launched.host) launched.heap launched.frames.items
  pub empty : launched.heap.history.acts ≡ []
  -- so that its events make at most 16 quiet steps for each act and each line that they take (`quiet_steps_are_few` of machine)
  pub work : work_left launched.heap.machine ≡ 0
  pub memory : memory_of launched.heap.machine ≡ heap.spaces.heap.memory
