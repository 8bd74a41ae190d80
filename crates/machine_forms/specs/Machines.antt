-- What a machine of threads over a shared heap is made of, and what its run began with.
use Rattle.std.specs.Prelude.{◌≡◌, ◌↔◌, ℕ, ◌==◌, ◌&&◌, ltb, Bool, true, false, List, [], slice_index_or, slice_set}
use Rattle.std.specs.Prelude.{if◌then◌else◌}
use Rattle.graph_model.specs.declared.types.Root.{Root}
use Rattle.line_memory.specs.Memory.{Memory}
use Rattle.image_meaning.specs.Directories.{Directory}
use Rattle.run_history.specs.Recorded.{Recorded}
use Rattle.run_history.specs.Knowing.{Knowledge, known_after}
use Rattle.run_history.specs.Wanted.{Wishes, NoWish, WantsAfter}
use Rattle.plain_model.specs.First.{first_known}
use Rattle.stop_theorem.specs.Choices.{Threads}
use Rattle.stop_theorem.specs.Layouts.{Layout}
use Rattle.stop_theorem.specs.Running.{State}
use Rattle.shared_objects.specs.declared.rest.Rest.{Rest}
use Rattle.shared_objects.specs.Shown.{Shown}
use Rattle.run_forms.specs.Standing.{Launch}
use Rattle.twin_forms.specs.Table.{Entry, entry, head_word, InP}
use Rattle.two_spaces.specs.Seen.{Spaces, shown_of}
use Rattle.convert_queue.specs.Queues.{Queues}
use Rattle.convert_words.specs.Scenes.{Scene, scene}
use Rattle.converter.specs.Stepping.{keys_of}
use Rattle.region_log.specs.Log.{Log}
use Rattle.region_log.specs.declared.entry.Underway.TheVariants.{Nothing as Idle}
use Rattle.machine_forms.specs.declared.doing.Doing.{Doing}
use Rattle.machine_forms.specs.declared.doing.Doing.TheVariants.{Nothing, Converting, Writing, Fencing}

-- ---- the opening

-- What a run began with: its launch, the directory of the opened image, how many calls the image had had
-- before it was attached, and its memory then.
pub record Opening : Type 0 where
  pub launch : Launch
  pub directory : Directory
  pub begin : ℕ
  pub start : Memory

-- what is known before the first act
abbrev pub first_of : Opening → Knowledge
first_of o = first_known o.launch.set o.launch.opening

-- ---- the machine

-- The acts so far; the heap over two spaces; what threads have claimed, and the first line that is left; the
-- monitors, classes and threads; what each thread is about; and the log of each thread's region.
pub record Machine : Type 0 where
  pub acts : List Recorded
  pub spaces : Spaces
  pub queue : Queues
  pub free : ℕ
  pub rest : Rest
  pub doing : List Doing
  pub logs : List Log

abbrev pub memory_of : Machine → Memory
memory_of m = m.spaces.twin.memory

abbrev pub shown_in : Machine → Shown
shown_in m = shown_of m.spaces

-- heap, queues, lines and monitors, as conversions see them
abbrev pub scene_of : Machine → Scene
scene_of m = scene m.spaces.twin.space m.spaces.twin.memory m.spaces.twin.marks m.queue m.free
    (keys_of m.rest.monitors)

abbrev pub doing_of : Machine → ℕ → Doing
doing_of m t = slice_index_or m.doing t Nothing

-- the log of a thread without a region
abbrev pub empty_log : ℕ → Log
empty_log t = record { thread = t; depth = 0; entries = []; underway = Idle }

abbrev pub log_of : Machine → ℕ → Log
log_of m t = slice_index_or m.logs t (empty_log t)

-- what is known after the acts, and what is wanted
abbrev pub known_in : Opening → Machine → Knowledge
known_in o m = known_after (first_of o) m.acts

abbrev pub wants_in : Opening → Machine → Wishes
wants_in o m = WantsAfter (first_of o) NoWish m.acts

-- the durable roots never change
abbrev pub roots_in : Opening → Machine → List Root
roots_in o m = (known_in o m).world.heap.roots

-- ---- where durable objects lie

abbrev pub is_durable : Entry → Bool
is_durable e = ltb 1 e.stage && e.owner == 0

-- The layout of a table: the line and the head of each durable object.
abbrev pub layout_in : Opening → List Entry → Layout
layout_in o es = record {
  size = o.start.size;
  directory = o.directory;
  line_of = λ n. if is_durable (entry es n) then (entry es n).line else 0;
  head = λ n. if is_durable (entry es n) then head_word (entry es n) else 0;
}

-- ---- as the stop theorem sees it

-- a thread waits for a fence once the line of its durable store is written back
abbrev pub is_fencing : Doing → Bool
is_fencing Fencing = true
is_fencing Nothing = false
is_fencing Converting = false
is_fencing (Writing line) = false

abbrev pub waits_in : Machine → Threads
waits_in m t = is_fencing (doing_of m t)

abbrev pub state_in : Opening → Machine → List Entry → State
state_in o m es = record {
  acts = m.acts;
  layout = layout_in o es;
  waits = waits_in m;
  memory = memory_of m;
}

-- ---- laws of layouts

-- these tables have the same durable objects, at the same lines and with the same heads
pub record SameDurable (es es' : List Entry) : Type 0 where
  pub kept : (n : ℕ) → is_durable (entry es' n) ≡ is_durable (entry es n)
  pub lines : (n : ℕ) → is_durable (entry es n) ≡ true → (entry es' n).line ≡ (entry es n).line
  pub heads : (n : ℕ) → is_durable (entry es n) ≡ true → head_word (entry es' n) ≡ head_word (entry es n)

pub record LayoutsFollowTables : Type 0 where
  pub durable : (es : List Entry) (n : ℕ) → (is_durable (entry es n) ≡ true) ↔ InP es n
  pub same : (o : Opening) (es es' : List Entry) → SameDurable es es' → layout_in o es' ≡ layout_in o es
