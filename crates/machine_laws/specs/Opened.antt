-- An image that was opened, as a machine begins over it.
use Rattle.std.specs.Prelude.{◌≡◌, ◌↔◌, ℕ, ◌<◌, ◌≤◌, List, length, slice_index}
use Rattle.line_memory.specs.Memory.{shown, IsDurable}
use Rattle.image_layout.specs.Places.{logs, root_slots, slot_line, slot_word, directory_line, directory_word, log_head_line}
use Rattle.image_layout.specs.Places.{first_object_line}
use Rattle.image_meaning.specs.Logs.{NoneLogged}
use Rattle.image_meaning.specs.Laws.{Opens}
use Rattle.image_meaning.specs.Corresponds.{Corresponds}
use Rattle.image_meaning.specs.Opening.{found_at}
use Rattle.stop_theorem.specs.Layouts.{HasRootSlots}
use Rattle.stop_theorem.specs.Starts.{Starts}
use Rattle.twin_forms.specs.Table.{Entry, entry, InP}
use Rattle.two_spaces.specs.Whole.{Stands}
use Rattle.machine_forms.specs.Machines.{Opening, Machine, first_of, memory_of, layout_in}

-- The memory shows the plain first heap, each node of the opened graph at its line, with nothing logged. The
-- superblock, the directory as far as it is in use, the root slots, the lines of objects and the logs' counts
-- are durable.
pub record ShowsFirstHeap (o : Opening) (lines : List ℕ) : Type 0 where
  pub opens : Opens o.start.size (shown o.start) o.directory
  pub nodes : length lines ≡ length o.launch.opening.nodes
  pub shows : Corresponds (found_at lines) o.directory o.start.size (shown o.start) (first_of o).world.heap
  pub roots : HasRootSlots (first_of o).world.heap
  pub unlogged : NoneLogged (shown o.start)
  pub size : 32768 ≤ o.start.size
  pub super : (w : ℕ) → w < 4 → IsDurable o.start 0 w
  pub entries : (i : ℕ) → i < shown o.start 0 3 → IsDurable o.start (directory_line i) (directory_word i)
  pub slots : (r : ℕ) → r < root_slots → IsDurable o.start (slot_line r) (slot_word r)
  pub objects : (l w : ℕ) → first_object_line ≤ l → l < o.start.size → IsDurable o.start l w
  pub counts : (t : ℕ) → t < logs → IsDurable o.start (log_head_line t) 0

-- The objects of these lines are durable, in their order, and no others.
pub record IsTableOf (lines : List ℕ) (es : List Entry) : Type 0 where
  pub durable : (n : ℕ) → InP es n ↔ (n < length lines)
  pub at : (n : ℕ) → n < length lines → (entry es n).line ≡ slice_index lines n

-- Where a machine's heap is whole by such a table, a run starts with the table's layout.
abbrev pub OpenedImagesStart : Type 0
OpenedImagesStart = (o : Opening) (m : Machine) (es : List Entry) (lines : List ℕ) → memory_of m ≡ o.start
    → Stands m.spaces es → ShowsFirstHeap o lines → IsTableOf lines es
    → Starts (first_of o) (layout_in o es) o.start
