-- A heap over an image, with queues, lines and monitors that agree with it.
use Rattle.std.specs.Prelude.{◌≡◌, ℕ, ◌<◌, ◌≤◌, List, length, slice_index}
use Rattle.volatile_space.specs.Spaces.{Space}
use Rattle.line_memory.specs.Memory.{Memory}
use Rattle.persist_space.specs.Lines.{Lines}
use Rattle.monitors.specs.declared.monitor.Monitor.{Monitor}
use Rattle.monitors.specs.Indexed.{AreSound}
use Rattle.twin_forms.specs.Table.{Entry, entry}
use Rattle.twin_forms.specs.Moves.{LiesAt}
use Rattle.twin_forms.specs.Sights.{Marks, AllKnown}
use Rattle.convert_queue.specs.Queues.{Queues}
use Rattle.convert_words.specs.Scenes.{scene, AgreesAt}
use Rattle.converter.specs.Stepping.{keys_of}

-- All objects began in the space, at these indices of it, in the order of their numbers.
pub record IsWorld (space : Space) (memory : Memory) (marks : Marks) (q : Queues) (lines : Lines) (ms : List Monitor) (objects : List ℕ) : Type 0 where
  pub table : List Entry
  pub agrees : AgreesAt (scene space memory marks q lines.free (keys_of ms)) table
  pub long : length table ≡ length objects
  pub made : (n : ℕ) → n < length table → LiesAt (slice_index objects n) (entry table n)
  pub lines_are : lines.lines ≡ memory.size
  pub within : lines.free ≤ lines.lines
  pub sound : AreSound ms
  pub known : AllKnown memory
  pub shapes : length marks.kinds ≡ 2
