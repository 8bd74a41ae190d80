-- A heap, its queues, its lines and its monitors, in agreement.
use Rattle.std.specs.Prelude.{◌≡◌, ℕ, ◌<◌, List, length, slice_index}
use Rattle.volatile_space.specs.Spaces.{Space}
use Rattle.line_memory.specs.Memory.{Memory}
use Rattle.twin_forms.specs.Table.{Entry}
use Rattle.twin_forms.specs.Sights.{Twin, Marks, view_of, held_of, written_of}
use Rattle.convert_queue.specs.Queues.{Queues}
use Rattle.convert_words.specs.Agreeing.{Agrees}

-- A heap, its queues, the first line that is left, and the words of the references whose monitors are held.
pub record Scene : Type 0 where
  pub heap : Twin
  pub queue : Queues
  pub free : ℕ
  pub keys : List ℕ

abbrev pub IsKey : List ℕ → ℕ → Type 0
IsKey keys w = (i : ℕ) × (i < length keys) × (slice_index keys i ≡ w)

-- They agree, and this table says where the objects lie.
abbrev pub AgreesAt : Scene → List Entry → Type 0
AgreesAt s es = Agrees (view_of s.heap) (held_of s.heap.memory) (written_of s.heap.memory) s.queue s.free (IsKey s.keys) es

-- the scene of these parts
abbrev pub scene : Space → Memory → Marks → Queues → ℕ → List ℕ → Scene
scene space memory marks queue free keys = record { heap = record { space = space; memory = memory; marks = marks }; queue = queue; free = free; keys = keys }
