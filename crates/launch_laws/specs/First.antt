-- A machine with which a run over an opened image begins. The layers below give each fact: the image its
-- opening and its directory, the heap its making over the image, and the queues theirs.
use Rattle.std.specs.Prelude.{◌≡◌, ℕ, ◌<◌, ◌≤◌, ◌^◌, List, [], length, replicate, slice_index, slice_index_or, All}
use Rattle.ap_base.specs.declared.reference.Ref.{Ref}
use Rattle.ap_base.specs.declared.reference.Ref.TheVariants.{Null as NoRef}
use Rattle.graph_model.specs.declared.types.Shape.{Shape}
use Rattle.graph_model.specs.Heaps.{no_shape}
use Rattle.line_memory.specs.Memory.{Memory, shown, IsTelling, IsDurable}
use Rattle.line_memory.specs.Moments.{CountsFrom}
use Rattle.image_layout.specs.Places.{logs as log_count, root_slots, slot_line, slot_word, directory_line, directory_word}
use Rattle.image_layout.specs.Places.{log_head_line, first_object_line}
use Rattle.image_meaning.specs.Directories.{Directory}
use Rattle.image_meaning.specs.Logs.{NoneLogged}
use Rattle.image_meaning.specs.Laws.{Opens}
use Rattle.image_meaning.specs.Opening.{free_line}
use Rattle.plain_model.specs.Facts.{SetFacts, classes_of, class_at}
use Rattle.plain_model.specs.First.{first_heap, class_named}
use Rattle.frames.specs.Turns.{begun_main}
use Rattle.one_space.specs.Beside.{IsFirstRest}
use Rattle.run_forms.specs.Views.{ThreadFrames}
use Rattle.run_forms.specs.Standing.{IsLaunch}
use Rattle.twin_forms.specs.Table.{Entry}
use Rattle.twin_forms.specs.Sights.{AllKnown}
use Rattle.two_spaces.specs.Seen.{Spaces}
use Rattle.machine_laws.specs.Passed.{Nothing}
use Rattle.machine_laws.specs.Passed.{Opening, Machine, memory_of, shown_in, log_of, empty_log}
use Rattle.first_spaces.specs.Beginnings.{RootsLieInSlots, ShowsOpening, StandFor, StandsOpened}
use Rattle.first_spaces.specs.Laws.{first_queues}
use Rattle.first_spaces.specs.Opened.{IsOpened}

-- ---- the image

-- What says something of an image is durable: the superblock, the directory as far as it is in use, the root
-- slots, the lines of objects and the logs' counts.
pub record IsDurableImage (m : Memory) : Type 0 where
  pub super : (w : ℕ) → w < 4 → IsDurable m 0 w
  pub entries : (i : ℕ) → i < shown m 0 3 → IsDurable m (directory_line i) (directory_word i)
  pub slots : (r : ℕ) → r < root_slots → IsDurable m (slot_line r) (slot_word r)
  pub objects : (l w : ℕ) → first_object_line ≤ l → l < m.size → IsDurable m l w
  pub counts : (t : ℕ) → t < log_count → IsDurable m (log_head_line t) 0

-- The memory shows an image that opens with this directory, nothing logged, and over which a run of the opened
-- graph begins, whose node n lies at the n-th of these lines. Where the image tells what is done to it, what
-- says something of it is durable.
pub record IsOpenedImage (o : Opening) (lines : List ℕ) : Type 0 where
  pub opens : Opens o.start.size (shown o.start) o.directory
  pub unlogged : NoneLogged (shown o.start)
  pub opened : IsOpened o.start o.directory lines o.launch.opening
  pub durable : IsTelling o.start.image.trace → IsDurableImage o.start
  pub size : 32768 ≤ o.start.size
  pub known : AllKnown o.start
  pub counts : CountsFrom o.begin o.start
  pub few : o.start.calls < 2 ^ 64

-- ---- the heap

-- a shape with the name of a class is that class's
abbrev pub IsOfClass : SetFacts → Shape → Type 0
IsOfClass set shape = class_named (classes_of set) shape.name < length (classes_of set)
    → shape ≡ (class_at set (class_named (classes_of set) shape.name)).shape

-- The heap's shapes are first the directory's, each of the class with its name, if there is one.
pub record HasDirectory (set : SetFacts) (directory : Directory) (s : Spaces) : Type 0 where
  pub many : length directory.shapes ≤ length s.classes
  pub named : (k : ℕ) → k < length directory.shapes → slice_index s.classes k
      ≡ class_named (classes_of set) (slice_index_or directory.shapes k no_shape).name
  pub classes : All (IsOfClass set) directory.shapes

-- ---- the machine

-- A launch over an opened image: the heap over that image is the first one, all beside it is as it begins,
-- nobody has claimed anything, no thread is about anything, each of 64 logs is empty, and no act is made.
pub record IsFirstMachine (o : Opening) (lines : List ℕ) (m : Machine) (es : List Entry) : Type 0 where
  pub launched : IsLaunch o.launch
  pub image : IsOpenedImage o lines
  pub memory : memory_of m ≡ o.start
  pub shows : ShowsOpening o.launch.set o.launch.opening o.launch.limits.heap_words (shown_in m)
  pub roots : RootsLieInSlots (first_heap o.launch.set o.launch.opening).roots m.spaces.statics
  pub table : StandsOpened o.directory lines m.spaces es
  pub directory : HasDirectory o.launch.set o.directory m.spaces
  pub rest : IsFirstRest o.launch.set m.rest
  pub queue : m.queue ≡ first_queues o.start.size
  pub free : m.free ≡ free_line (shown o.start) lines
  pub doing : m.doing ≡ replicate 64 Nothing
  pub logs : length m.logs ≡ log_count
  pub empty : (t : ℕ) → t < log_count → log_of m t ≡ empty_log t
  pub acts : m.acts ≡ []

-- Thread 0 is about to initialise the main class and then to call `main`. It is given references that stand for
-- the array of arguments and for the literals.
pub record BeginsMain (o : Opening) (m : Machine) (frames : ThreadFrames) : Type 0 where
  pub arguments : Ref
  pub literals : List Ref
  pub stand_for : StandFor o.launch.set o.launch.opening (shown_in m) arguments literals
  pub given : (k : ℕ) → k < length o.launch.set.literals
      → o.launch.literal k ≡ slice_index_or literals k NoRef
  pub begun : frames ≡ begun_main o.launch.main o.launch.method arguments
