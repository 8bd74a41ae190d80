-- Which images a run can begin over, and what holds of a heap and its queues when it begins.
use Rattle.std.specs.Prelude.{◌≡◌, ℕ, ◌<◌, ◌≤◌, false, List, [], replicate}
use Rattle.graph_model.specs.declared.types.Graph.{Graph}
use Rattle.line_memory.specs.Memory.{Memory, shown}
use Rattle.image_layout.specs.Places.{max_lines, min_lines, root_slots}
use Rattle.image_meaning.specs.Appending.{SameBehind, with_all_too}
use Rattle.image_meaning.specs.Directories.{AreEntries, Directory, no_entries, with_all}
use Rattle.image_meaning.specs.Entries.{DirectoryEntry}
use Rattle.image_meaning.specs.Logs.{is_log_line, put_back}
use Rattle.image_meaning.specs.Meaning.{empty_graph, graph_found, root_word}
use Rattle.image_meaning.specs.Opening.{Finds, free_line}
use Rattle.convert_queue.specs.declared.phase.Phase.TheVariants.{Copy}
use Rattle.convert_queue.specs.Marks.{clean}
use Rattle.convert_queue.specs.Queues.{Queues}
use Rattle.convert_words.specs.Scenes.{AgreesAt, Scene}
use Rattle.two_spaces.specs.Seen.{Spaces}
use Rattle.twin_forms.specs.Table.{Entry}
use Rattle.first_spaces.specs.Beginnings.{StandsOpened}
use Rattle.first_spaces.specs.Opened.{IsOpened}

-- ---- images

-- In an image this was found by the words that its lines showed at first, and now each word outside the logs
-- is put back.
pub record IsFoundIn (first memory : Memory) (directory : Directory) (lines : List ℕ) (graph : Graph) : Type 0
  where
    pub enough : min_lines ≤ first.size
    pub most : first.size ≤ max_lines
    pub size : memory.size ≡ first.size
    pub finds : Finds first.size (shown first) directory lines
    pub graph_is : graph ≡ graph_found directory (put_back (shown first)) lines
    pub words : (l w : ℕ) → l < first.size → is_log_line l ≡ false → shown memory l w ≡ put_back (shown first) l
        w

-- A run can begin over it.
abbrev pub FoundImagesAreOpened : Type 0
FoundImagesAreOpened = (first memory : Memory) (directory : Directory) (lines : List ℕ) (graph : Graph)
    → IsFoundIn first memory directory lines graph → IsOpened memory directory lines graph

-- So it is with one that was formatted: its directory is empty, and no root slot is in use.
abbrev pub EmptyImagesAreOpened : Type 0
EmptyImagesAreOpened = (memory : Memory) → memory.size ≤ max_lines
    → ((r : ℕ) → r < root_slots → root_word (shown memory) r ≡ 0) → IsOpened memory no_entries [] empty_graph

-- And with one to whose directory entries were appended: its nodes begin at the same lines, and each added
-- root is null.
abbrev pub AppendedImagesAreOpened : Type 0
AppendedImagesAreOpened = (before memory : Memory) (directory : Directory) (entries : List DirectoryEntry)
    (lines : List ℕ)
    (graph : Graph) → IsOpened before directory lines graph → memory.size ≡ before.size
    → SameBehind (shown before) (shown memory) → AreEntries directory entries
    → IsOpened memory (with_all directory entries) lines (with_all_too graph entries)

-- ---- conversions

-- the queues of 64 threads, as they are reserved for so many lines
abbrev pub first_queues : ℕ → Queues
first_queues lines = record {
  queues = replicate 64 [];
  places = replicate 64 (0, 0);
  phases = replicate 64 Copy;
  needs = replicate 64 0;
  marks = replicate lines clean;
}

-- the first heap, with these queues, the first line behind all nodes, and no monitor held
pub record IsFirstScene (lines : List ℕ) (s : Spaces) (scene : Scene) : Type 0 where
  pub heap_is : scene.heap ≡ s.twin
  pub queue_is : scene.queue ≡ first_queues s.twin.memory.size
  pub free_is : scene.free ≡ free_line (shown s.twin.memory) lines
  pub keys_are : scene.keys ≡ []

-- Heap, queues, image and monitors agree then, by each table by which the heap is as it was made.
abbrev pub FirstScenesAgree : Type 0
FirstScenesAgree = (directory : Directory) (lines : List ℕ) (s : Spaces) (scene : Scene) (es : List Entry)
    → StandsOpened directory lines s es → IsFirstScene lines s scene → AgreesAt scene es
