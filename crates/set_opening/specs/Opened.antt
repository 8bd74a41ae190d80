-- An image that was opened for a class set of any shape.
use Rattle.std.specs.Prelude.{◌≡◌, ◌≢◌, ℕ, ◌<◌, ◌≤◌, ◌^◌, true, List, [], map, length, take, All, AllPairs, Contains}
use Rattle.graph_model.specs.declared.types.Graph.{Graph}
use Rattle.graph_model.specs.declared.types.NamedValue.{NamedValue}
use Rattle.graph_model.specs.declared.types.Shape.{Shape}
use Rattle.line_image.specs.Told.{Told}
use Rattle.line_image.specs.Trace.{Outcome}
use Rattle.line_memory.specs.Memory.{Memory, IsDurable, IsTelling, shown}
use Rattle.image_layout.specs.Places.{directory_line, directory_word, first_object_line, log_head_line, logs, root_slots}
use Rattle.image_layout.specs.Places.{slot_line, slot_word}
use Rattle.line_memory.specs.Moments.{CountsFrom}
use Rattle.image_meaning.specs.Appending.{with_all_too}
use Rattle.image_meaning.specs.Checks.{Words}
use Rattle.image_meaning.specs.Directories.{Directory, with_all}
use Rattle.image_meaning.specs.Entries.{DirectoryEntry}
use Rattle.image_meaning.specs.Laws.{Opens}
use Rattle.image_meaning.specs.Logs.{NoneLogged}
use Rattle.image_meaning.specs.Meaning.{StandsFor}
use Rattle.image_meaning.specs.Opening.{free_line}
use Rattle.word_changes.specs.Changes.{AllKnown, GoesOn, StopsLeave}
use Rattle.plain_model.specs.Facts.{SetFacts, classes_of, class_at}
use Rattle.plain_model.specs.First.{IsOpening, class_named}
use Rattle.class_set.specs.Linked.{Linked}
use Rattle.class_set.specs.Facts.{facts_of}
use Rattle.class_set.specs.Sets.{made_of}
use Rattle.directories.specs.ClassSets.{AreEntriesOf}
use Rattle.directories.specs.Kept.{Continues, Kept}
use Rattle.directories.specs.Planning.{lacking}
use Rattle.set_directory.specs.Written.{is_written}
use Rattle.image_recovery.specs.Recovered.{entries_in}
use Rattle.first_spaces.specs.Opened.{IsOpened}
use Rattle.set_opening.specs.Arrays.{with_arrays_of}
use Rattle.set_opening.specs.Attached.{IsAttached}
use Rattle.set_opening.specs.Fitted.{AllAgree, IsFitted}
use Rattle.set_opening.specs.Found.{HasDirectory, IsDirectoryIn, IsFound}

-- The image has this directory with the first of these entries, and stands for the graph with the roots among these, which are null.
-- One that is blank has none of them.
pub record StandsWithFirst (size : ℕ) (found : Directory) (graph : Graph) (entries : List DirectoryEntry) (c : Outcome) : Type 0 where
  pub count : ℕ
  pub few : count ≤ length entries
  pub stands : StandsFor size c (with_all_too graph (take count entries))
  pub has : HasDirectory size c (with_all found (take count entries))

-- The image has the directory, which these words spelled, with the first of the entries that this lacked of the set once its array types
-- had numbers, in order; and it stands for the graph with the roots among these, which are null.
pub record StandsWithNew (set : Linked) (size : ℕ) (before : Words) (graph : Graph) (c : Outcome) : Type 0 where
  pub found : Directory
  pub found_is : IsDirectoryIn before found
  pub entries : List DirectoryEntry
  pub are_its : AreEntriesOf (facts_of (with_arrays_of set found.shapes)) (made_of (with_arrays_of set found.shapes)) entries
  pub first : StandsWithFirst size found graph (lacking found entries) c
  -- each shape of the directory, with all of these entries too, agrees with the set
  pub agree : AllAgree (facts_of set) (with_all found (lacking found entries)).shapes

-- What says something of an image is durable: the superblock, the directory as far as it is in use, the
-- root slots, the lines of objects and the logs' counts.
pub record IsDurableImage (m : Memory) : Type 0 where
  pub super : (w : ℕ) → w < 4 → IsDurable m 0 w
  pub entries : (i : ℕ) → i < shown m 0 3 → IsDurable m (directory_line i) (directory_word i)
  pub slots : (r : ℕ) → r < root_slots → IsDurable m (slot_line r) (slot_word r)
  pub objects : (l w : ℕ) → first_object_line ≤ l → l < m.size → IsDurable m l w
  pub counts : (t : ℕ) → t < logs → IsDurable m (log_head_line t) 0

-- The memory shows an image that opens with this directory, nothing logged, and over which a run of the
-- graph begins, whose nodes begin at these lines. Where the image tells what is done to it, what says
-- something of it is durable.
pub record IsReadyImage (start : Told) (m : Memory) (directory : Directory) (lines : List ℕ)
    (graph : Graph) (free : ℕ) : Type 0 where
  pub same_size : m.size ≡ start.size
  pub opens : Opens m.size (shown m) directory
  pub unlogged : NoneLogged (shown m)
  pub opened : IsOpened m directory lines graph
  pub durable : IsTelling m.image.trace → IsDurableImage m
  pub size : 32768 ≤ m.size
  pub known : AllKnown m
  pub counts : CountsFrom start.calls m
  pub few : m.calls < 2 ^ 64
  pub free_is : free ≡ free_line (shown m) lines

-- a shape with the name of a class is that class's
abbrev pub IsOfClass : SetFacts → Shape → Type 0
IsOfClass set shape = class_named (classes_of set) shape.name < length (classes_of set)
    → shape ≡ (class_at set (class_named (classes_of set) shape.name)).shape

-- the set has a class of its name, or such an array type
abbrev pub IsKnownIn : SetFacts → Shape → Type 0
IsKnownIn set shape = class_named (classes_of set) shape.name < length (classes_of set)

abbrev pub shape_names : Directory → List (List ℕ)
shape_names directory = map (λ (shape : Shape). shape.name) directory.shapes

-- A run of the set can begin with the graph. The directory's shapes are those of the set's classes with
-- their names, its roots are those of the graph, and no two of one kind have one name. Each class whose
-- objects the code makes has its shape there.
pub record SuitsSet (set : Linked) (directory : Directory) (graph : Graph) : Type 0 where
  pub opening : IsOpening (facts_of set) graph
  pub classes : All (IsOfClass (facts_of set)) directory.shapes
  pub known : All (IsKnownIn (facts_of set)) directory.shapes
  pub complete : (n : ℕ) → is_written set n ≡ true
      → Contains (shape_names directory) (class_at (facts_of set) n).shape.name
  pub roots : map (λ (root : NamedValue). root.name) graph.roots ≡ directory.roots
  pub shapes_differ : AllPairs (λ (a b : List ℕ). a ≢ b) (shape_names directory)
  pub roots_differ : AllPairs (λ (a b : List ℕ). a ≢ b) directory.roots

-- It was attached and recovered, and then made ready for the set: what its directory lacks of the set's entries is
-- planned, and nothing of it is appended.
pub record IsFoundFor (start : Told) (old set : Linked) (m : Memory) (directory : Kept) (lines : List ℕ)
    (graph : Graph) (free : ℕ) : Type 0 where
  pub before : Memory
  pub found : Kept
  pub stood : Graph
  pub found_is : IsFound start before m found stood lines free
  pub fitted : IsFitted old set found directory stood graph
  -- what its words spell stays the front of the plan
  pub continues : (had : List DirectoryEntry) → Continues had found → Continues had directory

-- It was attached and recovered. Then the array types of the directory that was found got numbers in the
-- set, and those of the set's entries that the directory lacked were appended: each stop since leaves an
-- image that has that directory with the first of these, in order, and stands for the graph for which it stood with the roots among them.
pub record IsOpenedFor (start : Told) (old set : Linked) (m : Memory) (directory : Kept) (lines : List ℕ)
    (graph : Graph) (free : ℕ) : Type 0 where
  pub before : Memory
  pub attached : IsAttached start before
  pub stood : Graph
  pub stands : StandsFor before.size (shown before) stood
  pub found : Directory
  pub found_is : IsDirectoryIn (shown before) found
  pub set_is : set ≡ with_arrays_of old found.shapes
  pub entries : List DirectoryEntry
  pub are_its : AreEntriesOf (facts_of set) (made_of set) entries
  pub directory_is : entries_in directory ≡ with_all found (lacking found entries)
  pub nothing_left : directory.left ≡ []
  pub graph_is : graph ≡ with_all_too stood (lacking found entries)
  pub stops : IsTelling start.trace
      → StopsLeave before m (StandsWithFirst before.size found stood (lacking found entries))
  pub ready : IsReadyImage start m (entries_in directory) lines graph free
  pub suits : SuitsSet set (entries_in directory) graph
  -- each shape of the directory agrees with the set
  pub agree : AllAgree (facts_of set) directory.shapes
  pub goes_on : GoesOn before m
