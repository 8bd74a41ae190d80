-- What is planned of a graph before anything is written. Of this project's own format.
use Rattle.std.specs.Prelude.{◌≡◌, ◌<◌, ◌≤◌, ℕ, ◌+◌, ◌-◌, ◌*◌, ◌^◌, min, List, ◌∷◌, length, map, take, slice_index_or, Option, Some}
use Rattle.std.specs.Int.{w32, w64, cast_unsigned}
use Rattle.graph_model.specs.declared.types.Value.{Value}
use Rattle.graph_model.specs.declared.types.Value.TheVariants.{Int, Long, Null, Obj as Object}
use Rattle.graph_model.specs.declared.types.Shape.{Shape}
use Rattle.graph_model.specs.declared.types.Node.{Node}
use Rattle.graph_model.specs.declared.types.NamedValue.{NamedValue}
use Rattle.graph_model.specs.declared.types.Graph.{Graph}
use Rattle.run_types.specs.declared.fault.Full.{Full as Wanted}
use Rattle.text_table.specs.Texts.{place_of}
use Rattle.image_layout.specs.Places.{directory_words, first_object_line}
use Rattle.image_meaning.specs.Entries.{DirectoryEntry, ShapeEntry}
use Rattle.image_meaning.specs.Directories.{spelled_all}
use Rattle.image_meaning.specs.Opening.{no_node}
use Rattle.dense_image.specs.Written.{names_of, shapes_of, entries_of, lines_taken, root_words, HasRoom}
use Rattle.image_compact.specs.declared.entry_words.EntryWords.{EntryWords}
use Rattle.image_compact.specs.declared.shapes.Shapes.{Shapes}
use Rattle.image_compact.specs.declared.planning.Plan.{Plan}
use Rattle.image_compact.specs.declared.fault.WriteFault.{WriteFault}
use Rattle.image_compact.specs.declared.fault.WriteFault.TheVariants.{NotBlank, Full, ImageFailed, OutOfMemory}

-- the words spell these entries, if a directory has room for all
pub record Spell (entries : List DirectoryEntry) (kept : EntryWords) : Type 0 where
  pub need : kept.need ≡ min (length (spelled_all entries)) (2 ^ 64 - 1)
  pub words : kept.need ≤ directory_words → kept.words.items ≡ spelled_all entries

-- these are the shapes
pub record Lists (shapes : List Shape) (kept : Shapes) : Type 0 where
  pub names : kept.names ≡ names_of shapes
  pub words : Spell (map ShapeEntry shapes) kept.words

-- the shape of this name has this number
abbrev pub NumberIn : List Shape → List ℕ → ℕ → Type 0
NumberIn shapes name number = place_of (names_of shapes) name ≡ Some number

-- the numbers of the nodes' shapes among these
pub record AreNumbersIn (shapes : List Shape) (nodes : List Node) (numbers : List ℕ) : Type 0 where
  pub count : length numbers ≡ length nodes
  pub each : (n : ℕ) → n < length nodes → NumberIn shapes (slice_index_or nodes n no_node).shape.name (slice_index_or numbers n 0)

abbrev pub AreNumbers : List Node → List ℕ → Type 0
AreNumbers nodes numbers = AreNumbersIn (shapes_of nodes) nodes numbers

-- the first lines of the nodes, one behind another
pub record ArePlaces (nodes : List Node) (lines : List ℕ) : Type 0 where
  pub count : length lines ≡ length nodes
  pub each : (n : ℕ) → n < length nodes → slice_index_or lines n 0 ≡ first_object_line + lines_taken (take n nodes)

-- the word of a value, where the nodes begin at these lines
abbrev pub word_by : List ℕ → Value → ℕ
word_by lines (Int i) = cast_unsigned w32 i
word_by lines (Long i) = cast_unsigned w64 i
word_by lines Null = 0
word_by lines (Object n) = 2 * slice_index_or lines n 0

abbrev pub root_word_by : List ℕ → NamedValue → ℕ
root_word_by lines root = word_by lines root.value

-- There is room for the graph in an image of so many lines, and this is what is written.
pub record IsPlan (size : ℕ) (graph : Graph) (plan : Plan) : Type 0 where
  pub room : HasRoom size graph
  pub slots : plan.slots.items ≡ root_words graph
  pub words : plan.words.items ≡ spelled_all (entries_of graph)
  pub numbers : AreNumbers graph.nodes plan.numbers.items
  pub lines : ArePlaces graph.nodes plan.lines.items

-- the fault tells this want of room, or want of memory
abbrev pub IsWant : Option Wanted → WriteFault → Type 0
IsWant wanting (Full full) = wanting ≡ Some full
IsWant wanting NotBlank = ⊥
IsWant wanting ImageFailed = ⊥
IsWant wanting OutOfMemory = Unit {0}
