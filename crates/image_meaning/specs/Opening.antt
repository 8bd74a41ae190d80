-- An image that stands for a graph corresponds to each heap that holds the graph, and the graph is canonical. Of this project's own format.
use Rattle.std.specs.Prelude.{◌∷◌, ◌+◌, max, ◌≡◌, ◌≢◌, ◌↔◌, ℕ, ◌<◌, ◌≤◌, List, [], length, map, slice_index_or, None, Ok}
use Rattle.graph_model.specs.declared.types.Root.{Root}
use Rattle.graph_model.specs.declared.types.NamedValue.{NamedValue}
use Rattle.graph_model.specs.declared.types.Node.{Node}
use Rattle.graph_model.specs.declared.types.Graph.{Graph}
use Rattle.graph_model.specs.declared.types.Heap.{Heap}
use Rattle.graph_model.specs.Heaps.{no_shape, object_at, shape_at, values_of, root_values}
use Rattle.graph_model.specs.Canon.{canon_of}
use Rattle.image_layout.specs.Places.{magic, first_object_line, lines_of}
use Rattle.image_meaning.specs.Checks.{Words}
use Rattle.image_meaning.specs.Directories.{Directory}
use Rattle.image_meaning.specs.Logs.{put_back}
use Rattle.image_meaning.specs.Objects.{length_at}
use Rattle.image_meaning.specs.Meaning.{root_values_of, roots_fault, walk, graph_found, StandsFor, IsWellFormed}
use Rattle.image_meaning.specs.Corresponds.{LiesAt, Corresponds}
use Rattle.image_meaning.specs.Laws.{Opens}

abbrev pub no_node : Node
no_node = record { shape = no_shape; values = [] }

abbrev pub graph_node : Graph → ℕ → Node
graph_node graph n = slice_index_or graph.nodes n no_node

-- The heap's roots are the graph's, and its first objects are the graph's nodes, in order.
pub record HoldsGraph (heap : Heap) (graph : Graph) : Type 0 where
  pub names : map (λ (root : Root). root.name) heap.roots ≡ map (λ (root : NamedValue). root.name) graph.roots
  pub values : root_values heap ≡ map (λ (root : NamedValue). root.value) graph.roots
  pub many : length graph.nodes ≤ length heap.objects
  pub shapes : (n : ℕ) → n < length graph.nodes → shape_at heap (object_at heap n).shape ≡ (graph_node graph n).shape
  pub slots : (n : ℕ) → n < length graph.nodes → values_of heap n ≡ (graph_node graph n).values

-- object n lies at the n-th of these lines
abbrev pub found_at : List ℕ → LiesAt
found_at lines line n = (n < length lines) × (slice_index_or lines n 0 ≡ line)

-- The image opens, no check of it fails, and these lines are what is found.
pub record Finds (size : ℕ) (words : Words) (directory : Directory) (lines : List ℕ) : Type 0 where
  pub opens : Opens size words directory
  pub roots : roots_fault size (put_back words) (length directory.roots) ≡ None
  pub walk : walk directory.shapes size (put_back words) (root_values_of (put_back words) (length directory.roots)) size ≡ Ok lines

-- None of the checks fails: those of the superblock, the magic word's among them, of the directory, of the logs, of the root slots and of
-- the objects.
abbrev pub PassesAll : ℕ → Words → Type 0
PassesAll size words = (words 0 0 ≡ magic) × (directory : Directory) × (lines : List ℕ) × Finds size words directory lines

abbrev pub WellFormedImagesPass : Type 0
WellFormedImagesPass = (size : ℕ) (words : Words) → IsWellFormed size words ↔ PassesAll size words

-- Lines are found that give the graph, and their objects correspond to each heap that holds it.
pub record FoundImage (size : ℕ) (words : Words) (graph : Graph) : Type 0 where
  pub directory : Directory
  pub lines : List ℕ
  pub finds : Finds size words directory lines
  pub gives : graph_found directory (put_back words) lines ≡ graph
  pub corresponds : (heap : Heap) → HoldsGraph heap graph → Corresponds (found_at lines) directory size (put_back words) heap

-- So it is with each image that stands for a graph and isn't blank.
abbrev pub StandingImageIsFound : Type 0
StandingImageIsFound = (size : ℕ) (words : Words) (graph : Graph) → words 0 0 ≢ 0 → StandsFor size words graph
    → FoundImage size words graph

-- And what is found is what the image stands for.
abbrev pub FoundImageStands : Type 0
FoundImageStands = (size : ℕ) (words : Words) (directory : Directory) (lines : List ℕ) → Finds size words directory lines
    → StandsFor size words (graph_found directory (put_back words) lines)

-- the first line behind all the objects that begin at these lines
abbrev pub free_line : Words → List ℕ → ℕ
free_line words [] = first_object_line
free_line words (line ∷ lines) = max (line + lines_of (length_at words line)) (free_line words lines)

-- The objects that are found lie before it.
abbrev pub FoundObjectsLieBefore : Type 0
FoundObjectsLieBefore = (words : Words) (lines : List ℕ) (line n : ℕ) → found_at lines line n
    → line + lines_of (length_at words line) ≤ free_line words lines

-- The graph for which an image stands is canonical: each heap that holds it has it as its own.
abbrev pub StandingGraphsAreCanonical : Type 0
StandingGraphsAreCanonical = (size : ℕ) (words : Words) (graph : Graph) (heap : Heap) → StandsFor size words graph
    → HoldsGraph heap graph → canon_of heap ≡ graph
