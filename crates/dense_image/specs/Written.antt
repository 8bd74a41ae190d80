-- The dense image of a graph: its nodes' objects one behind another, in the order of the nodes, and no more shapes in its directory than they
-- have. Of this project's own format.
use Rattle.std.specs.Prelude.{◌≡◌, ◌<◌, ◌≤◌, ℕ, ◌+◌, ◌-◌, ◌^◌, min, nat_lt, List, [], ◌∷◌, ◌++◌, length, map, take}
use Rattle.std.specs.Prelude.{slice_index_or, if◌then◌else◌, Option, Some, None}
use Rattle.graph_model.specs.declared.types.Value.{Value}
use Rattle.graph_model.specs.declared.types.Value.TheVariants.{Int, Long, Null, Obj as Object}
use Rattle.graph_model.specs.declared.types.Shape.{Shape}
use Rattle.graph_model.specs.declared.types.NamedValue.{NamedValue}
use Rattle.graph_model.specs.declared.types.Node.{Node}
use Rattle.graph_model.specs.declared.types.Graph.{Graph}
use Rattle.run_types.specs.declared.fault.Full.{Full}
use Rattle.run_types.specs.declared.fault.Which.{Which}
use Rattle.run_types.specs.declared.fault.Which.TheVariants.{DirectoryWords, ImageLines}
use Rattle.text_table.specs.Texts.{place_of}
use Rattle.image_layout.specs.Places.{magic, version, root_slots, directory_words, first_object_line, lines_of, head_of}
use Rattle.image_meaning.specs.Checks.{Words}
use Rattle.image_meaning.specs.Entries.{DirectoryEntry, ShapeEntry}
use Rattle.image_meaning.specs.Directories.{Directory, has_name, spelled_all, Spells}
use Rattle.image_meaning.specs.Logs.{or_else, NoneLogged, put_back}
use Rattle.image_meaning.specs.Objects.{object_slot}
use Rattle.image_meaning.specs.Meaning.{root_word, StandsFor, IsWellFormed}
use Rattle.image_meaning.specs.Spelling.{word_of_value}
use Rattle.image_meaning.specs.Opening.{graph_node, Finds, free_line}
use Rattle.dense_image.specs.Graphs.{root_entry}

-- ---- the directory

abbrev pub names_of : List Shape → List (List ℕ)
names_of shapes = map (λ (s : Shape). s.name) shapes

-- the shapes, and this one behind them unless one of its name is there
abbrev pub with_shape : List Shape → Shape → List Shape
with_shape shapes shape = if has_name (names_of shapes) shape.name then shapes else shapes ++ shape ∷ []

abbrev pub with_shapes : List Shape → List Node → List Shape
with_shapes shapes [] = shapes
with_shapes shapes (node ∷ nodes) = with_shapes (with_shape shapes node.shape) nodes

-- the shapes of nodes, each once, in the order of their first nodes
abbrev pub shapes_of : List Node → List Shape
shapes_of nodes = with_shapes [] nodes

-- the number of the shape of node n
abbrev pub shape_number_of : Graph → ℕ → ℕ
shape_number_of graph n = or_else (place_of (names_of (shapes_of graph.nodes)) (graph_node graph n).shape.name) 0

-- the shapes, and then the roots
abbrev pub entries_of : Graph → List DirectoryEntry
entries_of graph = map ShapeEntry (shapes_of graph.nodes) ++ map root_entry graph.roots

-- ---- the objects

-- how many lines the nodes take
abbrev pub lines_taken : List Node → ℕ
lines_taken [] = 0
lines_taken (node ∷ nodes) = lines_of (length node.values) + lines_taken nodes

-- the line at which node n begins
abbrev pub line_of_node : Graph → ℕ → ℕ
line_of_node graph n = first_object_line + lines_taken (take n graph.nodes)

-- the first line behind all nodes
abbrev pub end_line : Graph → ℕ
end_line graph = first_object_line + lines_taken graph.nodes

-- the word of a value
abbrev pub word_in : Graph → Value → ℕ
word_in graph (Object n) = word_of_value (Object (line_of_node graph n))
word_in graph (Int i) = word_of_value (Int i)
word_in graph (Long i) = word_of_value (Long i)
word_in graph Null = word_of_value Null

-- the words of the roots' slots
abbrev pub root_words : Graph → List ℕ
root_words graph = map (λ (root : NamedValue). word_in graph root.value) graph.roots

-- ---- the image

-- The words of an image of so many lines are those of the dense image of the graph.
pub record IsWritten (size : ℕ) (words : Words) (graph : Graph) : Type 0 where
  pub begins : words 0 0 ≡ magic
  pub layout : words 0 1 ≡ version
  pub lines : words 0 2 ≡ size
  pub spells : Spells words (entries_of graph)
  pub roots : (r : ℕ) → r < root_slots → root_word words r ≡ slice_index_or (root_words graph) r 0
  pub logs : NoneLogged words
  pub heads : (n : ℕ) → n < length graph.nodes
      → words (line_of_node graph n) 0 ≡ head_of (shape_number_of graph n) (length (graph_node graph n).values)
  pub slots : (n i : ℕ) → n < length graph.nodes → i < length (graph_node graph n).values
      → object_slot words (line_of_node graph n) i ≡ word_in graph (slice_index_or (graph_node graph n).values i Null)

-- an image of so many lines has room for it
pub record HasRoom (size : ℕ) (graph : Graph) : Type 0 where
  pub directory : length (spelled_all (entries_of graph)) ≤ directory_words
  pub objects : end_line graph ≤ size

-- so much is needed of what is left, if it is more; a need is told up to the greatest number of 64 bits
abbrev pub unless_room : Which → ℕ → ℕ → Option Full → Option Full
unless_room which left need later =
    if nat_lt left need then Some (record { which = which; need = min need (2 ^ 64 - 1); left = left }) else later

-- what an image of so many lines has too little room of for so many words of the directory and so many lines of objects
abbrev pub wanting : ℕ → ℕ → ℕ → Option Full
wanting size words lines =
    unless_room DirectoryWords directory_words words (unless_room ImageLines (size - first_object_line) lines None)

-- and for the graph: words of the directory, or else lines for objects
abbrev pub no_room : ℕ → Graph → Option Full
no_room size graph = wanting size (length (spelled_all (entries_of graph))) (lines_taken graph.nodes)

-- ---- what it is

-- what is found in it, once its logs are put back, lies before the first line behind as many lines as its nodes take
abbrev pub IsDense : ℕ → Words → Graph → Type 0
IsDense size words graph = (directory : Directory) (lines : List ℕ) → Finds size words directory lines
    → free_line (put_back words) lines ≡ end_line graph

-- The image has the words of the dense one, so it is well formed, stands for the graph, and has no line between its objects.
pub record IsWhole (size : ℕ) (words : Words) (graph : Graph) : Type 0 where
  pub written : IsWritten size words graph
  pub well_formed : IsWellFormed size words
  pub stands : StandsFor size words graph
  pub dense : IsDense size words graph
