-- The words that are given values as a graph is written, in their order. A line that is written back (CLWB) and fenced (SFENCE) is durable (Intel
-- 64 and IA-32 Architectures Software Developer's Manual, volume 2). Of this project's own format.
use Rattle.std.specs.Prelude.{◌≡◌, ◌⊎◌, ◌<◌, ◌≤◌, ℕ, ◌+◌, ◌-◌, ◌*◌, ◌/◌, List, ◌∷◌, [], length, map, slice_index_or}
use Rattle.graph_model.specs.declared.types.Graph.{Graph}
use Rattle.image_layout.specs.Places.{magic, version, logs, slot_line, root_slots, directory_line, log_head_line, lines_of, head_of}
use Rattle.image_meaning.specs.Directories.{spelled_all}
use Rattle.image_meaning.specs.Opening.{graph_node}
use Rattle.dense_image.specs.Written.{shape_number_of, entries_of, line_of_node, word_in, root_words}
use Rattle.word_changes.specs.Changes.{IsGiven}

-- so many lines from one on are given these words, eight a line, and zeros behind them
abbrev pub OfWords : List ℕ → ℕ → ℕ → ℕ → ℕ → ℕ → Type 0
OfWords words from count l w v =
    (from ≤ l) × (l < from + count) × (w < 8) × (v ≡ slice_index_or words (8 * (l - from) + w) 0)

-- the root slots
abbrev pub OfSlots : Graph → ℕ → ℕ → ℕ → Type 0
OfSlots graph l w v = OfWords (root_words graph) 1 32 l w v

-- as many lines as so many words take
abbrev pub lines_for : ℕ → ℕ
lines_for n = (n + 7) / 8

-- the directory's words
abbrev pub OfDirectory : Graph → ℕ → ℕ → ℕ → Type 0
OfDirectory graph l w v =
    OfWords (spelled_all (entries_of graph)) (directory_line 0) (lines_for (length (spelled_all (entries_of graph)))) l w v

-- the head lines of the first n logs
abbrev pub OfHeads : ℕ → ℕ → ℕ → ℕ → Type 0
OfHeads n l w v = (t : ℕ) × (t < n) × OfWords [] (log_head_line t) 1 l w v

-- the head of node n's object and then its slots
abbrev pub object_words : Graph → ℕ → List ℕ
object_words graph n =
    head_of (shape_number_of graph n) (length (graph_node graph n).values) ∷ map (word_in graph) (graph_node graph n).values

abbrev pub OfObject : Graph → ℕ → ℕ → ℕ → ℕ → Type 0
OfObject graph n l w v =
    OfWords (object_words graph n) (line_of_node graph n) (lines_of (length (graph_node graph n).values)) l w v

-- the objects of the first n nodes
abbrev pub OfObjects : Graph → ℕ → ℕ → ℕ → ℕ → Type 0
OfObjects graph n l w v = (m : ℕ) × (m < n) × OfObject graph m l w v

-- words 1 to 3 of the superblock of an image of so many lines, with so many words of the directory in use
abbrev pub OfSuperblock : ℕ → ℕ → ℕ → ℕ → ℕ → Type 0
OfSuperblock size used l w v = (l ≡ 0) × (((w ≡ 1) × (v ≡ version)) ⊎ ((w ≡ 2) × (v ≡ size)) ⊎ ((w ≡ 3) × (v ≡ used)))

abbrev pub OfFront : Graph → ℕ → ℕ → ℕ → Type 0
OfFront graph l w v = OfSlots graph l w v ⊎ OfDirectory graph l w v ⊎ OfHeads logs l w v

-- all of these
abbrev pub OfBody : ℕ → Graph → ℕ → ℕ → ℕ → Type 0
OfBody size graph l w v =
    OfFront graph l w v ⊎ OfObjects graph (length graph.nodes) l w v
    ⊎ OfSuperblock size (length (spelled_all (entries_of graph))) l w v

-- and the magic word, which comes last
abbrev pub OfImage : ℕ → Graph → ℕ → ℕ → ℕ → Type 0
OfImage size graph l w v = OfBody size graph l w v ⊎ IsGiven 0 0 magic l w v
