-- An image over which a run begins.
use Rattle.std.specs.Prelude.{◌≡◌, ℕ, ◌≤◌, List, length}
use Rattle.graph_model.specs.declared.types.Graph.{Graph}
use Rattle.graph_model.specs.declared.types.Heap.{Heap}
use Rattle.line_memory.specs.Memory.{Memory, shown}
use Rattle.image_layout.specs.Places.{max_lines}
use Rattle.image_meaning.specs.Directories.{Directory}
use Rattle.image_meaning.specs.Corresponds.{Corresponds}
use Rattle.image_meaning.specs.Opening.{HoldsGraph, found_at}

-- The memory shows an image with this directory. The nodes of its graph begin at these lines, in their order:
-- the words as they
-- are shown correspond to each heap that holds the graph, where node n lies at the n-th line.
pub record IsOpened (memory : Memory) (directory : Directory) (lines : List ℕ) (graph : Graph) : Type 0 where
  pub most : memory.size ≤ max_lines
  pub few : length lines ≤ memory.size
  pub nodes : length lines ≡ length graph.nodes
  pub corresponds : (heap : Heap) → HoldsGraph heap graph
      → Corresponds (found_at lines) directory memory.size (shown memory) heap
