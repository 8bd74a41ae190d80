-- What is found in an image, object by object. Of this project's own format.
use Rattle.std.specs.Prelude.{◌≡◌, ◌+◌, ◌++◌, ◌∷◌, ℕ, Bool, List, [], length, map, None, Ok}
use Rattle.graph_model.specs.declared.types.Value.{Value}
use Rattle.graph_model.specs.declared.types.Shape.{Shape}
use Rattle.graph_model.specs.Canon.{with_new}
use Rattle.image_layout.specs.Places.{lines_of}
use Rattle.image_meaning.specs.Checks.{Words}
use Rattle.image_meaning.specs.Directories.{Directory}
use Rattle.image_meaning.specs.Objects.{length_at, values_at, object_fault}
use Rattle.image_meaning.specs.Meaning.{root_values_of, roots_fault, walk, node_at, graph_found}
use Rattle.image_meaning.specs.Opening.{free_line}
use Rattle.image_walk.specs.Walking.{IsTaken}
use Rattle.image_walk.specs.declared.visiting.Visited.{Visited}
use Rattle.image_walk.specs.declared.walking.Walked.{Walked}
use Rattle.image_walk.specs.declared.finding.FoundGraph.{FoundGraph}

-- The object at the line passes its checks, and was looked at: what it refers to is found, its lines are taken, and this is its node.
pub record IsVisit (shapes : List Shape) (size : ℕ) (words : Words) (earlier : List ℕ) (line : ℕ) (found more : List ℕ) (taken : List Bool)
    (visited : Visited) : Type 0 where
  pub passes : object_fault shapes size words earlier line ≡ None
  pub finds : more ≡ with_new found (values_at shapes words line)
  pub takes : IsTaken taken words (earlier ++ line ∷ [])
  pub node : visited.node ≡ node_at shapes words more line
  pub behind : visited.end ≡ line + lines_of (length_at words line)

-- all that is found from these values, its nodes, and the first line behind it
pub record IsWalk (shapes : List Shape) (size : ℕ) (words : Words) (start : List Value) (walked : Walked) : Type 0 where
  pub walks : walk shapes size words start size ≡ Ok walked.found.numbers
  pub nodes : walked.nodes.items ≡ map (node_at shapes words walked.found.numbers) walked.found.numbers
  pub free : walked.free ≡ free_line words walked.found.numbers

-- The root slots and all that is found from them pass their checks, and this is the graph, with the first line of each node and the first
-- line behind them all.
pub record IsFoundGraph (size : ℕ) (directory : Directory) (words : Words) (found : FoundGraph) : Type 0 where
  pub roots : roots_fault size words (length directory.roots) ≡ None
  pub walks : walk directory.shapes size words (root_values_of words (length directory.roots)) size ≡ Ok found.lines
  pub graph : found.graph ≡ graph_found directory words found.lines
  pub free : found.free ≡ free_line words found.lines
