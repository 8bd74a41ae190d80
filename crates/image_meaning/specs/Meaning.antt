-- The graph that an image stands for, or the first check that fails. What the durable roots reach is kept (Shull, Huang and Torrellas,
-- "AutoPersist", PLDI 2019); the words are of this project's own format.
use Rattle.std.specs.Prelude.{◌≡◌, ◌≢◌, ℕ, zero, suc, ◌==◌, nat_lt, List, [], length, map, take, slice_index_or, if◌then◌else◌}
use Rattle.std.specs.Prelude.{Option, Some, None, Result, Ok}
use Rattle.std.specs.List.{range_with_len}
use Rattle.ap_base.specs.declared.kind.Kind.TheVariants.{L}
use Rattle.graph_model.specs.declared.types.Value.{Value}
use Rattle.graph_model.specs.declared.types.Shape.{Shape}
use Rattle.graph_model.specs.declared.types.NamedValue.{NamedValue}
use Rattle.graph_model.specs.declared.types.Node.{Node}
use Rattle.graph_model.specs.declared.types.Graph.{Graph}
use Rattle.graph_model.specs.Canon.{with_new, renumbered}
use Rattle.image_layout.specs.declared.superblock.BadReason.{BadReason}
use Rattle.image_layout.specs.declared.superblock.BadReason.TheVariants as bad
use Rattle.image_layout.specs.Places.{root_slots, slot_line, slot_word, super_check}
use Rattle.image_meaning.specs.Checks.{Words, Bad, fails_unless, first_fault, after_check, ◌>>=◌}
use Rattle.image_meaning.specs.Directories.{Directory, directory_of}
use Rattle.image_meaning.specs.Logs.{logs_fault, put_back}
use Rattle.image_meaning.specs.Objects.{is_reference, value_of, shape_of, values_at, object_fault}

-- ---- root slots

abbrev pub root_word : Words → ℕ → ℕ
root_word words r = words (slot_line r) (slot_word r)

-- of so many root slots in use; the others are 0
abbrev pub root_fault : ℕ → Words → ℕ → ℕ → Option Bad
root_fault size words roots r =
    fails_unless (if nat_lt r roots then is_reference size (root_word words r) else root_word words r == 0)
    (slot_line r, bad.Reference)

unfoldable pub roots_fault : ℕ → Words → ℕ → Option Bad
roots_fault size words roots = first_fault (root_fault size words roots) root_slots

abbrev pub root_value : Words → ℕ → Value
root_value words r = value_of L (root_word words r)

-- what the first n roots hold
abbrev pub root_values_of : Words → ℕ → List Value
root_values_of words n = map (root_value words) (range_with_len 0 n)

-- ---- the walk, where objects are called by the lines at which they begin

-- the k-th found object is checked, after the k before it, and those that it refers to are found too
abbrev pub look_at : List Shape → ℕ → Words → ℕ → List ℕ → Result (List ℕ) Bad
look_at shapes size words k found =
    if nat_lt k (length found) then
    after_check (object_fault shapes size words (take k found) (slice_index_or found k 0))
    (Ok (with_new found (values_at shapes words (slice_index_or found k 0))))
    else Ok found

-- What is found, breadth first, from these values once the first k found objects were looked at.
unfoldable pub walk : List Shape → ℕ → Words → List Value → ℕ → Result (List ℕ) Bad
walk shapes size words start zero = Ok (with_new [] start)
walk shapes size words start (suc k) = walk shapes size words start k >>= look_at shapes size words k

-- ---- the graph

abbrev pub root_at : Words → List (List ℕ) → List ℕ → ℕ → NamedValue
root_at words names found r = record {
  name = slice_index_or names r [];
  value = renumbered found (root_value words r);
}

abbrev pub node_at : List Shape → Words → List ℕ → ℕ → Node
node_at shapes words found line = record {
  shape = shape_of shapes words line;
  values = map (renumbered found) (values_at shapes words line);
}

-- the roots by name, and the found objects in order
abbrev pub graph_found : Directory → Words → List ℕ → Graph
graph_found directory words found = record {
  roots = map (root_at words directory.roots found) (range_with_len 0 (length directory.roots));
  nodes = map (node_at directory.shapes words found) found;
}

-- What the root slots and objects stand for. In an image of so many lines there are no more objects than lines.
unfoldable pub graph_from : ℕ → Directory → Words → Result Graph Bad
graph_from size directory words =
    after_check (roots_fault size words (length directory.roots))
    (walk directory.shapes size words (root_values_of words (length directory.roots)) size
    >>= λ found. Ok (graph_found directory words found))

-- after the directory: the logs, and once they are put back what is found from the root slots
abbrev pub graph_after_logs : ℕ → Words → Directory → Result Graph Bad
graph_after_logs size words directory =
    after_check (logs_fault size words) (graph_from size directory (put_back words))

abbrev pub empty_graph : Graph
empty_graph = record { roots = []; nodes = [] }

abbrev pub graph_after_super : ℕ → Words → Result Graph Bad
graph_after_super size words =
    if words 0 0 == 0 then Ok empty_graph else directory_of words >>= graph_after_logs size words

-- the line and the reason where the superblock's check fails
abbrev pub at_super : Option BadReason → Option Bad
at_super None = None
at_super (Some reason) = Some (0, reason)

-- The graph that an image of so many lines stands for: a blank one for the graph without roots and nodes. Or the first check that fails.
unfoldable pub meaning : ℕ → Words → Result Graph Bad
meaning size words = after_check (at_super (super_check (words 0) size)) (graph_after_super size words)

-- the image stands for this graph
abbrev pub StandsFor : ℕ → Words → Graph → Type 0
StandsFor size words graph = meaning size words ≡ Ok graph

-- No check fails. That of the magic word does where an image is blank: it stands for a graph, and yet isn't well formed.
abbrev pub IsWellFormed : ℕ → Words → Type 0
IsWellFormed size words = (words 0 0 ≢ 0) × (graph : Graph) × StandsFor size words graph
