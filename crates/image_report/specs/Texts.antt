-- The texts that `check` and `dump` print of an image. Of this project's own format: each line ends in 0A, and names go out as they are.
use Rattle.std.specs.Prelude.{ℕ, suc, List, [], ◌∷◌, ◌++◌, length, codes, decimal, slice_get, Option, Some, None}
use Rattle.std.specs.Fmt.{signed_decimal}
use Rattle.ap_base.specs.declared.kind.Kind.{Kind}
use Rattle.graph_model.specs.declared.types.Value.{Value}
use Rattle.graph_model.specs.declared.types.Value.TheVariants.{Int, Long, Null, Obj}
use Rattle.graph_model.specs.declared.types.Field.{Field}
use Rattle.graph_model.specs.declared.types.Shape.{Shape}
use Rattle.graph_model.specs.declared.types.NamedValue.{NamedValue}
use Rattle.graph_model.specs.declared.types.Node.{Node}
use Rattle.graph_model.specs.declared.types.Graph.{Graph}

-- a word, and a number in decimal
abbrev pub counted : List ℕ → ℕ → List ℕ
counted word n = word ++ decimal n

-- `version V lines L free F roots R nodes N undone U`
abbrev pub check_line : (version lines free roots nodes undone : ℕ) → List ℕ
check_line version lines free roots nodes undone =
    counted (codes "version ") version ++ counted (codes " lines ") lines ++ counted (codes " free ") free
    ++ counted (codes " roots ") roots ++ counted (codes " nodes ") nodes ++ counted (codes " undone ") undone ++ codes "\n"

-- a decimal number, `null`, or `#K` of node K
abbrev pub value_text : Value → List ℕ
value_text (Int i) = signed_decimal i
value_text (Long i) = signed_decimal i
value_text Null = codes "null"
value_text (Obj node) = counted (codes "#") node

-- `root K NAME VALUE`
abbrev pub root_line : ℕ → NamedValue → List ℕ
root_line k root = counted (codes "root ") k ++ codes " " ++ root.name ++ codes " " ++ value_text root.value ++ codes "\n"

-- a slot by its index: `[I]`
abbrev pub bracketed : ℕ → List ℕ
bracketed i = counted (codes "[") i ++ codes "]"

-- A slot has the name of the field at its place. Elements, and what is no field's, go by their index.
abbrev pub name_of : Option Kind → Option Field → ℕ → List ℕ
name_of None (Some field) i = field.name
name_of None None i = bracketed i
name_of (Some kind) field i = bracketed i

-- `FIELD = VALUE` or `[I] = VALUE`
abbrev pub slot_line : Shape → ℕ → Value → List ℕ
slot_line shape i value =
    name_of shape.element (slice_get shape.fields i) i ++ codes " = " ++ value_text value ++ codes "\n"

-- `node #K SHAPE SLOTS`
abbrev pub node_line : ℕ → Node → List ℕ
node_line k node =
    counted (codes "node #") k ++ codes " " ++ node.shape.name ++ counted (codes " ") (length node.values) ++ codes "\n"

-- the lines of each item of a list, which are numbered from k on
abbrev pub each : {A : Type 0} → (ℕ → A → List ℕ) → ℕ → List A → List ℕ
each lines_of k [] = []
each lines_of k (item ∷ items) = lines_of k item ++ each lines_of (suc k) items

-- a node's line, and one for each of its slots
abbrev pub node_lines : ℕ → Node → List ℕ
node_lines k node = node_line k node ++ each (slot_line node.shape) 0 node.values

-- `roots R nodes N`
abbrev pub counts_line : Graph → List ℕ
counts_line graph = counted (codes "roots ") (length graph.roots) ++ counted (codes " nodes ") (length graph.nodes) ++ codes "\n"

abbrev pub dump_lines : Graph → List ℕ
dump_lines graph = counts_line graph ++ each root_line 0 graph.roots ++ each node_lines 0 graph.nodes
