-- The first objects.
use Rattle.std.specs.Prelude.{ℕ, ◌<◌, pos, List, length, map}
use Rattle.graph_model.specs.declared.types.Node.{Node}
use Rattle.graph_model.specs.declared.types.Obj.{Obj}
use Rattle.graph_model.specs.declared.types.Value.{Value}
use Rattle.graph_model.specs.declared.types.Value.TheVariants.{Int}
use Rattle.plain_model.specs.Facts.{SetFacts, classes_of}
use Rattle.plain_model.specs.First.{class_named}

-- the node's shape has the name of a class of the set
abbrev pub IsOfClass : SetFacts → Node → Type 0
IsOfClass set node = class_named (classes_of set) node.shape.name < length (classes_of set)

abbrev pub chars_of : List ℕ → List Value
chars_of chars = map (λ c. Int (pos c)) chars

-- a String of these chars
abbrev pub text_object : ℕ → List ℕ → Obj
text_object class chars = record { shape = class; values = chars_of chars }
