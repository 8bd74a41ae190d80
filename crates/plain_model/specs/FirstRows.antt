-- The first heap of a set with constants of each sort: of a byte, a long and a literal, of a durable root,
-- and none; with two literals; from a graph with a root that the set lacks.
use Rattle.std.specs.Prelude.{◌≡◌, pos, List, [], ◌∷◌, true, codes, Some, None}
use Rattle.ap_base.specs.declared.kind.Kind.TheVariants.{B, I, J}
use Rattle.graph_model.specs.declared.types.Value.{Value}
use Rattle.graph_model.specs.declared.types.Value.TheVariants.{Int, Long, Obj as Object}
use Rattle.graph_model.specs.declared.types.Obj.{Obj}
use Rattle.graph_model.specs.declared.types.Root.{Root}
use Rattle.graph_model.specs.declared.types.Graph.{Graph}
use Rattle.plain_model.specs.Facts.{StaticFacts, IntConstant, LongConstant, LiteralConstant, SetFacts}
use Rattle.plain_model.specs.First.{first_heap}
use Rattle.plain_model.specs.SubtypeRows.{drawing, disc, string, strings}
use Rattle.plain_model.specs.SetRows.{a_static, two_texts}

-- the set of the drawings, with five static fields of Disc
abbrev pub constants : List StaticFacts
constants =
    record a_static { name = codes "Disc.level"; kind = B; constant = Some (IntConstant (pos 300)) }
    ∷ record a_static { name = codes "Disc.when"; kind = J; constant = Some (LongConstant (pos 8)) }
    ∷ a_static
    ∷ record a_static { name = codes "Disc.kept"; constant = Some (LiteralConstant 0); is_root = true }
    ∷ record a_static { name = codes "Disc.count"; kind = I; constant = None }
    ∷ []

abbrev pub with_constants : SetFacts
with_constants = record drawing { statics = constants; literals = two_texts }

-- a Disc, to which the set's root refers, and a root of a field that is gone
abbrev pub one_disc : Graph
one_disc = record {
  roots =
      record { name = codes "Disc.gone"; value = Object 0 }
      ∷ record { name = codes "Disc.kept"; value = Object 0 }
      ∷ [];
  nodes =
      record {
        shape = record { name = codes "Disc"; fields = []; element = None };
        values = [];
      }
      ∷ [];
}

-- the Disc, System.out's stream, the arguments, and the literals "one" and "two"
abbrev pub objects : List Obj
objects =
    record { shape = disc; values = [] }
    ∷ record { shape = 6; values = [] }
    ∷ record { shape = strings; values = [] }
    ∷ record { shape = string; values = Int (pos 111) ∷ Int (pos 110) ∷ Int (pos 101) ∷ [] }
    ∷ record { shape = string; values = Int (pos 116) ∷ Int (pos 119) ∷ Int (pos 111) ∷ [] }
    ∷ []

-- System.out, the set's static fields, and the root that the set lacks
abbrev pub statics : List Value
statics =
    Object 1 ∷ Int (pos 44) ∷ Long (pos 8) ∷ Object 4 ∷ Object 0 ∷ Int (pos 0) ∷ Object 0 ∷ []

abbrev pub roots : List Root
roots = record { name = codes "Disc.gone"; at = 6 } ∷ record { name = codes "Disc.kept"; at = 4 } ∷ []

pub record FirstHeapHasConstants : Type 0 where
  pub objects_are : (first_heap with_constants one_disc).objects ≡ objects
  pub statics_are : (first_heap with_constants one_disc).statics ≡ statics
  pub roots_are : (first_heap with_constants one_disc).roots ≡ roots
