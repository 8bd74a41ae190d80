-- Values of static fields at first.
use Rattle.std.specs.Prelude.{◌+◌, ◌<◌, ◌^◌, length, Option, Some, None}
use Rattle.ap_base.specs.declared.kind.Kind.{Kind}
use Rattle.ap_base.specs.declared.reference.Ref.TheVariants.{Null as NoRef, Persistent, Volatile}
use Rattle.graph_model.specs.declared.types.Graph.{Graph}
use Rattle.graph_model.specs.declared.types.Value.{Value}
use Rattle.graph_model.specs.Heaps.{default_of}
use Rattle.class_set.specs.declared.statics.Constant.{Constant}
use Rattle.class_set.specs.declared.statics.Constant.TheVariants as constant
use Rattle.class_set.specs.Tables.{constant_now}
use Rattle.plain_model.specs.Facts.{SetFacts}
use Rattle.plain_model.specs.First.{constant_value}
use Rattle.plain_model.specs.Kinds.{narrowed}
use Rattle.shared_objects.specs.Shown.{Numbers}

-- each object lies in volatile memory at its number
abbrev pub at_numbers : Numbers
at_numbers NoRef = None
at_numbers (Persistent line) = None
at_numbers (Volatile n) = Some n

-- a literal that is a constant has an object with a number
abbrev pub IsInReach : Graph → Option Constant → Type 0
IsInReach opening (Some (constant.Literal k)) = length opening.nodes + 2 + k < 2 ^ 32
IsInReach opening other = Unit {0}

-- what a static field of this kind holds at first that is no durable root
abbrev pub first_value : SetFacts → Graph → Kind → Option Constant → Value
first_value set opening kind None = default_of kind
first_value set opening kind (Some c) = narrowed kind (constant_value set opening (constant_now c))
