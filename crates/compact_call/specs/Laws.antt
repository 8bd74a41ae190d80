-- That nothing but what is told stands in the way. Of this project's own format.
use Rattle.std.specs.Prelude.{◌≡◌, ℕ, List, None, Option, Result, Ok, Err}
use Rattle.graph_model.specs.declared.types.Graph.{Graph}
use Rattle.line_image.specs.Told.{Told}
use Rattle.line_memory.specs.Memory.{IsTelling}
use Rattle.image_meaning.specs.Checks.{Words}
use Rattle.image_meaning.specs.Meaning.{StandsFor}
use Rattle.image_opening.specs.Attached.{AreRead}
use Rattle.dense_image.specs.Written.{no_room}
use Rattle.compact_call.specs.Fresh.{IsBlank}
use Rattle.compact_call.specs.Outcomes.{CameOf}
use Rattle.compact_call.specs.declared.fault.CompactFault.{CompactFault}
use Rattle.compact_call.specs.declared.fault.CompactFault.TheVariants.{BadImage, NewImage, Full, ImageFailed, SinkFailed, OutOfMemory}

-- The old image stands for a graph, and the new one is blank and has room for it. Both tell what is done to them.
pub record IsUnhindered (old start : Told) : Type 0 where
  pub old_tells : IsTelling old.trace
  pub new_tells : IsTelling start.trace
  pub words : Words
  pub read : AreRead old words
  pub graph : Graph
  pub stands : StandsFor old.size words graph
  pub fresh : Words
  pub fresh_read : AreRead start fresh
  pub blank : IsBlank start fresh
  pub room : no_room start.size graph ≡ None

-- it was done, or something failed, or memory ran out
abbrev pub IsDoneOrFailed : Result (Unit {0}) CompactFault → Type 0
IsDoneOrFailed (Ok done) = Unit {0}
IsDoneOrFailed (Err ImageFailed) = Unit {0}
IsDoneOrFailed (Err SinkFailed) = Unit {0}
IsDoneOrFailed (Err OutOfMemory) = Unit {0}
IsDoneOrFailed (Err (BadImage line reason)) = ⊥
IsDoneOrFailed (Err (NewImage reason)) = ⊥
IsDoneOrFailed (Err (Full full)) = ⊥

-- Then it is done, but for failures and want of memory.
abbrev pub UnhinderedIsDone : Type 0
UnhinderedIsDone = (old start after : Told) (taken taken' : Option (List ℕ)) (outcome : Result (Unit {0}) CompactFault)
    → IsUnhindered old start → CameOf old start after taken taken' outcome → IsDoneOrFailed outcome
