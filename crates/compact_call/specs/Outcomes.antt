-- What comes of writing an image anew. Of this project's own format.
use Rattle.std.specs.Prelude.{◌≡◌, ◌⊎◌, ◌<◌, ◌++◌, ◌∷◌, [], ℕ, List, Option, codes, decimal, length, take, Result, Ok, Err, IfErr}
use Rattle.ap_base.specs.Sinks.{with_bytes}
use Rattle.graph_model.specs.declared.types.Graph.{Graph}
use Rattle.line_image.specs.Told.{Told}
use Rattle.image_meaning.specs.Checks.{Words}
use Rattle.image_meaning.specs.Meaning.{StandsFor}
use Rattle.image_opening.specs.Attached.{AreRead}
use Rattle.image_opening.specs.Unopened.{IsBad, IsOfWrongSize}
use Rattle.dense_image.specs.Written.{lines_taken}
use Rattle.compact_call.specs.Fresh.{KeepsFresh, IsWrittenTo, IsOfFresh, StaysIfRefused}
use Rattle.statuses.specs.declared.status.NewReason.TheVariants.{Size}
use Rattle.compact_call.specs.declared.fault.CompactFault.{CompactFault}
use Rattle.compact_call.specs.declared.fault.CompactFault.TheVariants.{BadImage, NewImage, Full, ImageFailed, SinkFailed, OutOfMemory}

-- how many nodes were written, and how many lines they take
abbrev pub written_line : Graph → List ℕ
written_line graph =
    codes "nodes " ++ decimal (length graph.nodes) ++ codes " lines " ++ decimal (lines_taken graph.nodes) ++ 10 ∷ []

-- the image stood for this graph
pub record StoodFor (start : Told) (graph : Graph) : Type 0 where
  pub words : Words
  pub read : AreRead start words
  pub stands : StandsFor start.size words graph

-- ---- the old image

-- it couldn't be opened, for this fault
abbrev pub IsOldFault : Told → CompactFault → Type 0
IsOldFault start (BadImage line reason) = IsBad start line reason
IsOldFault start ImageFailed = Unit {0}
IsOldFault start OutOfMemory = Unit {0}
IsOldFault start (NewImage reason) = ⊥
IsOldFault start (Full full) = ⊥
IsOldFault start SinkFailed = ⊥

-- ---- all of it

-- What was put once the graph was written: all of the line, or a front of it where the sink failed, or nothing.
abbrev pub Puts : Graph → Option (List ℕ) → Option (List ℕ) → Result (Unit {0}) CompactFault → Type 0
Puts graph taken taken' (Ok done) = taken' ≡ with_bytes taken (written_line graph)
Puts graph taken taken' (Err SinkFailed) =
    (k : ℕ) × (k < length (written_line graph)) × (taken' ≡ with_bytes taken (take k (written_line graph)))
Puts graph taken taken' (Err OutOfMemory) = taken' ≡ taken
Puts graph taken taken' (Err ImageFailed) = taken' ≡ taken
Puts graph taken taken' (Err (NewImage reason)) = taken' ≡ taken
Puts graph taken taken' (Err (Full full)) = taken' ≡ taken
Puts graph taken taken' (Err (BadImage line reason)) = ⊥

-- what came of the new image: it is written also where the sink failed
abbrev pub IsOfNew : Graph → Told → Told → Result (Unit {0}) CompactFault → Type 0
IsOfNew graph start after (Err SinkFailed) = IsWrittenTo graph start after
IsOfNew graph start after outcome = IsOfFresh graph start after outcome

-- The old image stood for this graph, and it was tried to write it to the new one.
pub record IsTried (graph : Graph) (old start after : Told) (taken taken' : Option (List ℕ)) (outcome : Result (Unit {0}) CompactFault)
    : Type 0 where
  pub stood : StoodFor old graph
  pub keeps : KeepsFresh graph start after
  -- its size is the first thing that is looked at
  pub sized : IsOfWrongSize start → outcome ≡ Err (NewImage Size)
  pub came : IsOfNew graph start after outcome
  pub refused : IfErr outcome (StaysIfRefused start after)
  pub puts : Puts graph taken taken' outcome

-- the old image couldn't be opened
pub record IsUnopened (old start after : Told) (taken taken' : Option (List ℕ)) (fault : CompactFault) : Type 0 where
  pub fault_is : IsOldFault old fault
  pub same : after ≡ start
  pub nothing : taken' ≡ taken

abbrev pub CameOf : Told → Told → Told → Option (List ℕ) → Option (List ℕ) → Result (Unit {0}) CompactFault → Type 0
CameOf old start after taken taken' outcome =
    ((fault : CompactFault) × (outcome ≡ Err fault) × IsUnopened old start after taken taken' fault)
    ⊎ ((graph : Graph) × IsTried graph old start after taken taken' outcome)
