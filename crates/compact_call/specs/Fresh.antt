-- A graph is written to a new image. What stops leave of it is told as in Chen, Ziegler, Chajed, Chlipala, Kaashoek and Zeldovich, "Using Crash
-- Hoare Logic for certifying the FSCQ file system", SOSP 2015.
use Rattle.std.specs.Prelude.{◌≡◌, ◌≢◌, ◌<◌, ◌≤◌, ℕ, None, Some, Result, Ok, Err}
use Rattle.graph_model.specs.declared.types.Graph.{Graph}
use Rattle.line_image.specs.Told.{Told}
use Rattle.line_image.specs.Trace.{Outcome, LeavesNow}
use Rattle.line_memory.specs.Memory.{IsTelling}
use Rattle.line_memory.specs.Moments.{Goes}
use Rattle.image_layout.specs.Places.{min_lines, max_lines}
use Rattle.image_layout.specs.Places as layout
use Rattle.image_meaning.specs.Checks.{Words}
use Rattle.image_opening.specs.Attached.{AreRead, IsSettled}
use Rattle.image_opening.specs.Unopened.{IsOfWrongSize}
use Rattle.dense_image.specs.Written.{no_room, IsWhole}
use Rattle.image_compact.specs.Outcomes.{IsBlankOrWhole}
use Rattle.statuses.specs.declared.status.NewReason.TheVariants.{Size, NotBlank}
use Rattle.compact_call.specs.declared.fault.CompactFault.{CompactFault}
use Rattle.compact_call.specs.declared.fault.CompactFault.TheVariants.{BadImage, NewImage, Full, ImageFailed, SinkFailed, OutOfMemory}

-- each stop between these two, within a call or after the last one, leaves words that have P
pub record StopsAre (start after : Told) (P : Outcome → Type 0) : Type 0 where
  pub within : Goes start after P
  pub now : (c : Outcome) → LeavesNow after.trace c → P c

-- an image can have so many lines
abbrev pub IsInRange : Told → Type 0
IsInRange start = (min_lines ≤ start.size) × (start.size ≤ max_lines)

-- and it is blank, if it has these words
abbrev pub IsBlank : Told → Words → Type 0
IsBlank start words = layout.IsBlank (words 0) start.size

-- reads of the image gave words of a blank one
pub record WasBlank (start : Told) : Type 0 where
  pub words : Words
  pub read : AreRead start words
  pub blank : IsBlank start words

-- or of one that isn't
pub record WasUsed (start : Told) : Type 0 where
  pub in_range : IsInRange start
  pub words : Words
  pub read : AreRead start words
  pub used : words 0 0 ≢ 0

-- each line has these words
abbrev pub HasWords : ℕ → Words → Outcome → Type 0
HasWords size words c = (l w : ℕ) → l < size → c l w ≡ words l w

-- Where it told what was done to it, and nothing was unfenced: a stop leaves of a blank image a blank one, or the whole graph, and any other as
-- it was.
pub record KeepsFresh (graph : Graph) (start after : Told) : Type 0 where
  pub size : after.size ≡ start.size
  pub blank : IsSettled start → (words : Words) → AreRead start words → IsBlank start words
      → StopsAre start after (IsBlankOrWhole start.size graph)
  pub used : IsSettled start → (words : Words) → AreRead start words → ¬ IsBlank start words
      → StopsAre start after (HasWords start.size words)

-- Where it told what was done to it, and nothing was unfenced, each stop leaves it as it was.
abbrev pub StaysAsItWas : Told → Told → Type 0
StaysAsItWas start after =
    IsSettled start → (words : Words) → AreRead start words → StopsAre start after (HasWords start.size words)

-- it was blank, and each stop from now on leaves the whole graph
pub record IsWrittenTo (graph : Graph) (start after : Told) : Type 0 where
  pub was : WasBlank start
  pub room : no_room start.size graph ≡ None
  pub whole : IsTelling start.trace → (c : Outcome) → LeavesNow after.trace c → IsWhole start.size c graph

-- it isn't written to, for this fault
abbrev pub IsNewFault : Graph → Told → CompactFault → Type 0
IsNewFault graph start (NewImage Size) = IsOfWrongSize start
IsNewFault graph start (NewImage NotBlank) = WasUsed start
IsNewFault graph start (Full full) = WasBlank start × (no_room start.size graph ≡ Some full)
IsNewFault graph start ImageFailed = Unit {0}
IsNewFault graph start OutOfMemory = Unit {0}
IsNewFault graph start (BadImage line reason) = ⊥
IsNewFault graph start SinkFailed = ⊥

-- what came of it
abbrev pub IsOfFresh : Graph → Told → Told → Result (Unit {0}) CompactFault → Type 0
IsOfFresh graph start after (Ok done) = IsWrittenTo graph start after
IsOfFresh graph start after (Err fault) = IsNewFault graph start fault

-- It is as it was where it can't be taken, has too little room, or memory ran out.
abbrev pub StaysIfRefused : Told → Told → CompactFault → Type 0
StaysIfRefused start after (NewImage reason) = StaysAsItWas start after
StaysIfRefused start after (Full full) = StaysAsItWas start after
StaysIfRefused start after OutOfMemory = StaysAsItWas start after
StaysIfRefused start after ImageFailed = Unit {0}
StaysIfRefused start after (BadImage line reason) = Unit {0}
StaysIfRefused start after SinkFailed = Unit {0}
