-- What writing a graph to an image comes to. A stop at any moment leaves a blank image, or the whole graph: no durable state is ever half made
-- (Shull, Huang and Torrellas, "AutoPersist", PLDI 2019). Of this project's own format.
use Rattle.std.specs.Prelude.{◌≡◌, ◌≢◌, ◌⊎◌, ℕ, None, Some}
use Rattle.ap_base.specs.Causes.{IsCauseOf}
use Rattle.graph_model.specs.declared.types.Graph.{Graph}
use Rattle.line_image.specs.Trace.{Outcome}
use Rattle.line_memory.specs.Memory.{Memory, shown, CanLeaveAll}
use Rattle.image_layout.specs.Places.{IsBlank}
use Rattle.image_meaning.specs.Checks.{Words}
use Rattle.word_changes.specs.Changes.{Tells, AllKnown, IsFixed, Nothing, ChangesTo, StopsLeave, GoesOn}
use Rattle.dense_image.specs.Written.{no_room, IsWhole}
use Rattle.image_compact.specs.declared.fault.WriteFault.{WriteFault}
use Rattle.image_compact.specs.declared.fault.WriteFault.TheVariants.{NotBlank, Full, ImageFailed, OutOfMemory}

-- nothing is written yet, or the whole graph is
abbrev pub IsBlankOrWhole : ℕ → Graph → Words → Type 0
IsBlankOrWhole size graph words = IsBlank (words 0) size ⊎ IsWhole size words graph

-- Where each stop would have left a blank image, a stop at any moment leaves one, or the whole graph.
abbrev pub StopsKeepBlankOrWhole : Graph → Memory → Memory → Type 0
StopsKeepBlankOrWhole graph old new = Tells old → IsFixed old 0 0 0 → StopsLeave old new (IsBlankOrWhole old.size graph)

-- The graph is written to an image that was blank.
pub record Writes (graph : Graph) (old new : Memory) : Type 0 where
  pub was_blank : AllKnown old → shown old 0 0 ≡ 0
  pub room : no_room old.size graph ≡ None
  -- what its lines show now
  pub whole : AllKnown old → IsWhole new.size (shown new) graph
  -- what stops leave, meanwhile and from now on
  pub stops : StopsKeepBlankOrWhole graph old new
  pub kept : Tells old → (c : Outcome) → CanLeaveAll new c → IsWhole old.size c graph
  pub goes_on : GoesOn old new
  pub spared : new.faults ≡ old.faults

-- What the fault says of the image. It is as it was, unless it failed.
abbrev pub IsRefused : Graph → WriteFault → Memory → Memory → Type 0
IsRefused graph NotBlank old new = (AllKnown old → shown old 0 0 ≢ 0) × ChangesTo Nothing old new
IsRefused graph (Full full) old new =
    (AllKnown old → shown old 0 0 ≡ 0) × (no_room old.size graph ≡ Some full) × ChangesTo Nothing old new
IsRefused graph ImageFailed old new = Unit {0}
IsRefused graph OutOfMemory old new = ChangesTo Nothing old new

-- The graph isn't written, for this fault.
pub record FailsToWrite (graph : Graph) (fault : WriteFault) (old new : Memory) : Type 0 where
  pub refused : IsRefused graph fault old new
  -- whatever is wanting, an image that isn't blank stays as it was
  pub not_blank : AllKnown old → shown old 0 0 ≢ 0 → ChangesTo Nothing old new
  -- what stops leave, meanwhile and from now on
  pub stops : StopsKeepBlankOrWhole graph old new
  pub goes_on : GoesOn old new
  pub cause : IsCauseOf ImageFailed fault old.faults new.faults
