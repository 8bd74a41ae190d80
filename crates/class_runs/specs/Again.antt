-- Images that a stop of a run left, under the next run of the same set.
use Rattle.std.specs.Prelude.{◌≡◌, ◌⊎◌, ℕ, List, [], Option}
use Rattle.graph_model.specs.declared.types.Graph.{Graph}
use Rattle.line_image.specs.Told.{Told}
use Rattle.line_image.specs.Trace.{Outcome}
use Rattle.line_memory.specs.Memory.{IsTelling}
use Rattle.image_layout.specs.declared.superblock.BadReason.{BadReason}
use Rattle.image_meaning.specs.Checks.{Words}
use Rattle.image_meaning.specs.Directories.{Directory}
use Rattle.image_meaning.specs.Meaning.{StandsFor}
use Rattle.run_history.specs.Recorded.{Recorded}
use Rattle.class_set.specs.Facts.{facts_of}
use Rattle.class_set.specs.Linked.{Linked}
use Rattle.durable_launch.specs.Passed.{AreRead, IsDirectoryIn, IsOtherShape, LacksRoom}
use Rattle.run_types.specs.declared.fault.Which.{Which}
use Rattle.run_types.specs.declared.limits.Limits.{Limits}
use Rattle.statuses.specs.Stages.{OfOpening, stage_of}
use Rattle.statuses.specs.declared.status.Status.{Status}
use Rattle.statuses.specs.declared.status.Status.TheVariants as status
use Rattle.class_runs.specs.Sets.{CannotOpen, IsOpenedSo, SetEnds, StandsAllowed, StandsRightly}

-- The image has as many lines, tells what is done to it, and reads of it give what the stop left.
pub record IsLeftBy (start : Told) (left : Outcome) (again : Told) : Type 0 where
  pub size : again.size ≡ start.size
  pub telling : IsTelling again.trace
  pub read : AreRead again left

-- The directory that these words spelled has shapes that aren't the set's: the first has this name.
pub record HadOtherShape (set : Linked) (before : Words) (name : List ℕ) : Type 0 where
  pub found : Directory
  pub found_is : IsDirectoryIn before found
  pub other : IsOtherShape (facts_of set) found.shapes name

-- The directory that these words spelled had too few words, or too few slots for roots, for the entries that it lacked of the set's.
pub record LackedRoom (set : Linked) (before : Words) (which : Which) : Type 0 where
  pub found : Directory
  pub found_is : IsDirectoryIn before found
  pub lacks : LacksRoom set found which

-- The image was refused for the set as it was before: one of its own shapes isn't the set's, or its directory lacked room for the set's entries.
abbrev pub IsRefusedStill : Linked → (before : Words) → Status → Type 0
IsRefusedStill set before (status.ShapeChanged name) = HadOtherShape set before name
IsRefusedStill set before (status.Full full) = LackedRoom set before full.which
IsRefusedStill set before other = ⊥

-- What stops of a run of a set over an image left opens again.
pub record StoppedRunsOpenAgain : Type 0 where
  -- BadImage and ShapeChanged come where an image can't be opened, and nowhere else.
  pub refusals : (set : Linked) (name : List ℕ) (limits : Limits) (start : Told) (takes : ℕ → ℕ → Option ℕ) (opening : Graph) (acts : List Recorded)
      (after : Told) (how : Status) → SetEnds set name limits start takes opening acts after how → stage_of how ≡ OfOpening → CannotOpen set start after how
  -- For no set it is bad, where the image stood for a graph before.
  pub not_bad : (set other : Linked) (start : Told) (opening : Graph) (all acts : List Recorded) (before : Words) (stood : Graph)
      (left : Outcome) → StandsFor start.size before stood → StandsRightly set start opening all acts before left
      → (again after : Told) → IsLeftBy start left again → (line : ℕ) (reason : BadReason)
      → CannotOpen other again after (status.BadImage line reason) → ⊥
  -- What a stop leaves isn't refused for the set: opening ends by a fault of the image, or for want of memory, alone. Only where there are no
  -- acts, it may be refused as it was before the run; no entry that the run appended is why.
  pub unrefused : (set : Linked) (start : Told) (opening : Graph) (all acts : List Recorded) (before : Words) (stood : Graph)
      (left : Outcome) → StandsFor start.size before stood → StandsRightly set start opening all acts before left
      → (again after : Told) → IsLeftBy start left again → (how : Status) → CannotOpen set again after how
      → (how ≡ status.ImageFault) ⊎ (how ≡ status.OutOfMemory) ⊎ ((acts ≡ []) × IsRefusedStill set before how)
  -- Once the image was opened for the set, not so either.
  pub unrefused_behind : (set : Linked) (start : Told) (opening : Graph) (all acts : List Recorded) (left : Outcome)
      → StandsAllowed set start opening all acts left → (again after : Told) → IsLeftBy start left again
      → (how : Status) → CannotOpen set again after how → (how ≡ status.ImageFault) ⊎ (how ≡ status.OutOfMemory)
  -- And the next run begins with the very graph that the stop left, which the acts allow.
  pub goes_on : (set : Linked) (start : Told) (opening : Graph) (all acts : List Recorded) (left : Outcome)
      (stands : StandsAllowed set start opening all acts left) (again : Told) → IsLeftBy start left again
      → (graph : Graph) → IsOpenedSo set again graph → graph ≡ stands.allowed.graph
