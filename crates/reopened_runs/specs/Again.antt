-- A run on what a stop of another one left.
use Rattle.std.specs.Prelude.{◌≡◌, ◌≢◌, ℕ, List, []}
use Rattle.ap_base.specs.declared.source.NamedBytes.{NamedBytes}
use Rattle.graph_model.specs.declared.types.Graph.{Graph}
use Rattle.image_layout.specs.declared.superblock.BadReason.{BadReason}
use Rattle.image_meaning.specs.Checks.{Words}
use Rattle.line_image.specs.Told.{Told}
use Rattle.line_image.specs.Trace.{IsAllFenced}
use Rattle.run_history.specs.Recorded.{Recorded}
use Rattle.run_types.specs.declared.fault.Which.{Which}
use Rattle.command_words.specs.declared.command.Run.{Run as RunWords}
use Rattle.autopersist.specs.Passed.{AreRead, BadImage, CannotOpen, Full, FullOf, HadOtherShape, LackedRoom, Linked, OfChoice}
use Rattle.autopersist.specs.Passed.{ShapeChanged, Status}
use Rattle.reopened_runs.specs.Left.{AreAsked, AsksRun, IsSomeLeft, RecoversAllowed}

-- the image is bad
abbrev pub IsBadImage : Status → Type 0
IsBadImage how = (line : ℕ) × (reason : BadReason) × (how ≡ BadImage line reason)

-- the image stood for a graph, and had nothing unfenced
abbrev pub StoodFenced : Told → Type 0
StoodFenced start = IsAllFenced start.trace × (before : Graph) × IsSomeLeft start before

-- The directory that the image's words spelled has a shape that isn't the set's: the first has this name.
abbrev pub HadOther : Linked → Told → (shape : List ℕ) → Type 0
HadOther set start shape = (words : Words) × AreRead start words × HadOtherShape set words shape

-- The directory that the image's words spelled had too little of this for the entries that it lacked of the set's.
abbrev pub HadLittleRoom : Linked → Told → Which → Type 0
HadLittleRoom set start which = (words : Words) × AreRead start words × LackedRoom set words which

-- A run of these words, with files of its own, ended so, on the image that a stop behind the last call of the first one left. That told `left`
-- first, and tells `after` behind it.
pub record RunsAgain (words : List (List ℕ)) (files files' : List NamedBytes) (start : Told) (opening : Graph) (acts : List Recorded)
    (left after : Told) (opening' : Graph) (acts' : List Recorded) (how : Status) : Type 0 where
  -- What the stop left is no bad image; where the first run made no acts, if its image stood for a graph, and had nothing unfenced.
  pub opens : (run : RunWords) → AsksRun words run → (acts ≡ [] → StoodFenced start) → IsBadImage how → ⊥
  -- Nor has a shape of the same files changed, but where the first run made no acts, and the shape was in the image before it.
  pub agrees : (run : RunWords) → AsksRun words run → (acts ≡ [] → StoodFenced start) → files' ≡ files
      → (shape : List ℕ) → how ≡ ShapeChanged shape
      → (acts ≡ []) × OfChoice (AreAsked run files) (λ choice. HadOther choice.set start shape)
  -- Nor is it refused for want of room in its directory, but where the first run made no acts, and the image's had too little before it.
  pub roomy : (run : RunWords) → AsksRun words run → (acts ≡ [] → StoodFenced start) → files' ≡ files
      → (full : Full) → OfChoice (AreAsked run files') (λ choice. CannotOpen choice.set left after (FullOf full))
      → (acts ≡ []) × OfChoice (AreAsked run files) (λ choice. HadLittleRoom choice.set start full.which)
  -- The second run begins with a graph that the acts of the first one allow.
  pub goes_on : (run : RunWords) → AsksRun words run → acts ≢ [] → files' ≡ files → acts' ≢ []
      → RecoversAllowed (AreAsked run files) start opening acts acts opening'
