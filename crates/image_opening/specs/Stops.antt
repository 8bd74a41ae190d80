-- What stops leave of an image since it told `start`, up to the moment where it tells `after`, and from then on. A crash condition, as in
-- Chen, Ziegler, Chajed, Chlipala, Kaashoek and Zeldovich, "Using Crash Hoare Logic for certifying the FSCQ file system", SOSP 2015.
use Rattle.std.specs.Prelude.{◌≡◌}
use Rattle.graph_model.specs.declared.types.Graph.{Graph}
use Rattle.line_image.specs.Told.{Told}
use Rattle.line_image.specs.Trace.{LeavesNow, Outcome}
use Rattle.line_memory.specs.Moments.{Goes}
use Rattle.image_meaning.specs.Checks.{Words}
use Rattle.image_meaning.specs.Meaning.{StandsFor}
use Rattle.image_opening.specs.Attached.{AreRead, IsSettled}

-- Each stop since then, within a call or after the last one, leaves an image that stands for this graph.
pub record StopsStandFor (start after : Told) (graph : Graph) : Type 0 where
  pub within : Goes start after (λ c. StandsFor start.size c graph)
  pub now : (c : Outcome) → LeavesNow after.trace c → StandsFor start.size c graph

-- For whatever graph the image stood, so it is with that one.
abbrev pub KeepsItsGraph : Told → Told → Type 0
KeepsItsGraph start after = (words : Words) (graph : Graph) → AreRead start words → StandsFor start.size words graph
    → StopsStandFor start after graph

-- The image stood for this graph when it told `start`, and does so now. Where it told what was done to it, and nothing was unfenced, so does
-- what each stop leaves.
pub record IsGivenBack (start after : Told) (graph : Graph) : Type 0 where
  pub size : after.size ≡ start.size
  pub words : Words
  pub read : AreRead start words
  pub stood : StandsFor start.size words graph
  pub stops : IsSettled start → StopsStandFor start after graph
