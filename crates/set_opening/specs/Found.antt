-- An image that was opened, and over which a run can begin. These are the undo logs of failure-atomic regions (Shull,
-- Huang and Torrellas, "AutoPersist", PLDI 2019), of this project's own format.
pub use Rattle.image_opening.specs.Opened.{IsDirectoryIn, IsRecoveredAs}
pub use Rattle.image_recovery.specs.Recoveries.{HasDirectory, StoresItsOwn}
use Rattle.std.specs.Prelude.{◌≡◌, ℕ, List, []}
use Rattle.graph_model.specs.declared.types.Graph.{Graph}
use Rattle.line_image.specs.Told.{Told}
use Rattle.line_memory.specs.Memory.{Memory, IsTelling, shown}
use Rattle.image_meaning.specs.Laws.{Opens}
use Rattle.image_meaning.specs.Logs.{NoneLogged}
use Rattle.image_meaning.specs.Meaning.{StandsFor, IsWellFormed}
use Rattle.image_meaning.specs.Opening.{free_line}
use Rattle.word_changes.specs.Changes.{AllKnown, StopsLeave, GoesOn}
use Rattle.directories.specs.declared.stepping.Progress.TheVariants as stage
use Rattle.directories.specs.Kept.{Kept}
use Rattle.image_recovery.specs.Putting.{AllDurable}
use Rattle.image_recovery.specs.Recovered.{entries_in}
use Rattle.first_spaces.specs.Opened.{IsOpened}
use Rattle.set_opening.specs.Attached.{IsAttached}

-- It stood for this graph, and still does: each stop since it was attached leaves an image that does so, and
-- that has this directory. In a blank one the layout was stored; in any other words were put back from logs and counts of logs cleared, alone.
-- It opens with the directory, no entry of it is planned, nothing is logged, and a run can begin over it.
-- The nodes of the graph begin at these lines.
pub record IsFound (start : Told) (before m : Memory) (directory : Kept) (graph : Graph) (lines : List ℕ)
    (free : ℕ) : Type 0 where
  pub attached : IsAttached start before
  pub stands : StandsFor before.size (shown before) graph
  pub goes_on : GoesOn before m
  pub stops : IsTelling start.trace → StopsLeave before m (λ c. StandsFor before.size c graph)
  pub directory_stays : IsTelling start.trace → StopsLeave before m (λ c. HasDirectory before.size c (entries_in directory))
  pub found_is : IsDirectoryIn (shown before) (entries_in directory)
  pub stores : StoresItsOwn before m
  pub recovered : IsRecoveredAs before m
  pub known : AllKnown m
  pub stands_now : StandsFor m.size (shown m) graph
  pub well_formed : IsWellFormed m.size (shown m)
  pub opens : Opens m.size (shown m) (entries_in directory)
  pub unlogged : NoneLogged (shown m)
  pub unplanned : directory.left ≡ []
  pub begins : directory.progress ≡ stage.Words 0
  pub used : directory.used ≡ shown m 0 3
  pub opened : IsOpened m (entries_in directory) lines graph
  pub free_is : free ≡ free_line (shown m) lines
  pub durable : AllDurable m
