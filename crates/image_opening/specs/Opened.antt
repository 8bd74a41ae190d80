-- An image that was opened: attached, and then recovered. Its undo logs are those of failure-atomic regions (Shull, Huang and Torrellas,
-- "AutoPersist", PLDI 2019), of this project's own format.
use Rattle.std.specs.Prelude.{◌≡◌, ◌≢◌, ℕ, List, [], Ok}
use Rattle.graph_model.specs.declared.types.Graph.{Graph}
use Rattle.line_image.specs.Told.{Told}
use Rattle.line_memory.specs.Memory.{Memory, IsTelling, shown}
use Rattle.image_meaning.specs.Checks.{Words}
use Rattle.image_meaning.specs.Directories.{Directory, directory_of, no_entries}
use Rattle.image_meaning.specs.Laws.{Opens}
use Rattle.image_meaning.specs.Logs.{NoneLogged}
use Rattle.image_meaning.specs.Meaning.{StandsFor, IsWellFormed}
use Rattle.image_meaning.specs.Opening.{free_line}
use Rattle.word_changes.specs.Changes.{AllKnown, StopsLeave, GoesOn}
use Rattle.directories.specs.Formatting.{IsFormatted}
use Rattle.directories.specs.declared.stepping.Progress.TheVariants as stage
use Rattle.directories.specs.Kept.{Kept}
use Rattle.image_recovery.specs.Putting.{AllDurable, IsRecovered}
use Rattle.image_recovery.specs.Recovered.{FindsImage, FindsNothing, entries_in}
use Rattle.image_recovery.specs.Recoveries.{HasDirectory, StoresItsOwn}
use Rattle.image_opening.specs.Attached.{IsAttached}

-- the words spell this directory: a blank image has none of its entries
abbrev pub IsDirectoryIn : Words → Directory → Type 0
IsDirectoryIn words directory =
    (words 0 0 ≡ 0 → directory ≡ no_entries) × (words 0 0 ≢ 0 → directory_of words ≡ Ok directory)

-- It shows what recovery gives: a blank one is formatted; of any other, the words outside the logs are those
-- that it has once its logs are put back, and no log counts an entry.
pub record IsRecoveredAs (before m : Memory) : Type 0 where
  pub blank : shown before 0 0 ≡ 0 → IsFormatted before.size (shown m)
  pub used : shown before 0 0 ≢ 0 → IsRecovered before m

-- This was found in it, a blank one standing for the graph without roots and nodes: its directory, of which no entry is planned, its graph,
-- whose nodes begin at these lines, the first line behind them, the version that its superblock has now, and how many logs had entries.
pub record IsFoundIn (before m : Memory) (version : ℕ) (directory : Kept) (graph : Graph) (lines : List ℕ) (free undone : ℕ)
    : Type 0 where
  pub blank : shown before 0 0 ≡ 0 → FindsNothing directory graph lines free undone
  pub used : shown before 0 0 ≢ 0 → FindsImage before.size (shown before) directory graph lines free undone
  pub version_is : version ≡ shown m 0 1
  pub directory_is : IsDirectoryIn (shown before) (entries_in directory)
  pub unplanned : directory.left ≡ []
  pub begins : directory.progress ≡ stage.Words 0
  pub in_use : directory.used ≡ shown m 0 3
  pub free_is : free ≡ free_line (shown m) lines

-- The image, which told `start`, was attached and fenced: its memory was `before` then. It stood for this graph, and still does: each stop
-- since then leaves an image that does so, and that has this directory. In a blank one the layout was stored; in any other words were put
-- back from logs and counts of logs cleared, alone. It is recovered, all durable: it opens with the directory, no check of it fails, and no
-- log counts an entry.
pub record IsOpenImage (start : Told) (before m : Memory) (version : ℕ) (directory : Kept) (graph : Graph) (lines : List ℕ)
    (free undone : ℕ) : Type 0 where
  pub attached : IsAttached start before
  pub stands : StandsFor before.size (shown before) graph
  pub found : IsFoundIn before m version directory graph lines free undone
  pub goes_on : GoesOn before m
  pub stops : IsTelling start.trace → StopsLeave before m (λ c. StandsFor before.size c graph)
  pub directory_stays : IsTelling start.trace → StopsLeave before m (λ c. HasDirectory before.size c (entries_in directory))
  pub stores : StoresItsOwn before m
  pub recovered : IsRecoveredAs before m
  pub known : AllKnown m
  pub stands_now : StandsFor m.size (shown m) graph
  pub well_formed : IsWellFormed m.size (shown m)
  pub opens : Opens m.size (shown m) (entries_in directory)
  pub unlogged : NoneLogged (shown m)
  pub durable : AllDurable m
