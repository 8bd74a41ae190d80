-- What a recovery comes to: an image that is recovered, or one that isn't. Of this project's own format.
use Rattle.std.specs.Prelude.{◌≡◌, ◌≢◌, ◌⊎◌, ◌≤◌, ◌+◌, ◌*◌, ℕ, List, None}
use Rattle.ap_base.specs.Causes.{IsCauseOf}
use Rattle.graph_model.specs.declared.types.Graph.{Graph}
use Rattle.line_memory.specs.Memory.{Memory, shown}
use Rattle.image_layout.specs.Places.{max_lines, min_lines, logs, log_entries}
use Rattle.image_meaning.specs.Checks.{Words}
use Rattle.image_meaning.specs.Directories.{Directory, no_entries}
use Rattle.image_meaning.specs.Laws.{Opens}
use Rattle.image_meaning.specs.Logs.{NoneLogged, logs_fault}
use Rattle.image_meaning.specs.Meaning.{meaning, StandsFor, IsWellFormed}
use Rattle.word_changes.specs.Changes.{Nothing, Tells, AllKnown, ChangesTo, StopsLeave, GoesOn}
use Rattle.directories.specs.Kept.{Kept}
use Rattle.directories.specs.Formatting.{IsFormatted, OfLayout}
use Rattle.image_walk.specs.Walking.{IsFaultOf}
use Rattle.image_walk.specs.declared.fault.RecoverFault.{RecoverFault}
use Rattle.image_walk.specs.declared.fault.RecoverFault.TheVariants.{ImageFailed}
use Rattle.image_recovery.specs.Putting.{IsPutBack, IsRestored, AllWritten, AllDurable, IsRecovered, IsRecoveringIn}
use Rattle.image_recovery.specs.Recovered.{FailsFirst, FindsImage, FindsNothing, IsBadFault}

-- Where the image tells what was done to it, and nothing is stored that isn't durable, a stop at any moment leaves an
-- image that stands for the graph for which it stood.
abbrev pub StopsKeepTheGraph : Memory → Memory → Type 0
StopsKeepTheGraph old new = Tells old → AllDurable old → AllWritten old → (graph : Graph)
    → StandsFor old.size (shown old) graph → StopsLeave old new (λ c. StandsFor old.size c graph)

-- The image opens with this directory; a blank one has none of its entries.
abbrev pub HasDirectory : ℕ → Words → Directory → Type 0
HasDirectory size words directory = ((words 0 0 ≡ 0) × (directory ≡ no_entries)) ⊎ Opens size words directory

-- Likewise one that has the directory that it had.
abbrev pub StopsKeepTheDirectory : Memory → Memory → Type 0
StopsKeepTheDirectory old new = Tells old → AllDurable old → AllWritten old → min_lines ≤ old.size → old.size ≤ max_lines
    → (directory : Directory) → HasDirectory old.size (shown old) directory
    → StopsLeave old new (λ c. HasDirectory old.size c directory)

-- What is stored, whatever comes of it: in a blank image the words of the layout; in any other words are put back and counts of
-- logs cleared, alone. Where the superblock, the directory or the logs fail their checks nothing is.
pub record StoresItsOwn (old new : Memory) : Type 0 where
  pub blank : AllKnown old → shown old 0 0 ≡ 0 → ChangesTo (OfLayout old.size) old new
  pub used : AllKnown old → shown old 0 0 ≢ 0 → ChangesTo (IsRestored (shown old)) old new
  pub refused : AllKnown old → FailsFirst old.size (shown old) → ChangesTo Nothing old new

-- The most calls of the image that a recovery makes: a write-back for each entry of each log and for each log's count, and a fence
-- behind the entries and behind the counts. A blank image takes fewer.
abbrev pub most_recovery_calls : ℕ
most_recovery_calls = logs * log_entries + logs + 2

-- This was found in an image, and it is recovered.
pub record Recovers (old new : Memory) (directory : Kept) (graph : Graph) (lines : List ℕ) (free undone : ℕ) : Type 0 where
  -- it stood for this graph, and stands for it now
  pub stands : AllKnown old → StandsFor old.size (shown old) graph
  pub stands_now : AllKnown old → StandsFor new.size (shown new) graph
  -- what is found in a blank one, and in any other
  pub blank : AllKnown old → shown old 0 0 ≡ 0 → FindsNothing directory graph lines free undone
  pub used : AllKnown old → shown old 0 0 ≢ 0 → FindsImage old.size (shown old) directory graph lines free undone
  -- what its lines show now
  pub formatted : AllKnown old → shown old 0 0 ≡ 0 → IsFormatted old.size (shown new)
  pub recovered : AllKnown old → shown old 0 0 ≢ 0 → IsRecovered old new
  pub well_formed : AllKnown old → IsWellFormed new.size (shown new)
  pub empty : AllKnown old → NoneLogged (shown new)
  pub durable : Tells old → AllWritten old → AllDurable old → AllDurable new
  pub stores : StoresItsOwn old new
  -- what stops leave, meanwhile and from now on
  pub stops : StopsKeepTheGraph old new
  pub directory_stays : StopsKeepTheDirectory old new
  pub recovering : Tells old → AllDurable old → AllWritten old → shown old 0 0 ≢ 0
      → StopsLeave old new (IsRecoveringIn old.size (shown old))
  -- the memory goes on, and its image didn't fail
  pub goes_on : GoesOn old new
  pub spared : new.faults ≡ old.faults

-- An image isn't recovered, for this fault.
pub record FailsToRecover (old new : Memory) (fault : RecoverFault) : Type 0 where
  pub bad : AllKnown old → IsFaultOf (meaning old.size (shown old)) fault
  pub cause : IsCauseOf ImageFailed fault old.faults new.faults
  -- where it is bad, words were put back alone
  pub put_back : AllKnown old → IsBadFault fault → ChangesTo (IsPutBack (shown old)) old new
  pub stores : StoresItsOwn old new
  -- what stops leave, meanwhile and from now on
  pub stops : StopsKeepTheGraph old new
  pub directory_stays : StopsKeepTheDirectory old new
  pub recovering : Tells old → AllDurable old → AllWritten old → min_lines ≤ old.size → shown old 0 0 ≢ 0
      → logs_fault old.size (shown old) ≡ None → StopsLeave old new (IsRecoveringIn old.size (shown old))
  -- the memory goes on
  pub goes_on : GoesOn old new
