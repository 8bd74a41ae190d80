-- What the readers of a log tell of what is under way in it.
use Rattle.std.specs.Prelude.{Bool, true, false, Option, Some, None}
use Rattle.region_log.specs.declared.entry.Entry.{Entry}
use Rattle.region_log.specs.declared.entry.EndStage.TheVariants.{Writing, AllFenced, Clearing, Cleared}
use Rattle.region_log.specs.declared.entry.Underway.{Underway}
use Rattle.region_log.specs.declared.entry.Underway.TheVariants.{Nothing, Adding, Ending}

-- the entry that is being added
abbrev pub added_entry : Underway → Option Entry
added_entry Nothing = None
added_entry (Adding e stage) = Some e
added_entry (Ending stage) = None

-- whether the end of a region is under way
abbrev pub is_ending : Underway → Bool
is_ending Nothing = false
is_ending (Adding e stage) = false
is_ending (Ending stage) = true

-- whether the count 0 is written back, so that the last fence of a region's end is left
abbrev pub is_cleared : Underway → Bool
is_cleared Nothing = false
is_cleared (Adding e stage) = false
is_cleared (Ending (Writing lines)) = false
is_cleared (Ending AllFenced) = false
is_cleared (Ending Clearing) = false
is_cleared (Ending Cleared) = true
