-- Which words a log's region has guarded: those that are logged, and the one that is being added; and whether
-- the region is closing.
use Rattle.std.specs.Prelude.{◌⊎◌, Bool, true, false, List, [], ◌∷◌, ◌||◌}
use Rattle.ap_base.specs.declared.place.Spot.{Spot}
use Rattle.region_log.specs.declared.entry.Entry.{Entry}
use Rattle.region_log.specs.declared.entry.EndStage.TheVariants.{Writing, AllFenced, Clearing, Cleared}
use Rattle.region_log.specs.declared.entry.Underway.{Underway}
use Rattle.region_log.specs.declared.entry.Underway.TheVariants.{Nothing, Adding, Ending}
use Rattle.region_log.specs.Log.{Log, SameWord, IsLogged}

-- the entry of this word is being added
abbrev pub IsAdded : Underway → Spot → Type 0
IsAdded Nothing spot = ⊥
IsAdded (Adding e stage) spot = SameWord e.spot spot
IsAdded (Ending stage) spot = ⊥

-- the word is logged, or its entry is being added
abbrev pub IsGuarded : Log → Spot → Type 0
IsGuarded log spot = IsLogged log.entries spot ⊎ IsAdded log.underway spot

abbrev pub is_some : List Entry → Bool
is_some [] = false
is_some (e ∷ entries) = true

abbrev pub is_adding : Underway → Bool
is_adding Nothing = false
is_adding (Adding e stage) = true
is_adding (Ending stage) = false

-- whether the region has guarded anything
abbrev pub has_guarded : Log → Bool
has_guarded log = is_some log.entries || is_adding log.underway

-- A region is closing once all that it logged is fenced, until it has ended.
abbrev pub is_closing : Underway → Bool
is_closing Nothing = false
is_closing (Adding e stage) = false
is_closing (Ending (Writing lines)) = false
is_closing (Ending AllFenced) = true
is_closing (Ending Clearing) = true
is_closing (Ending Cleared) = true
