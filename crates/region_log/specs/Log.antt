-- The undo log of one thread's failure-atomic regions, and which of its entries a stop leaves.
--
-- Before a word is stored to, it is copied to the log and made durable there; only then the entry counts.
-- When the region is over, the log is emptied, once what it logged is durable (Mohan, Haderle, Lindsay,
-- Pirahesh and Schwarz, "ARIES", ACM TODS 17 (1), 1992, on undo; Shull, Huang and Torrellas, "AutoPersist",
-- PLDI 2019, on failure-atomic regions). Its form in the image is this project's own.
use Rattle.std.specs.Prelude.{◌≡◌, ◌⊎◌, ℕ, ◌+◌, ◌*◌, List, [], ◌∷◌, ◌++◌, map, Any}
use Rattle.ap_base.specs.declared.place.Spot.{Spot}
use Rattle.image_layout.specs.Places.{log_entries}
use Rattle.image_meaning.specs.Logs.{Logged, log_of}
use Rattle.line_image.specs.Trace.{Outcome}
use Rattle.region_log.specs.declared.entry.Entry.{Entry}
use Rattle.region_log.specs.declared.entry.EntryStage.{EntryStage}
use Rattle.region_log.specs.declared.entry.EntryStage.TheVariants.{Begun, Written, Fenced, Counting, Counted}
use Rattle.region_log.specs.declared.entry.EndStage.{EndStage}
use Rattle.region_log.specs.declared.entry.EndStage.TheVariants.{Writing, AllFenced, Clearing, Cleared}
use Rattle.region_log.specs.declared.entry.Underway.{Underway}
use Rattle.region_log.specs.declared.entry.Underway.TheVariants.{Nothing, Adding, Ending}

-- whose log it is, how many of its regions are open, one within another, the entries, and what is under way
pub record Log : Type 0 where
  pub thread : ℕ
  pub depth : ℕ
  pub entries : List Entry
  pub underway : Underway

-- how many entries a thread's log can have: as many as its own lines hold
abbrev pub most_entries : ℕ
most_entries = log_entries

abbrev pub entry_of : Spot → ℕ → Entry
entry_of spot old = record { spot = spot; old = old }

-- two spots of one word
abbrev pub SameWord : Spot → Spot → Type 0
SameWord a b = (a.line ≡ b.line) × (a.word ≡ b.word)

-- the word is logged
abbrev pub IsLogged : List Entry → Spot → Type 0
IsLogged entries spot = Any (λ (e : Entry). SameWord e.spot spot) entries

-- an entry as it stands in the image: the place is 8 × line + word
abbrev pub logged_of : Entry → Logged
logged_of e = record { place = 8 * e.spot.line + e.spot.word; old = e.old }

-- a stop left exactly these entries in the thread's log
abbrev pub LeftEntries : ℕ → List Entry → Outcome → Type 0
LeftEntries t entries c = log_of c t ≡ map logged_of entries

-- While an entry is added, a stop leaves the others alone up to the moment where the count may be raised, and
-- from then on the entry behind them or not.
abbrev pub LeftAdding : ℕ → List Entry → Entry → EntryStage → Outcome → Type 0
LeftAdding t entries e Begun c = LeftEntries t entries c
LeftAdding t entries e Written c = LeftEntries t entries c
LeftAdding t entries e Fenced c = LeftEntries t entries c
LeftAdding t entries e Counting c = LeftEntries t entries c ⊎ LeftEntries t (entries ++ e ∷ []) c
LeftAdding t entries e Counted c = LeftEntries t entries c ⊎ LeftEntries t (entries ++ e ∷ []) c

-- While the region is ended, a stop leaves all entries, and from the moment on where the count may be lowered
-- all or none.
abbrev pub LeftEnding : ℕ → List Entry → EndStage → Outcome → Type 0
LeftEnding t entries (Writing lines) c = LeftEntries t entries c
LeftEnding t entries AllFenced c = LeftEntries t entries c
LeftEnding t entries Clearing c = LeftEntries t entries c ⊎ LeftEntries t [] c
LeftEnding t entries Cleared c = LeftEntries t entries c ⊎ LeftEntries t [] c

abbrev pub LeftUnderway : ℕ → List Entry → Underway → Outcome → Type 0
LeftUnderway t entries Nothing c = LeftEntries t entries c
LeftUnderway t entries (Adding e stage) c = LeftAdding t entries e stage c
LeftUnderway t entries (Ending stage) c = LeftEnding t entries stage c

-- what a stop may leave of the log
abbrev pub LeftLog : Log → Outcome → Type 0
LeftLog log c = LeftUnderway log.thread log.entries log.underway c
