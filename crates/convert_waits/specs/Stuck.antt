-- Which waits hold, and when a run is stuck: at an event whose own wait holds, where the last event of each other live
-- thread waited and each of those waits holds still.
--
-- `lives t` says whether thread t lives; `recorded t` is the wait of its last event, if that waited.
use Rattle.std.specs.Prelude.{◌≡◌, ◌⊎◌, ℕ, ◌<◌, Bool, true, List, Option, Some, None}
use Rattle.run_types.specs.declared.wait.On.{On}
use Rattle.run_types.specs.declared.wait.On.TheVariants as on
use Rattle.twin_forms.specs.Table.{Entry, entry, IsClaimed}
use Rattle.convert_words.specs.Scenes.{Scene, AgreesAt}
use Rattle.convert_words.specs.Converting.{Lacks}
use Rattle.convert_waits.specs.Waiting.{WaitsForMember}
use Rattle.convert_waits.specs.Rows.{Why, InRow, HasNothing, on_of}
use Rattle.convert_waits.specs.Rows.Why.{Plain}

-- The wait of thread t holds.
abbrev pub HoldsWait : (ℕ → Option On) → Scene → List Entry → ℕ → On → Type 0
HoldsWait plain s es t (on.Conversion u) = WaitsForMember s t u ⊎ Lacks s es t u
HoldsWait plain s es t on = plain t ≡ Some on

-- In the plain world no conversion is waited for.
abbrev pub IsPlain : On → Type 0
IsPlain (on.Conversion u) = ⊥
IsPlain on = Unit {0}

-- Each wait of a row holds.
abbrev pub RowsHold : Type 0
RowsHold = (plain : ℕ → Option On) (s : Scene) (es : List Entry) (waited : ℕ → Option Why) (t : ℕ) (why : Why)
    → ((u : ℕ) (on : On) → plain u ≡ Some on → IsPlain on) → InRow plain s es waited → waited t ≡ Some why
    → HoldsWait plain s es t (on_of why)

-- Whoever has claimed an object lives, and each thread that lives has waited in the row.
pub record IsFull (lives : ℕ → Bool) (es : List Entry) (waited : ℕ → Option Why) : Type 0 where
  pub claimers : (t n : ℕ) → IsClaimed es t n → lives t ≡ true
  pub all : (t : ℕ) → lives t ≡ true → (why : Why) × (waited t ≡ Some why)

-- All waits of a full row are plain, and hold.
abbrev pub FullRowsWaitPlainly : Type 0
FullRowsWaitPlainly = (plain : ℕ → Option On) (lives : ℕ → Bool) (s : Scene) (es : List Entry) (waited : ℕ → Option Why)
    → InRow plain s es waited → IsFull lives es waited → (t : ℕ) → lives t ≡ true
    → (on : On) × (waited t ≡ Some (Plain on)) × (plain t ≡ Some on)

-- Of each thread that lives the wait that was recorded holds.
abbrev pub IsStuckAt : (ℕ → Option On) → (ℕ → Bool) → Scene → List Entry → (ℕ → Option On) → Type 0
IsStuckAt plain lives s es recorded = (t : ℕ) → lives t ≡ true → (on : On) × (recorded t ≡ Some on) × HoldsWait plain s es t on

abbrev pub recorded_of : (ℕ → Option Why) → ℕ → Option On
recorded_of waited t = elim (waited t) [ None ↦ None | Some why ↦ Some (on_of why) ]

-- So the run is stuck at the last event of a full row, and no row of events that wait without being stuck is full.
abbrev pub FullRowsAreStuck : Type 0
FullRowsAreStuck = (plain : ℕ → Option On) (lives : ℕ → Bool) (s : Scene) (es : List Entry) (waited : ℕ → Option Why)
    → ((u : ℕ) (on : On) → plain u ≡ Some on → IsPlain on) → InRow plain s es waited → IsFull lives es waited
    → IsStuckAt plain lives s es (recorded_of waited)

-- ---- Stuck, whichever waits were recorded

-- What is so of each record: whoever has claimed an object lives; whose recorded wait is in the plain world, and holds
-- there, has claimed
-- nothing; whose wait was recorded, all that it has claimed is forwarded.
pub record IsRecord (plain : ℕ → Option On) (lives : ℕ → Bool) (es : List Entry) (recorded : ℕ → Option On) : Type 0 where
  pub claimers : (t n : ℕ) → IsClaimed es t n → lives t ≡ true
  pub nothing : (t : ℕ) (on : On) → recorded t ≡ Some on → plain t ≡ Some on → HasNothing es t
  pub forwarded : (t : ℕ) (on : On) → recorded t ≡ Some on → (n : ℕ) → IsClaimed es t n → (entry es n).stage ≡ 2
  pub below : (t u : ℕ) → recorded t ≡ Some (on.Conversion u) → u < 64

-- A run that is stuck is so by waits of the plain world alone: where a recorded wait is for a conversion, it isn't stuck,
-- with no test of
-- that wait.
abbrev pub StuckRunsWaitPlainly : Type 0
StuckRunsWaitPlainly = (plain : ℕ → Option On) (lives : ℕ → Bool) (s : Scene) (es : List Entry) (recorded : ℕ → Option On)
    → AgreesAt s es → IsRecord plain lives es recorded → IsStuckAt plain lives s es recorded
    → (t : ℕ) → lives t ≡ true → (on : On) × (recorded t ≡ Some on) × IsPlain on × (plain t ≡ Some on)
