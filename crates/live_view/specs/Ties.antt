-- The rule that ties what is published to what each thread knows of the beginning.
use Rattle.std.specs.Prelude.{◌≡◌, ℕ, List, Option, Some, None}
use mathlib.Core.Option.{some}
use lib.ListN.{get_elem?}
use Rattle.logbook.specs.Pages.{Book}
use Rattle.live_heap.specs.Seen.{Seen, seen_from}
use Rattle.live_view.specs.declared.shown.Shown.{Shown}

-- What is shown is what is seen from this beginning after the acts of its front, which is of this history.
pub record Stands (first : Seen) (of : Book) (s : Shown) : Type 0 where
  pub none : first.acts ≡ 0
  pub live : s.live ≡ seen_from first s.front.acts
  pub same : s.front.of ≡ of

-- a thread knows this beginning, or none yet
abbrev pub IsBeginning : Seen → Book → Option Shown → Type 0
IsBeginning first of None = Unit {0}
IsBeginning first of (Some s) = (s.live ≡ first) × (s.front.of ≡ of)

-- There is one beginning, from which what is published stands for its acts. No thread knows another.
pub record IsTied (s : Shown) (views : List (Option Shown)) : Type 0 where
  pub first : Seen
  pub of : Book
  pub stands : Stands first of s
  pub each : (seat : ℕ) (v : Option Shown) → get_elem? views seat ≡ some v → IsBeginning first of v

-- what is shown stands for its acts, from the beginning that a thread knows
abbrev pub StandsBy : Option Shown → Shown → Type 0
StandsBy None s = Unit {0}
StandsBy (Some b) s = Stands b.live b.front.of s

-- what is published stands for its acts, and the thread knows what it knew
abbrev pub Looks : Option Shown → Shown → Shown → Option Shown → Type 0
Looks v x y w = (w ≡ v) × StandsBy v y

-- the writer knows that the beginning is what is published
abbrev pub Starts : Option Shown → Shown → Shown → Option Shown → Type 0
Starts v x y w = w ≡ Some x
