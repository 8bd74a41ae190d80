-- Calls of the image, and stores to lines of no object: what they leave of a heap and of what it shows.
use Rattle.std.specs.Prelude.{◌≡◌, ◌⊎◌, ℕ, ◌+◌, ◌<◌, ◌≤◌, true, List, length}
use Rattle.ap_base.specs.declared.reference.Ref.{Ref}
use Rattle.graph_model.specs.declared.types.Root.{Root}
use Rattle.line_memory.specs.Memory.{shown}
use Rattle.line_memory.specs.Moments.{KeepsShown}
use Rattle.shared_objects.specs.declared.rest.Rest.{Rest}
use Rattle.shared_objects.specs.Worlds.{KnowsMonitors, world_of}
use Rattle.twin_forms.specs.Sights.{Twin, AllKnown}
use Rattle.twin_forms.specs.Table.{Entry, entry, lines_of}
use Rattle.twin_forms.specs.Moves.{ChangesLine}
use Rattle.two_spaces.specs.Seen.{Spaces, shown_of}
use Rattle.two_spaces.specs.Whole.{Stands}
use Rattle.two_spaces.specs.Moving.{IsMove, ShowsSame, SparesRoots}

-- The memory shows what it showed of root slots and of the lines of objects, and the rest of the heap is as it was.
pub record IsQuiet (s : Spaces) (t' : Twin) (es : List Entry) : Type 0 where
  pub stands : Stands s es
  pub space : t'.space ≡ s.twin.space
  pub marks : t'.marks ≡ s.twin.marks
  pub size : t'.memory.size ≡ s.twin.memory.size
  pub roots : SparesRoots s.twin t'
  pub lines : (n l w : ℕ) → n < length es → 0 < (entry es n).stage → (entry es n).line ≤ l
      → l < (entry es n).line + lines_of (entry es n) → shown t'.memory l w ≡ shown s.twin.memory l w

abbrev pub OfQuiet : ((s : Spaces) (t' : Twin) (es : List Entry) → Type 0) → Type 0
OfQuiet P = (s : Spaces) (t' : Twin) (es : List Entry) → IsQuiet s t' es → P s t' es

-- It moves no object.
abbrev pub QuietMovesNone : Type 0
QuietMovesNone = OfQuiet (λ s t' es. IsMove s t' es es)

-- The heap is whole after it, by the same table.
abbrev pub QuietLeavesWhole : Type 0
QuietLeavesWhole = OfQuiet (λ s t' es. Stands (record s { twin = t' }) es)

abbrev pub QuietShowsTheSame : Type 0
QuietShowsTheSame = OfQuiet (λ s t' es. ShowsSame (shown_of s) (shown_of (record s { twin = t' })))

abbrev pub QuietKeepsKeys : Type 0
QuietKeepsKeys = OfQuiet (λ s t' es. (r : Ref) → (shown_of s).is_key r ≡ true
    → (shown_of (record s { twin = t' })).is_key r ≡ true)

-- the same world, with the same beside it, and its monitors are held under keys still
abbrev pub QuietShowsSameWorld : Type 0
QuietShowsSameWorld = OfQuiet (λ s t' es. (rest : Rest) (roots : List Root) → KnowsMonitors (shown_of s) rest
    → world_of roots (shown_of (record s { twin = t' })) rest ≡ world_of roots (shown_of s) rest)

abbrev pub QuietKeepsMonitors : Type 0
QuietKeepsMonitors = OfQuiet (λ s t' es. (rest : Rest) → KnowsMonitors (shown_of s) rest
    → KnowsMonitors (shown_of (record s { twin = t' })) rest)

-- ---- what is quiet

-- A touch, a write-back, a fence or an eviction, whether it succeeds or fails: it keeps what is shown, and leaves the
-- rest of the heap.
pub record IsImageCall (s : Spaces) (t' : Twin) : Type 0 where
  pub keeps : KeepsShown s.twin.memory t'.memory
  pub space : t'.space ≡ s.twin.space
  pub marks : t'.marks ≡ s.twin.marks
  -- What each line shows is known, as it is of every line that is resident.
  pub known : AllKnown s.twin.memory
  pub known_after : AllKnown t'.memory
  -- Superblock and root slots are among the lines.
  pub long : 33 ≤ s.twin.memory.size

abbrev pub ImageCallsAreQuiet : Type 0
ImageCallsAreQuiet = (s : Spaces) (t' : Twin) (es : List Entry) → Stands s es → IsImageCall s t' → IsQuiet s t' es

-- A store to a line of no object and no root slot, as of the directory or a log.
pub record IsStoreBeside (s : Spaces) (t' : Twin) (es : List Entry) (line : ℕ) : Type 0 where
  pub changes : ChangesLine line s.twin.memory t'.memory
  pub space : t'.space ≡ s.twin.space
  pub marks : t'.marks ≡ s.twin.marks
  pub behind : 33 ≤ line
  pub apart : (n : ℕ) → n < length es → 0 < (entry es n).stage
      → (line < (entry es n).line) ⊎ ((entry es n).line + lines_of (entry es n) ≤ line)

abbrev pub StoresBesideAreQuiet : Type 0
StoresBesideAreQuiet = (s : Spaces) (t' : Twin) (es : List Entry) (line : ℕ) → Stands s es
    → IsStoreBeside s t' es line → IsQuiet s t' es
