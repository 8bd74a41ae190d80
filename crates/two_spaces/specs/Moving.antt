-- What the moves of a conversion leave of what a heap shows: everything but which references are keys.
use Rattle.std.specs.Prelude.{◌≡◌, ◌≢◌, ◌⊎◌, ℕ, ◌<◌, ◌≤◌, true, List, length, slice_set, None, Some}
use Rattle.ap_base.specs.declared.reference.Ref.{Ref}
use Rattle.ap_base.specs.declared.reference.Ref.TheVariants.{Persistent, Volatile}
use Rattle.run_types.specs.declared.key.Key.TheVariants as key
use Rattle.graph_model.specs.declared.types.Root.{Root}
use Rattle.monitors.specs.Held.{monitor_of, rekeyed}
use Rattle.shared_objects.specs.declared.rest.Rest.{Rest}
use Rattle.shared_objects.specs.Shown.{Shown, Keeps}
use Rattle.shared_objects.specs.Worlds.{KnowsMonitors, world_of}
use Rattle.image_layout.specs.Places.{root_slots}
use Rattle.line_memory.specs.Memory.{shown}
use Rattle.twin_forms.specs.Sights.{Twin, view_of}
use Rattle.twin_forms.specs.Table.{Entry, entry}
use Rattle.twin_forms.specs.Moves.{ChangesLine, Moved, forwarded}
use Rattle.two_spaces.specs.Seen.{Spaces, shown_of, current_word, root_word}
use Rattle.two_spaces.specs.Whole.{Stands}

-- ---- moves

-- Each root slot shows the word that it showed.
abbrev pub SparesRoots : Twin → Twin → Type 0
SparesRoots t t' = (slot : ℕ) → slot < root_slots → root_word (view_of t') slot ≡ root_word (view_of t) slot

-- The twin heap has moved objects: by a claim, a copy, a forward, a repair or a seal, or by several of them.
pub record IsMove (s : Spaces) (t' : Twin) (es es' : List Entry) : Type 0 where
  pub stands : Stands s es
  pub moved : Moved (view_of s.twin) es (view_of t') es'
  -- what the calls of a twin heap say of each move
  pub kinds : t'.marks.kinds ≡ s.twin.marks.kinds
  pub left : t'.space.left ≡ s.twin.space.left
  pub spares : SparesRoots s.twin t'
  -- new copies take lines of objects
  pub behind : (n : ℕ) → n < length es' → 0 < (entry es' n).stage → 33 ≤ (entry es' n).line

-- the same objects by their numbers, the same static fields, and each reference stands for its number
pub record ShowsSame (before now : Shown) : Type 0 where
  pub shapes : now.shapes ≡ before.shapes
  pub objects : now.objects ≡ before.objects
  pub statics : now.statics ≡ before.statics
  pub keeps : Keeps before.number now.number
  pub left : now.left ≡ before.left

-- of every move
abbrev pub OfMoves : ((s : Spaces) (t' : Twin) (es es' : List Entry) → Type 0) → Type 0
OfMoves P = (s : Spaces) (t' : Twin) (es es' : List Entry) → IsMove s t' es es' → P s t' es es'

-- The heap is whole after it.
abbrev pub MovesLeaveWhole : Type 0
MovesLeaveWhole = OfMoves (λ s t' es es'. Stands (record s { twin = t' }) es')

abbrev pub MovesShowTheSame : Type 0
MovesShowTheSame = OfMoves (λ s t' es es'. ShowsSame (shown_of s) (shown_of (record s { twin = t' })))

-- ---- which moves spare root slots, and moves after one another

-- one that changes nothing of the lines of superblock and root slots
abbrev pub LinesBehindSpareRoots : Type 0
LinesBehindSpareRoots = (t t' : Twin)
    → ((l w : ℕ) → l < 33 → shown t'.memory l w ≡ shown t.memory l w) → SparesRoots t t'

-- one that makes no store to the image, or stores to one line behind them, as each call of a twin heap does
abbrev pub ChangesOneBehind : Twin → Twin → Type 0
ChangesOneBehind t t' = (t'.memory ≡ t.memory)
    ⊎ ((line : ℕ) × (33 ≤ line) × ChangesLine line t.memory t'.memory)

abbrev pub OneLineSparesRoots : Type 0
OneLineSparesRoots = (t t' : Twin) → ChangesOneBehind t t' → SparesRoots t t'

-- A move after a move is one, whichever lines they change.
abbrev pub MovesFollow : Type 0
MovesFollow = OfMoves (λ s t' es es'. (t'' : Twin) (es'' : List Entry)
    → IsMove (record s { twin = t' }) t'' es' es'' → IsMove s t'' es es'')

-- ---- keys

-- where each object's current copy is the one that was, as after all moves but a forward
abbrev pub SameCurrent : List Entry → List Entry → Type 0
SameCurrent es es' = (n : ℕ) → n < length es → current_word (entry es' n) ≡ current_word (entry es n)

-- no key changes
abbrev pub OthersKeepKeys : Type 0
OthersKeepKeys = OfMoves (λ s t' es es'. SameCurrent es es' → (r : Ref) → (shown_of s).is_key r ≡ true
    → (shown_of (record s { twin = t' })).is_key r ≡ true)

-- A forward alone changes a key: that of its object is the reference to the copy, no longer the one to the space.
pub record MovesKey (before now : Shown) (n at line : ℕ) : Type 0 where
  pub was : before.is_key (Volatile at) ≡ true
  pub is : now.is_key (Persistent line) ≡ true
  pub number : now.number (Persistent line) ≡ Some n
  pub others : (r : Ref) → r ≢ Volatile at → before.is_key r ≡ true → now.is_key r ≡ true

abbrev pub ForwardsMoveKeys : Type 0
ForwardsMoveKeys = (s : Spaces) (t' : Twin) (es : List Entry) (n : ℕ) → n < length es → (entry es n).stage ≡ 1
    → IsMove s t' es (slice_set es n (forwarded (entry es n)))
    → MovesKey (shown_of s) (shown_of (record s { twin = t' })) n (entry es n).at (entry es n).line

-- ---- worlds

-- Where no key changes, the monitors are held under keys still.
abbrev pub MonitorsStayKnown : Type 0
MonitorsStayKnown = (before now : Shown) (rest : Rest) → Keeps before.number now.number
    → ((r : Ref) → before.is_key r ≡ true → now.is_key r ≡ true)
    → KnowsMonitors before rest → KnowsMonitors now rest

-- A heap that shows the same, with the same beside it, shows the same world, whatever the durable roots are.
abbrev pub SameShowsSameWorld : Type 0
SameShowsSameWorld = (before now : Shown) (rest : Rest) (roots : List Root) → ShowsSame before now
    → KnowsMonitors before rest → world_of roots now rest ≡ world_of roots before rest

-- So does one after a forward, with the object's monitor under its new key.
abbrev pub rekeyed_to : Rest → (at line : ℕ) → Rest
rekeyed_to rest at line = record rest {
  monitors = rekeyed rest.monitors (key.Object (Volatile at)) (key.Object (Persistent line));
}

pub record ShowsRekeyed (before now : Shown) (rest rest_now : Rest) : Type 0 where
  pub world : (roots : List Root) → world_of roots now rest_now ≡ world_of roots before rest
  pub monitors : KnowsMonitors now rest_now

-- where it was held under one key alone, as monitors are
abbrev pub RekeyedShowsSameWorld : Type 0
RekeyedShowsSameWorld = (before now : Shown) (rest : Rest) (n at line : ℕ) → ShowsSame before now
    → MovesKey before now n at line → before.number (Volatile at) ≡ Some n → KnowsMonitors before rest
    → monitor_of (rekeyed_to rest at line).monitors (key.Object (Volatile at)) ≡ None
    → ShowsRekeyed before now rest (rekeyed_to rest at line)
