-- Where durable objects lie, and at which word each durable place.
use Rattle.run_history.specs.Sizes.{SameSizes}
use Rattle.std.specs.Prelude.{◌≡◌, ℕ, suc, Bool, true, ◌&&◌, ◌==◌, nat_eq, List, [], ◌∷◌, if◌then◌else◌, length, ◌<◌}
use Rattle.ap_base.specs.declared.place.Place.{Place}
use Rattle.ap_base.specs.declared.place.Place.TheVariants.{Static, Slot}
use Rattle.ap_base.specs.declared.kind.Kind.{Kind}
use Rattle.ap_base.specs.declared.kind.Kind.TheVariants.{L}
use Rattle.graph_model.specs.declared.types.Root.{Root}
use Rattle.graph_model.specs.declared.types.Heap.{Heap}
use Rattle.graph_model.specs.Heaps.{has_number, object_at, shape_at}
use Rattle.image_layout.specs.Places.{slot_line, slot_word, object_line, object_word}
use Rattle.image_meaning.specs.Directories.{Directory}
use Rattle.image_meaning.specs.Objects.{kind_of}
use Rattle.image_meaning.specs.Corresponds.{LiesAt, root_static}
use Rattle.run_history.specs.Worlds.{has_place}
use Rattle.run_history.specs.Knowing.{Knowledge, durable_at, is_root}

-- how many lines the image has, its directory, and of each durable object the line at which it lies and its
-- head word
pub record Layout : Type 0 where
  pub size : ℕ
  pub directory : Directory
  pub line_of : ℕ → ℕ
  pub head : ℕ → ℕ

abbrev pub lies : Layout → List ℕ → ℕ → ℕ → Bool
lies lay durable line n = has_number durable n && lay.line_of n == line

-- the durable objects lie at their lines
abbrev pub Lies : Layout → Knowledge → LiesAt
Lies lay known line n = lies lay known.durable line n ≡ true

-- which of the roots has this static: the first; behind all of them where none has
abbrev pub root_number : List Root → ℕ → ℕ
root_number [] s = 0
root_number (r ∷ rs) s = if nat_eq r.at s then 0 else suc (root_number rs s)

-- the line of a durable place
abbrev pub place_line : Layout → Heap → Place → ℕ
place_line lay heap (Static s) = slot_line (root_number heap.roots s)
place_line lay heap (Slot n i) = object_line (lay.line_of n) i

-- its word in the line
abbrev pub place_word : Heap → Place → ℕ
place_word heap (Static s) = slot_word (root_number heap.roots s)
place_word heap (Slot n i) = object_word i

-- the kind of value that it holds
abbrev pub place_kind : Heap → Place → Kind
place_kind heap (Static s) = L
place_kind heap (Slot n i) = kind_of (shape_at heap (object_at heap n).shape) i

-- a durable place that the heap has
abbrev pub is_kept_place : Knowledge → Place → Bool
is_kept_place known p = durable_at known p && has_place known.world.heap p

-- each root's static is there, and no two roots have the same one
pub record HasRootSlots (heap : Heap) : Type 0 where
  pub numbers : (r : ℕ) → r < length heap.roots → root_number heap.roots (root_static heap r) ≡ r
  pub statics : (r : ℕ) → r < length heap.roots → root_static heap r < length heap.statics
  pub roots : (r : ℕ) → r < length heap.roots → is_root heap.roots (root_static heap r) ≡ true

-- the same objects are durable, and the heap has the same sizes
pub record SamePlaces (known next : Knowledge) : Type 0 where
  pub durable : next.durable ≡ known.durable
  pub sizes : SameSizes known.world.heap next.world.heap

-- Each durable place is where it was, and has its kind. More objects may be there, none of which is durable.
pub record KeepsPlaces (known next : Knowledge) : Type 0 where
  pub durable : next.durable ≡ known.durable
  pub roots : next.world.heap.roots ≡ known.world.heap.roots
  pub statics : length next.world.heap.statics ≡ length known.world.heap.statics
  pub kept : (p : Place) → is_kept_place next p ≡ is_kept_place known p
  pub kind : (p : Place) → is_kept_place known p ≡ true
      → place_kind next.world.heap p ≡ place_kind known.world.heap p
