-- The first heap over an image.
use Rattle.std.specs.Prelude.{◌≡◌, ◌↔◌, ℕ, ◌+◌, ◌<◌, ◌≤◌, true, false, List, length, map, slice_index, slice_index_or, Some}
use Rattle.ap_base.specs.declared.kind.Kind.{Kind}
use Rattle.ap_base.specs.declared.reference.Ref.{Ref}
use Rattle.ap_base.specs.declared.reference.Ref.TheVariants.{Null as NoRef}
use Rattle.run_types.specs.declared.limits.Limits.{Limits}
use Rattle.graph_model.specs.declared.types.Graph.{Graph}
use Rattle.graph_model.specs.declared.types.Root.{Root}
use Rattle.line_memory.specs.Memory.{shown}
use Rattle.image_layout.specs.Places.{first_object_line}
use Rattle.image_meaning.specs.Directories.{Directory}
use Rattle.image_meaning.specs.Objects.{is_number}
use Rattle.image_meaning.specs.Opening.{free_line}
use Rattle.plain_model.specs.Facts.{SetFacts}
use Rattle.plain_model.specs.First.{first_heap, arguments_number, literal_number}
use Rattle.plain_model.specs.Limits.{words_taken, words_left}
use Rattle.shared_objects.specs.Shown.{Shown}
use Rattle.shared_objects.specs.Worlds.{heap_of}
use Rattle.twin_forms.specs.Sights.{view_of}
use Rattle.twin_forms.specs.Table.{Entry, entry, lines_of, kind_at, word_of, is_reference}
use Rattle.twin_heap.specs.Here.{kinds_of}
use Rattle.two_spaces.specs.declared.spaces.Static.{Static}
use Rattle.two_spaces.specs.declared.spaces.Static.TheVariants.{Root as InSlot}
use Rattle.two_spaces.specs.Seen.{Spaces}
use Rattle.two_spaces.specs.Whole.{Stands, no_static}
use Rattle.first_spaces.specs.declared.parts.SpacesTables.{SpacesTables}
use Rattle.first_spaces.specs.Slots.{IsRootAt}

-- A heap shows the plain first heap of this set and this graph, and of so many words those are left that the
-- objects which
-- aren't nodes don't take.
pub record ShowsOpening (set : SetFacts) (opening : Graph) (words : ℕ) (shown : Shown) : Type 0 where
  pub heap : heap_of (first_heap set opening).roots shown ≡ first_heap set opening
  pub within : words_taken opening (first_heap set opening) ≤ words
  pub left : (limits : Limits) → limits.heap_words ≡ words
      → shown.left ≡ words_left limits opening (first_heap set opening)

-- These references stand for the array of arguments and for the literals' objects, in their order.
pub record StandFor (set : SetFacts) (opening : Graph) (shown : Shown) (arguments : Ref) (literals : List Ref)
    : Type 0
  where
    pub arguments_is : shown.number arguments ≡ Some (arguments_number set opening)
    pub long : length literals ≡ length set.literals
    pub literals_are : (k : ℕ) → k < length literals
        → shown.number (slice_index_or literals k NoRef) ≡ Some (literal_number set opening k)

-- an object that lies in the image alone, from this line on
pub record IsNodeAt (line : ℕ) (e : Entry) : Type 0 where
  pub stage : e.stage ≡ 3
  pub owner : e.owner ≡ 0
  pub line_is : e.line ≡ line

-- an object that lies in volatile memory alone, and that nobody has claimed
pub record IsOrdinary (e : Entry) : Type 0 where
  pub stage : e.stage ≡ 0
  pub owner : e.owner ≡ 0

-- The word of each slot of the object that holds numbers is that of a number of the slot's kind.
abbrev pub HasNumbers : Spaces → Entry → Type 0
HasNumbers s e = (k : ℕ) (kind : Kind) → k < e.slots → kind_at (view_of s.twin) e k ≡ Some kind
    → is_reference (Some kind) ≡ false → is_number kind (word_of (view_of s.twin) e k) ≡ true

-- The heap is whole by this table. The nodes lie at their lines, and all other objects in volatile memory.
-- Each object's shape is one of the directory. What holds numbers in volatile memory has words of such ones.
pub record StandsOpened (directory : Directory) (lines : List ℕ) (s : Spaces) (es : List Entry) : Type 0 where
  pub stands : Stands s es
  pub nodes : (n : ℕ) → n < length lines → IsNodeAt (slice_index lines n) (entry es n)
  pub others : (n : ℕ) → length lines ≤ n → n < length es → IsOrdinary (entry es n)
  pub low : (n : ℕ) → n < length es → 0 < (entry es n).stage → first_object_line ≤ (entry es n).line
  pub high : (n : ℕ) → n < length es → 0 < (entry es n).stage
      → (entry es n).line + lines_of (entry es n) ≤ free_line (shown s.twin.memory) lines
  pub shapes : (n : ℕ) → n < length es → (entry es n).shape < length directory.shapes
  pub numbers : (n : ℕ) → length lines ≤ n → n < length es → HasNumbers s (entry es n)

abbrev pub IsWholeOpened : Directory → List ℕ → Spaces → Type 0
IsWholeOpened directory lines s = (es : List Entry) × StandsOpened directory lines s es

-- the classes and shapes are those of the parts
pub record HasTables (tables : SpacesTables) (s : Spaces) : Type 0 where
  pub shapes : s.shapes ≡ tables.shapes
  pub classes : s.classes ≡ tables.classes.items
  pub numbers : s.numbers ≡ tables.numbers.items
  pub kinds : s.twin.marks.kinds ≡ map kinds_of tables.heap_shapes

-- A static field lies in a root slot exactly where that is the slot of the durable root whose static it is.
abbrev pub RootsLieInSlots : List Root → List Static → Type 0
RootsLieInSlots roots statics =
    (f slot : ℕ) → (slice_index_or statics f no_static ≡ InSlot slot) ↔ IsRootAt roots slot f
