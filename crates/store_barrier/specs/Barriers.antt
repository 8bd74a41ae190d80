-- By which rule a store goes on: what a durable place refers to is durable, and so is what an object refers to
-- whose lines are being copied (Shull, Huang and Torrellas, "AutoPersist", PLDI 2019).
use Rattle.std.specs.Prelude.{◌≡◌, ◌⊎◌, ℕ, ◌+◌, List, Option, None, Some, IfSome, IsNone, slice_index_or}
use Rattle.ap_base.specs.declared.place.Place.{Place}
use Rattle.ap_base.specs.declared.place.Place.TheVariants as place
use Rattle.ap_base.specs.declared.place.Spot.{Spot}
use Rattle.ap_base.specs.declared.reference.Ref.{Ref}
use Rattle.ap_base.specs.declared.reference.Item.{Item}
use Rattle.ap_base.specs.declared.reference.Item.TheVariants.{Ref as RefItem}
use Rattle.ap_base.specs.References.{reference_word}
use Rattle.image_layout.specs.Places.{slot_line, slot_word, object_word}
use Rattle.graph_model.specs.declared.types.Value.{Value}
use Rattle.shared_objects.specs.Shown.{item_value}
use Rattle.twin_forms.specs.Table.{Entry, entry, HasCopied, InP, line_of}
use Rattle.machine_forms.specs.Passed.{Static}
use Rattle.machine_forms.specs.Passed.{Beside, Root}
use Rattle.machine_forms.specs.Passed.{TwoSpaces}
use Rattle.machine_forms.specs.Passed.{Spaces, shown_of}
use Rattle.machine_forms.specs.Passed.{Stands, IsHereIn, IsStaticHereIn, no_static}
use Rattle.convert_queue.specs.Queues.{Queues}
use Rattle.convert_words.specs.Scenes.{AgreesAt, scene}
use Rattle.converter.specs.Beginning.{IsAsked}
use Rattle.object_steps.specs.declared.storing.Store.{Store}
use Rattle.object_steps.specs.Stores.{CanStore, IsStoreHere, place_of}
use Rattle.store_barrier.specs.declared.barrier.Barrier.{Barrier}
use Rattle.store_barrier.specs.declared.barrier.Barrier.TheVariants as barrier

-- the parts of a heap in code
abbrev pub spaces_of : {I : Type 0} → TwoSpaces I → Spaces
spaces_of s = record {
  twin = record { space = s.heap.space; memory = s.heap.memory; marks = s.heap.marks };
  shapes = s.shapes;
  classes = s.classes.items;
  numbers = s.numbers.items;
  statics = s.statics.items;
}

-- ---- places

abbrev pub static_at : Spaces → ℕ → Static
static_at s f = slice_index_or s.statics f no_static

-- the static field is a durable root
abbrev pub IsRoot : Static → Type 0
IsRoot static = (slot : ℕ) × (static ≡ Root slot)

-- A durable place is a durable root, or a slot of a durable object.
abbrev pub IsDurablePlace : Spaces → List Entry → Place → Type 0
IsDurablePlace s es (place.Static f) = IsRoot (static_at s f)
IsDurablePlace s es (place.Slot n i) = InP es n

abbrev pub line_of_static : Static → ℕ
line_of_static (Beside item) = 0
line_of_static (Root slot) = slot_line slot

-- the line of the image in which a durable place lies
abbrev pub line_of_place : Spaces → List Entry → Place → ℕ
line_of_place s es (place.Static f) = line_of_static (static_at s f)
line_of_place s es (place.Slot n i) = (entry es n).line + line_of i

-- the line of a durable place; none of any other
pub record IsLineOf (s : Spaces) (es : List Entry) (p : Place) (line : Option ℕ) : Type 0 where
  pub durable : IsDurablePlace s es p → line ≡ Some (line_of_place s es p)
  pub other : (IsDurablePlace s es p → ⊥) → line ≡ None

abbrev pub word_of_static : Static → ℕ
word_of_static (Beside item) = 0
word_of_static (Root slot) = slot_word slot

-- and the word of that line
abbrev pub word_of_place : Spaces → Place → ℕ
word_of_place s (place.Static f) = word_of_static (static_at s f)
word_of_place s (place.Slot n i) = object_word i

-- The place is durable, and lies in this word of the image.
pub record IsSpotAt (s : Spaces) (es : List Entry) (p : Place) (spot : Spot) : Type 0 where
  pub durable : IsDurablePlace s es p
  pub line : spot.line ≡ line_of_place s es p
  pub word : spot.word ≡ word_of_place s p

-- the word of a durable place; none of any other
pub record IsSpotOf (s : Spaces) (es : List Entry) (p : Place) (spot : Option Spot) : Type 0 where
  pub some : IfSome spot (IsSpotAt s es p)
  pub none : IsNone spot → ¬ IsDurablePlace s es p

-- Its holder is a durable root, is durable, or has had a line copied.
abbrev pub HoldsDurable : Spaces → List Entry → Place → Type 0
HoldsDurable s es (place.Static f) = IsRoot (static_at s f)
HoldsDurable s es (place.Slot n i) = InP es n ⊎ ((c : ℕ) × HasCopied (entry es n) c)

-- ---- what is stored

-- The item is this reference, and its object isn't durable.
pub record IsVolatile (es : List Entry) (item : Item) (object : Ref) : Type 0 where
  pub reference : item ≡ RefItem object
  pub number : ℕ
  pub asked : IsAsked es (reference_word object) number

-- The holder asks that what it refers to be durable, and the item is a reference to this object, which isn't.
pub record ConvertsFirst (s : Spaces) (es : List Entry) (store : Store) (object : Ref) : Type 0 where
  pub holder : HoldsDurable s es (place_of store.target)
  pub item : IsVolatile es store.kept object

-- Nothing is to be converted before the store.
abbrev pub MayFollow : Spaces → Store → Type 0
MayFollow s store = (es : List Entry) (object : Ref) → Stands s es → ConvertsFirst s es store object → ⊥

-- ---- answers

abbrev pub IfRaces : Barrier → (ℕ → Type 0) → Type 0
IfRaces (barrier.Race other) P = P other
IfRaces answer P = Unit {0}

-- every answer but a race
abbrev pub IfNoRace : Barrier → Type 0 → Type 0
IfNoRace (barrier.Race other) P = Unit {0}
IfNoRace answer P = P

abbrev pub IfConverts : Barrier → (Ref → Type 0) → Type 0
IfConverts (barrier.ConvertFirst object) P = P object
IfConverts answer P = Unit {0}

abbrev pub IfLogs : Barrier → (Spot → Type 0) → Type 0
IfLogs (barrier.LogFirst spot) P = P spot
IfLogs answer P = Unit {0}

abbrev pub IfStores : Barrier → (Option ℕ → Type 0) → Type 0
IfStores (barrier.Store line) P = P line
IfStores answer P = Unit {0}

-- the answers after which nothing is to be converted
abbrev pub IfFollows : Barrier → Type 0 → Type 0
IfFollows (barrier.Race other) P = Unit {0}
IfFollows (barrier.ConvertFirst object) P = Unit {0}
IfFollows answer P = P

-- ---- what a store needs

-- The store can be made, and what it reads and stores to is at hand.
pub record IsReady (s : Spaces) (store : Store) : Type 0 where
  pub can : CanStore (shown_of s) store
  pub here : IsStoreHere (IsHereIn s) (IsStaticHereIn s) (shown_of s) store

-- The heap is whole, and agrees with the queues of conversions, whatever lines are left and monitors held.
pub record AgreesWith (s : Spaces) (q : Queues) : Type 0 where
  pub es : List Entry
  pub stands : Stands s es
  pub free : ℕ
  pub keys : List ℕ
  pub agrees : AgreesAt (scene s.twin.space s.twin.memory s.twin.marks q free keys) es

abbrev pub kept_value : Spaces → Store → Value
kept_value s store = item_value (shown_of s).number store.kept
