-- What a request needs.
use Rattle.std.specs.Prelude.{◌≡◌, ◌<◌, ℕ, ℤ, pos, [], length, Some, None}
use Rattle.ap_base.specs.declared.reference.Ref.{Ref}
use Rattle.ap_base.specs.declared.reference.Item.{Item}
use Rattle.run_types.specs.declared.key.Key.{Key}
use Rattle.run_types.specs.declared.key.Key.TheVariants as key
use Rattle.graph_model.specs.declared.types.Value.{Value}
use Rattle.graph_model.specs.declared.types.Value.TheVariants.{Obj as Object}
use Rattle.natives.specs.declared.requests.Request.{Request}
use Rattle.natives.specs.declared.requests.Request.TheVariants as ask
use Rattle.plain_model.specs.Facts.{SetFacts, class_at, element_of}
use Rattle.plain_model.specs.Duties.{IsFit}
use Rattle.shared_objects.specs.declared.rest.Rest.{Rest}
use Rattle.shared_objects.specs.Shown.{Shown, item_value, object_in, slot_in, static_in}
use Rattle.shared_objects.specs.Plain.{plain_request, KnowsRequest}
use Rattle.shared_objects.specs.Worlds.{world_of}

-- `here n i`: the head of object n and its slot i can be read and stored to now
abbrev pub Here : Type 1
Here = ℕ → ℕ → Type 0

-- the head of the object of a reference can be read
abbrev pub HeadIsHere : Here → Shown → Ref → Type 0
HeadIsHere here shown r = (n : ℕ) → shown.number r ≡ Some n → here n 0

-- the head of the object to which a value refers
abbrev pub ValueIsHere : Here → Value → Type 0
ValueIsHere here value = (n : ℕ) → value ≡ Object n → here n 0

abbrev pub ItemIsHere : Here → Shown → Item → Type 0
ItemIsHere here shown item = ValueIsHere here (item_value shown.number item)

-- a slot, where the object has it
abbrev pub SlotIsHere : Here → Shown → Ref → ℕ → Type 0
SlotIsHere here shown r i =
    (n : ℕ) → shown.number r ≡ Some n → i < length (object_in shown n).values → here n i

-- the head of the object to which a slot's value refers
abbrev pub ReferredIsHere : Here → Shown → Ref → ℕ → Type 0
ReferredIsHere here shown r i = (n : ℕ) → shown.number r ≡ Some n → ValueIsHere here (slot_in shown n i)

-- the slot at an index, where it isn't negative
abbrev pub ElementIsHere : Here → Shown → Ref → ℤ → Type 0
ElementIsHere here shown r index = (i : ℕ) → index ≡ pos i → SlotIsHere here shown r i

abbrev pub ReferredElementIsHere : Here → Shown → Ref → ℤ → Type 0
ReferredElementIsHere here shown r index = (i : ℕ) → index ≡ pos i → ReferredIsHere here shown r i

abbrev pub KeyIsHere : Here → Shown → Key Ref → Type 0
KeyIsHere here shown (key.Object r) = HeadIsHere here shown r
KeyIsHere here shown (key.Class n) = Unit {0}

-- What a request reads and stores to can be read and stored to now: objects, and static fields.
abbrev pub IsHere : Here → (ℕ → Type 0) → Shown → Request Ref Item → Type 0
IsHere here static_here shown (ask.GetStatic from field) =
    static_here field.at × ValueIsHere here (static_in shown field.at)
IsHere here static_here shown (ask.PutStatic from field value) =
    static_here field.at × ItemIsHere here shown value
IsHere here static_here shown (ask.GetField from holder field) =
    HeadIsHere here shown holder × SlotIsHere here shown holder field.at
    × ReferredIsHere here shown holder field.at
IsHere here static_here shown (ask.PutField from holder field value) =
    HeadIsHere here shown holder × SlotIsHere here shown holder field.at × ItemIsHere here shown value
IsHere here static_here shown (ask.GetElement from array index kind) =
    HeadIsHere here shown array × ElementIsHere here shown array index
    × ReferredElementIsHere here shown array index
IsHere here static_here shown (ask.PutElement from array index kind value) =
    HeadIsHere here shown array × ElementIsHere here shown array index × ItemIsHere here shown value
IsHere here static_here shown (ask.Length from array) = HeadIsHere here shown array
IsHere here static_here shown (ask.ClassOf from object within) = HeadIsHere here shown object
IsHere here static_here shown (ask.Cast from object target) = HeadIsHere here shown object
IsHere here static_here shown (ask.IsA from object target) = HeadIsHere here shown object
IsHere here static_here shown (ask.Same from left right) =
    HeadIsHere here shown left × HeadIsHere here shown right
IsHere here static_here shown (ask.Enter from k) = KeyIsHere here shown k
IsHere here static_here shown (ask.Exit from k) = KeyIsHere here shown k
IsHere here static_here shown (ask.Start from thread) = HeadIsHere here shown thread
IsHere here static_here shown (ask.Join from thread) = HeadIsHere here shown thread
IsHere here static_here shown ask.Pause = Unit {0}
IsHere here static_here shown (ask.Broken f) = Unit {0}
IsHere here static_here shown (ask.New from class) = Unit {0}
IsHere here static_here shown (ask.NewArray from shape count) = Unit {0}
IsHere here static_here shown (ask.NewText from count) = Unit {0}
IsHere here static_here shown (ask.Init from class) = Unit {0}
IsHere here static_here shown (ask.InitDone from class) = Unit {0}
IsHere here static_here shown (ask.Print from piece) = Unit {0}
IsHere here static_here shown (ask.Raise from class) = Unit {0}
IsHere here static_here shown (ask.Begin from) = Unit {0}
IsHere here static_here shown (ask.End from) = Unit {0}
IsHere here static_here shown (ask.Leave uncaught) = Unit {0}

-- Thread t may ask: it was started, the plain request names what it may, each reference is null or an
-- object's, and what the request
-- reads and stores to is at hand. That it has not ended is for the caller to see to.
pub record IsAskable (set : SetFacts) (is_here : Here) (is_static_here : ℕ → Type 0) (shown : Shown)
    (rest : Rest) (t : ℕ) (request : Request Ref Item) : Type 0 where
  pub thread : t < length rest.threads
  pub fit : IsFit set (world_of [] shown rest) t (plain_request shown.number request)
  pub known : KnowsRequest shown.number request
  pub here : IsHere is_here is_static_here shown request

-- how many slots an object of a class without elements has; none of one with elements
abbrev pub own_slots : SetFacts → ℕ → ℕ
own_slots set class = elim (element_of set class) [
  | None ↦ length (class_at set class).shape.fields
  | Some
      kind ↦ 0
]
