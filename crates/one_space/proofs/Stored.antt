-- What a store to a slot leaves.
use Rattle.std.proofs.Common.{◌≡◌, ℕ, ◌+◌, true, List, map, set, slice_index_or, Option, Some, None, refl, ap, ◌∙◌, sym, subst}
use Rattle.ap_base.specs.declared.reference.Ref.{Ref}
use Rattle.ap_base.specs.declared.reference.Ref.TheVariants.{Null as NoRef, Persistent, Volatile}
use Rattle.ap_base.specs.declared.reference.Item.{Item}
use Rattle.ap_base.specs.declared.reference.Item.TheVariants.{Int as IntItem, Long as LongItem, Ref as RefItem}
use Rattle.ap_base.specs.declared.kind.Kind.{Kind}
use Rattle.ap_base.specs.declared.kind.Kind.TheVariants.{Z, B, C, S, I, J, L, Text}
use Rattle.graph_model.specs.declared.types.Shape.{Shape}
use Rattle.graph_model.specs.declared.types.Obj.{Obj}
use Rattle.graph_model.specs.Heaps.{no_shape, with_slot}
use Rattle.plain_model.specs.Kinds.{HasKind}
use Rattle.shared_objects.specs.Shown.{Numbers, IsOfKindIn, IsOfSlot, IsKnownItem, item_value, number_value, slot_kind, kind_in}
use Rattle.shared_objects.specs.Changes.{StoresSlot}
use Rattle.std.specs.Prelude.{All}
use Rattle.one_space.specs.Layout.{shape_at_word, number_in, item_in, object_from, shown_by, full_shown, IsLaid, AreKnown}
use Rattle.one_space.specs.Layout.{is_known_item, HasItemKind}
use Rattle.one_space.specs.Laws.{some_same}
use Rattle.one_space.proofs.Laid.{SlotOf, object_is, if_number, number_at}
use Rattle.one_space.proofs.Stores.{objects_stored, numbers_same, numbers_path}

ref_kind : (k : Kind) (o : Option ℕ) (r : Ref) → HasKind k (number_value o) → HasItemKind k (RefItem r)
ref_kind L o r h = tt
ref_kind Z None r h = h
ref_kind Z (Some n) r h = h
ref_kind B None r h = h
ref_kind B (Some n) r h = h
ref_kind C None r h = h
ref_kind C (Some n) r h = h
ref_kind S None r h = h
ref_kind S (Some n) r h = h
ref_kind I None r h = h
ref_kind I (Some n) r h = h
ref_kind J None r h = h
ref_kind J (Some n) r h = h
ref_kind Text None r h = h
ref_kind Text (Some n) r h = h

pub item_kind : (number : Numbers) (k : Kind) (item : Item) → HasKind k (item_value number item)
    → HasItemKind k item
item_kind number k (RefItem r) h = ref_kind k (number r) r h
item_kind number Z (IntItem i) h = h
item_kind number B (IntItem i) h = h
item_kind number C (IntItem i) h = h
item_kind number S (IntItem i) h = h
item_kind number I (IntItem i) h = h
item_kind number J (IntItem i) h = h
item_kind number L (IntItem i) h = h
item_kind number Text (IntItem i) h = h
item_kind number Z (LongItem i) h = h
item_kind number B (LongItem i) h = h
item_kind number C (LongItem i) h = h
item_kind number S (LongItem i) h = h
item_kind number I (LongItem i) h = h
item_kind number J (LongItem i) h = h
item_kind number L (LongItem i) h = h
item_kind number Text (LongItem i) h = h

decoded_some : (number : Numbers) (o : Option Kind) (item : Item) (v : ℕ)
    → IsOfKindIn o (item_value number item)
    → ((k : Kind) → HasItemKind k item → item_in (Some k) v ≡ item) → item_in o v ≡ item
decoded_some number None item v h again = absurd h
decoded_some number (Some k) item v h again = again k (item_kind number k item h)

pub decoded : (shapes : List Shape) (words starts : List ℕ) (r : Ref) (at i : ℕ) (item : Item) (v : ℕ) → r
    ≡ Volatile at
    → IsOfSlot (shown_by shapes words starts) r i (item_value (number_in words starts) item)
    → ((k : Kind) → HasItemKind k item → item_in (Some k) v ≡ item)
    → item_in (kind_in (slice_index_or shapes (shape_at_word words at) no_shape) i) v ≡ item
decoded shapes words starts r at i item v e of again =
    let shown = shown_by shapes words starts in
    let h = if_number (number_in words starts r) (λ n. IsOfKindIn (slot_kind shown n i)
    (item_value (number_in words starts) item)) of in
    let is = object_is shapes words starts at h.0 (number_at words starts r at h.0 e h.1) in
    decoded_some (number_in words starts) (kind_in (slice_index_or shapes (shape_at_word words at) no_shape)
    i) item v
    (subst (λ (o : Obj). IsOfKindIn (kind_in (slice_index_or shapes o.shape no_shape) i)
    (item_value (number_in words starts) item)) is h.2) again

pub known_test : (number : Numbers) (item : Item) → number NoRef ≡ None → IsKnownItem number item
    → is_known_item number item ≡ true
known_test number (IntItem i) none known = refl
known_test number (LongItem i) none known = refl
known_test number (RefItem NoRef) none known = refl
known_test number (RefItem (Persistent line)) none known = known
known_test number (RefItem (Volatile index)) none known = known

pub stores_slot : (shapes : List Shape) (words starts : List ℕ) (statics : List Item) (left : ℕ) (r : Ref)
    (at i : ℕ) (item : Item) (v : ℕ)
    → r ≡ Volatile at → IsLaid shapes words starts → SlotOf shapes words starts at i
    → item_in (kind_in (slice_index_or shapes (shape_at_word words at) no_shape) i) v ≡ item
    → StoresSlot r i item (full_shown shapes words starts statics left)
    (full_shown shapes (set words (at + 3 + i) v) starts statics left)
stores_slot shapes words starts statics left r at i item v e laid s is =
    let shown = full_shown shapes words starts statics left in
    record {
      goes_on = record {
        shapes = refl;
        keeps = λ q n h. numbers_same shapes words starts at i laid s v q
            ∙ h;
        keys = λ q h. refl;
      };
      statics = ap (λ (num : Numbers). map (item_value num) statics)
          (numbers_path shapes words starts at i laid s v);
      left = refl;
      objects = λ n h.
          let number = number_at words starts r at n e h in
          let same : s.n ≡ n = some_same (sym s.number ∙ number) in
          objects_stored shapes words starts at i laid s v item is
          ∙ ap (λ (m : ℕ). set shown.objects m (with_slot (object_from shapes words starts at) i
          (item_value (number_in words starts) item))) same
          ∙ ap (λ (o : Obj). set shown.objects n (with_slot o i (item_value (number_in words starts) item)))
          (sym (object_is shapes words starts at n number));
    }

-- the static fields stay known
pub known_stored : (shapes : List Shape) (words starts : List ℕ) (statics : List Item) (at i : ℕ) (v : ℕ)
    → IsLaid shapes words starts → SlotOf shapes words starts at i → AreKnown words starts statics
    → AreKnown (set words (at + 3 + i) v) starts statics
known_stored shapes words starts statics at i v laid s known =
    subst (λ (num : Numbers). All (λ (item : Item). is_known_item num item ≡ true) statics)
    (sym (numbers_path shapes words starts at i laid s v)) known
