-- Static fields.
use Rattle.std.proofs.Common.{◌≡◌, ℕ, ◌<◌, true, List, map, set, length, get_or, refl, sym}
use Rattle.std.specs.Prelude.{All}
use Rattle.std.proofs.lemmas.List.{map-set}
use Rattle.std.proofs.lemmas.List.Elements.{All-set, All-get_or, All-weaker}
use Rattle.ap_base.specs.declared.reference.Item.{Item}
use Rattle.graph_model.specs.declared.types.Shape.{Shape}
use Rattle.graph_model.specs.declared.types.Value.TheVariants.{Null}
use Rattle.shared_objects.specs.Shown.{Numbers, Keeps, IsKnownItem, item_value}
use Rattle.shared_objects.specs.Changes.{StoresStatic}
use Rattle.one_space.specs.Layout.{full_shown, number_in, AreKnown, is_known_item}
use Rattle.one_space.proofs.Laid.{get_or-map, known_by_test}
use Rattle.one_space.proofs.Stored.{known_test}
use Rattle.one_space.proofs.Adds.{known_kept}

pub static_value_is : (words starts : List ℕ) (statics : List Item) (n : ℕ) (d : Item) → n < length statics
    → item_value (number_in words starts) (get_or statics n d)
    ≡ get_or (map (item_value (number_in words starts)) statics) n Null
static_value_is words starts statics n d below = sym (get_or-map (item_value (number_in words starts))
    statics n d Null below)

pub static_known : (words starts : List ℕ) (statics : List Item) (n : ℕ) (d : Item)
    → AreKnown words starts statics → n < length statics
    → IsKnownItem (number_in words starts) (get_or statics n d)
static_known words starts statics n d known below =
    known_by_test (number_in words starts) (get_or statics n d)
    (All-get_or (λ (item : Item). is_known_item (number_in words starts) item ≡ true) statics n d below known)

pub statics_known_set : (words starts : List ℕ) (statics : List Item) (n : ℕ) (item : Item)
    → AreKnown words starts statics
    → IsKnownItem (number_in words starts) item → AreKnown words starts (set statics n item)
statics_known_set words starts statics n item known one =
    All-set (λ (x : Item). is_known_item (number_in words starts) x ≡ true) statics n item
    (known_test (number_in words starts) item refl one) known

pub stores_static : (shapes : List Shape) (words starts : List ℕ) (statics : List Item) (left n : ℕ)
    (item : Item)
    → StoresStatic n item (full_shown shapes words starts statics left)
    (full_shown shapes words starts (set statics n item) left)
stores_static shapes words starts statics left n item = record {
  goes_on = record { shapes = refl; keeps = λ q m h. h; keys = λ q h. refl };
  objects = refl;
  statics = map-set (item_value (number_in words starts)) statics n item;
  left = refl;
}

-- where references keep what they stand for, static fields stay known, and show the same values
pub statics_keep : (before now : Numbers) (statics : List Item) → Keeps before now
    → All (λ (item : Item). is_known_item before item ≡ true) statics
    → All (λ (item : Item). is_known_item now item ≡ true) statics
statics_keep before now statics keeps known =
    All-weaker (λ (item : Item). is_known_item before item ≡ true)
    (λ (item : Item). is_known_item now item ≡ true)
    (λ item one. known_kept before now item keeps one) statics known
