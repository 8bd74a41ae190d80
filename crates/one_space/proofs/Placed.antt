-- What placing a new object leaves.
use Rattle.std.proofs.Common.{◌≡◌, ℕ, ◌+◌, ◌-◌, ◌<◌, ◌^◌, true, List, [], ◌∷◌, map, length, slice_index_or, Some, refl, ap, ◌∙◌}
use Rattle.std.proofs.Common.{sym, subst}
use Rattle.std.specs.Prelude.{All}
use Rattle.std.proofs.lemmas.List.{length-map}
use Rattle.std.proofs.lemmas.List.Elements.{All-head, All-tail}
use Rattle.ap_base.specs.declared.reference.Item.{Item}
use Rattle.ap_base.specs.declared.reference.Ref.TheVariants.{Volatile, Null as NoRef}
use Rattle.graph_model.specs.declared.types.Shape.{Shape}
use Rattle.graph_model.specs.Heaps.{no_shape}
use Rattle.run_history.specs.Worlds.{may_have}
use Rattle.shared_objects.specs.Shown.{Numbers, Keeps, item_value}
use Rattle.shared_objects.specs.Changes.{Allocates}
use Rattle.one_space.specs.Layout.{full_shown, number_in, object_from, IsLaid, AreKnown, is_known_item}
use Rattle.one_space.proofs.Adds.{value_kept, added_words, added_starts, keeps_added, added_number, objects_added}

pub values_keep : (before now : Numbers) (statics : List Item) → now NoRef ≡ before NoRef → Keeps before now
    → All (λ (item : Item). is_known_item before item ≡ true) statics → map (item_value now) statics
    ≡ map (item_value before) statics
values_keep before now [] none keeps known = refl
values_keep before now (item ∷ items) none keeps known =
    ap (λ v. v ∷ map (item_value now) items)
    (value_kept before now item none keeps (All-head (λ (item : Item). is_known_item before item ≡ true) item
    items known))
    ∙ ap (λ vs. item_value before item ∷ vs)
    (values_keep before now items none keeps (All-tail (λ (item : Item). is_known_item before item ≡ true)
    item items known))

pub allocates : (shapes : List Shape) (words starts : List ℕ) (statics : List Item) (left shape slots : ℕ)
    (laid : IsLaid shapes words starts)
    (known : AreKnown words starts statics) (small : shape < 2 ^ 32)
    → may_have (slice_index_or shapes shape no_shape) slots ≡ true
    → Allocates shape slots (Volatile (length words)) (full_shown shapes words starts statics left)
    (full_shown shapes (added_words shapes words starts laid shape slots small)
    (added_starts shapes words starts laid shape slots small) statics (left - (3 + slots)))
allocates shapes words starts statics left shape slots laid known small may = record {
  goes_on = record {
    shapes = refl;
    keeps = keeps_added shapes words starts laid shape slots small;
    keys = λ
        q h. refl;
  };
  objects = objects_added shapes words starts laid shape slots small may;
  number = added_number shapes words starts laid shape slots small
      ∙ ap Some (sym (length-map starts (object_from shapes words starts)));
  statics = values_keep (number_in words starts)
      (number_in (added_words shapes words starts laid shape slots small)
      (added_starts shapes words starts laid shape slots small)) statics refl
      (keeps_added shapes words starts laid shape slots small) known;
  left = refl;
}

-- words, starts and what is left, by their equations
pub along : (P : List ℕ → List ℕ → ℕ → Type 0) {w v s t : List ℕ} {l m : ℕ} → w ≡ v → s ≡ t → l ≡ m → P v t m
    → P w s l
along P {w} {v} {s} {t} {l} {m} ew es el h =
    subst (λ (x : List ℕ). P x s l) (sym ew) (subst (λ (x : List ℕ). P v x l) (sym es)
    (subst (λ (x : ℕ). P v t x) (sym el) h))
