-- Texts in order, as a set of vectors keeps them.
use Rattle.std.proofs.Common.{◌≡◌, ℕ, List, [], ◌∷◌, map, refl, ap, ◌∙◌, ◌||◌, Less, Equal, Greater}
use Rattle.std.specs.List.{list_any}
use Rattle.std.specs.Ordering.{is_eq, match_ordering, nat_cmp}
use Rattle.std.specs.Cmp.Lexicographic.{slice_cmp, nat_list_eq_equiv}
use Rattle.std.specs.Str.{bytes_eq}
use Rattle.std.specs.BTreeSet.{insert_key}
use Rattle.std.specs.Global.{Vec}
use Rattle.std.proofs.lemmas.Map.Text.{is_eq-slice_cmp}
use Rattle.text_table.specs.Sorted.{insert_text, has_text, items_of}

pub insert_items : (keys : List (Vec ℕ)) (key : Vec ℕ)
    → map items_of (insert_key (λ (x y : Vec ℕ). slice_cmp nat_cmp x.items y.items) keys key) ≡ insert_text (map items_of keys) key.items
insert_items [] key = refl
insert_items (x ∷ xs) key =
    elim (slice_cmp nat_cmp key.items x.items) as (λ o. map items_of (match_ordering o (key ∷ x ∷ xs) (x ∷ xs)
    (x ∷ insert_key (λ (x y : Vec ℕ). slice_cmp nat_cmp x.items y.items) xs key))
    ≡ match_ordering o (key.items ∷ x.items ∷ map items_of xs) (x.items ∷ map items_of xs) (x.items ∷ insert_text (map items_of xs) key.items)) [
      | Less ↦ refl
      | Equal ↦ refl
      | Greater ↦ ap (λ ts. x.items ∷ ts) (insert_items xs key)
    ]

pub has_items : (keys : List (Vec ℕ)) (text : List ℕ)
    → list_any (λ (k : Vec ℕ). is_eq (slice_cmp nat_cmp text k.items)) keys ≡ has_text (map items_of keys) text
has_items [] text = refl
has_items (x ∷ xs) text =
    ap (λ b. b || list_any (λ (k : Vec ℕ). is_eq (slice_cmp nat_cmp text k.items)) xs)
    (is_eq-slice_cmp text x.items ∙ nat_list_eq_equiv.symm text x.items)
    ∙ ap (λ b. bytes_eq x.items text || b) (has_items xs text)
