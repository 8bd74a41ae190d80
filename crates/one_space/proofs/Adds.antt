-- One more object behind all others.
use Rattle.std.proofs.Common.{◌≡◌, inl, inr, ℕ, zero, suc, ◌+◌, ◌-◌, ◌*◌, ◌/◌, ◌%◌, ◌^◌, ◌<◌, ◌≤◌, true, List, [], ◌∷◌, ◌++◌}
use Rattle.std.proofs.Common.{length, map, replicate, get_or, set, slice_get, slice_index_or, Option, Some, None, is_some, refl}
use Rattle.std.proofs.Common.{ap, ◌∙◌, sym, subst, arith, rules, length-append}
use Rattle.std.proofs.lemmas.List.{get_or-set_same, get_or-set_other, length-set, length-replicate, get_or_append_left}
use Rattle.std.proofs.lemmas.List.{get_or-append_right, get_or_at, get_or_past, map-append}
use Rattle.ap_base.specs.declared.kind.Kind.{Kind}
use Rattle.ap_base.specs.declared.kind.Kind.TheVariants.{Z, B, C, S, I, J, L, Text}
use Rattle.graph_model.specs.declared.types.Field.{Field}
use Rattle.graph_model.specs.declared.types.Shape.{Shape}
use Rattle.graph_model.specs.declared.types.Obj.{Obj}
use Rattle.graph_model.specs.declared.types.Value.{Value}
use Rattle.graph_model.specs.Heaps.{no_shape, default_of, fresh_values}
use Rattle.ap_base.specs.declared.reference.Ref.TheVariants.{Null as NoRef, Persistent, Volatile}
use Rattle.ap_base.specs.declared.reference.Item.{Item}
use Rattle.ap_base.specs.declared.reference.Item.TheVariants.{Int as IntItem, Long as LongItem, Ref as RefItem}
use Rattle.run_history.specs.Worlds.{may_have}
use Rattle.shared_objects.specs.Shown.{Numbers, Keeps, kind_in, field_kind, item_value, number_value}
use Rattle.one_space.specs.Layout.{word_at, count_at, shape_at_word, number_in, item_at, item_in, object_from, row, IsLaid}
use Rattle.one_space.specs.Layout.{is_known_item}
use Rattle.one_space.specs.Laws.{begins, none_is_not}
use Rattle.one_space.proofs.Laid.{stands, lt_or_is}
use Rattle.one_space.proofs.Stores.{begins_back, row_same}

-- ---- values of new slots

zero_value : (words starts : List ℕ) (kind : Kind) → item_value (number_in words starts)
    (item_in (Some kind) 0) ≡ default_of kind
zero_value words starts Z = refl
zero_value words starts B = refl
zero_value words starts C = refl
zero_value words starts S = refl
zero_value words starts I = refl
zero_value words starts J = refl
zero_value words starts L = refl
zero_value words starts Text = refl

zero_known : (number : Numbers) (kind : Option Kind) → is_known_item number (item_in kind 0) ≡ true
zero_known number None = refl
zero_known number (Some Z) = refl
zero_known number (Some B) = refl
zero_known number (Some C) = refl
zero_known number (Some S) = refl
zero_known number (Some I) = refl
zero_known number (Some J) = refl
zero_known number (Some L) = refl
zero_known number (Some Text) = refl

row_front : {A : Type 0} (n : ℕ) (f : ℕ → A) → row (suc n) f ≡ f 0 ∷ row n (λ i. f (suc i))
row_front zero f = refl
row_front (suc n) f = ap (λ xs. xs ++ f (suc n) ∷ []) (row_front n f)

pub row_replicate : {A : Type 0} (n : ℕ) (x : A) → row n (λ i. x) ≡ replicate n x
row_replicate zero x = refl
row_replicate (suc n) x = row_front n (λ i. x) ∙ ap (λ xs. x ∷ xs) (row_replicate n x)

pub row_fields : {A : Type 0} (fields : List Field) (f : Option Field → A) (g : Field → A)
    → ((x : Field) → f (Some x) ≡ g x)
    → row (length fields) (λ i. f (slice_get fields i)) ≡ map g fields
row_fields [] f g same = refl
row_fields (x ∷ xs) f g same =
    row_front (length xs) (λ i. f (slice_get (x ∷ xs) i))
    ∙ ap (λ y. y ∷ row (length xs) (λ i. f (slice_get xs i))) (same x)
    ∙ ap (λ ys. g x ∷ ys) (row_fields xs f g same)

fresh_by : (words starts name : List ℕ) (fields : List Field) (element : Option Kind) (slots : ℕ)
    → may_have (record { name = name; fields = fields; element = element }) slots ≡ true
    → row slots (λ i. item_value (number_in words starts)
    (item_in (kind_in (record { name = name; fields = fields; element = element }) i) 0))
    ≡ fresh_values (record { name = name; fields = fields; element = element }) slots
fresh_by words starts name fields None slots may =
    let count : slots ≡ length fields = search (rules, may) in
    ap (λ n. row n (λ i. item_value (number_in words starts) (item_in (field_kind (slice_get fields i)) 0)))
    count
    ∙ row_fields fields (λ f. item_value (number_in words starts) (item_in (field_kind f) 0))
    (λ f. default_of f.kind)
    (λ f. zero_value words starts f.kind)
fresh_by words starts name fields (Some kind) slots may =
    row_same slots (λ i. item_value (number_in words starts) (item_in (Some kind) 0)) (λ i. default_of kind)
    (λ k below. zero_value words starts kind)
    ∙ row_replicate slots (default_of kind)

fresh_is : (words starts : List ℕ) (shape : Shape) (slots : ℕ) → may_have shape slots ≡ true
    → row slots (λ i. item_value (number_in words starts) (item_in (kind_in shape i) 0))
    ≡ fresh_values shape slots
fresh_is words starts shape slots may = fresh_by words starts shape.name shape.fields shape.element slots may

-- ---- what is known stays so

known_ref : (before now : Option ℕ) → ((n : ℕ) → before ≡ Some n → now ≡ Some n) → is_some before ≡ true
    → is_some now ≡ true
known_ref None now keeps known = cc
known_ref (Some n) now keeps known = ap is_some (keeps n refl)

value_ref : (before now : Option ℕ) → ((n : ℕ) → before ≡ Some n → now ≡ Some n) → is_some before ≡ true
    → number_value now ≡ number_value before
value_ref None now keeps known = cc
value_ref (Some n) now keeps known = ap number_value (keeps n refl)

pub known_kept : (before now : Numbers) (item : Item) → Keeps before now → is_known_item before item ≡ true
    → is_known_item now item ≡ true
known_kept before now (IntItem i) keeps known = refl
known_kept before now (LongItem i) keeps known = refl
known_kept before now (RefItem NoRef) keeps known = refl
known_kept before now (RefItem (Persistent line)) keeps known = known_ref _ _ (keeps (Persistent line)) known
known_kept before now (RefItem (Volatile index)) keeps known = known_ref _ _ (keeps (Volatile index)) known

pub value_kept : (before now : Numbers) (item : Item) → now NoRef ≡ before NoRef → Keeps before now
    → is_known_item before item ≡ true
    → item_value now item ≡ item_value before item
value_kept before now (IntItem i) none keeps known = refl
value_kept before now (LongItem i) none keeps known = refl
value_kept before now (RefItem NoRef) none keeps known = ap number_value none
value_kept before now (RefItem (Persistent line)) none keeps known = value_ref _ _ (keeps (Persistent line))
    known
value_kept before now (RefItem (Volatile index)) none keeps known = value_ref _ _ (keeps (Volatile index))
    known

slice_left : (xs : List ℕ) (y n x : ℕ) → slice_get xs n ≡ Some x → slice_get (xs ++ y ∷ []) n ≡ Some x
slice_left [] y n x e = none_is_not e
slice_left (a ∷ xs) y zero x e = e
slice_left (a ∷ xs) y (suc n) x e = slice_left xs y n x e

slice_last : (xs : List ℕ) (y : ℕ) → slice_get (xs ++ y ∷ []) (length xs) ≡ Some y
slice_last [] y = refl
slice_last (a ∷ xs) y = slice_last xs y

map_same : {B : Type 0} (f g : ℕ → B) (xs : List ℕ) → ((n : ℕ) → n < length xs → f (get_or xs n 0)
    ≡ g (get_or xs n 0)) → map f xs ≡ map g xs
map_same f g [] same = refl
map_same f g (x ∷ xs) same =
    ap (λ y. y ∷ map f xs) (same 0 (omega arith)) ∙ ap (λ ys. g x ∷ ys)
    (map_same f g xs (λ n below. same (suc n) (omega (arith, below))))

past_zero : (n i : ℕ) → ◌≡◌ {A = ℕ} (get_or (replicate n 0) i 0) 0
past_zero zero i = get_or_past [] i 0 (omega arith)
past_zero (suc n) zero = refl
past_zero (suc n) (suc i) = past_zero n i

-- the head word's halves
head_count : (slots shape : ℕ) → shape < 2 ^ 32 → (slots * 2 ^ 32 + shape) / 2 ^ 32 ≡ slots
head_count slots shape below = omega (arith, below)

head_shape : (slots shape : ℕ) → shape < 2 ^ 32 → (slots * 2 ^ 32 + shape) % 2 ^ 32 ≡ shape
head_shape slots shape below = omega (arith, below)

-- ---- one more object

module _ (shapes : List Shape) (words starts : List ℕ) (laid : IsLaid shapes words starts) (shape slots : ℕ)
    (small_shape : shape < 2 ^ 32) where
  abbrev head : ℕ
  head = slots * 2 ^ 32 + shape

  abbrev zeros : List ℕ
  zeros = words ++ replicate (3 + slots) 0

  abbrev pub added_words : List ℕ
  added_words = set (set zeros (length words + 1) head) (length words + 2) (length starts)

  abbrev pub added_starts : List ℕ
  added_starts = starts ++ length words ∷ []

  length_zeros : length zeros ≡ length words + (3 + slots)
  length_zeros = length-append words (replicate (3 + slots) 0)
      ∙ ap (λ n. length words + n) (length-replicate (3 + slots) 0)

  pub length_added : length added_words ≡ length words + (3 + slots)
  length_added = length-set (set zeros (length words + 1) head) (length words + 2) (length starts)
      ∙ length-set zeros (length words + 1) head ∙ length_zeros

  pub old_word : (j : ℕ) → j < length words → word_at added_words j ≡ word_at words j
  old_word j below =
      get_or-set_other (set zeros (length words + 1) head) (length words + 2) j (length starts) 0
      (λ e. omega (arith, e, below))
      ∙ get_or-set_other zeros (length words + 1) j head 0 (λ e. omega (arith, e, below))
      ∙ get_or_append_left words (replicate (3 + slots) 0) 0 j below

  new_number : word_at added_words (length words + 2) ≡ length starts
  new_number = get_or-set_same (set zeros (length words + 1) head) (length words + 2) (length starts) 0
      (omega (arith, length-set zeros (length words + 1) head, length_zeros))

  new_head : word_at added_words (length words + 1) ≡ head
  new_head = get_or-set_other (set zeros (length words + 1) head) (length words + 2) (length words + 1)
      (length starts) 0 (λ e. omega (arith, e))
      ∙ get_or-set_same zeros (length words + 1) head 0 (omega (arith, length_zeros))

  new_slot : (k : ℕ) → word_at added_words (length words + 3 + k) ≡ 0
  new_slot k = get_or-set_other (set zeros (length words + 1) head) (length words + 2) (length words + 3 + k)
      (length starts) 0 (λ e. omega (arith, e))
      ∙ get_or-set_other zeros (length words + 1) (length words + 3 + k) head 0 (λ e. omega (arith, e))
      ∙ get_or-append_right words (replicate (3 + slots) 0) (length words) (length words + 3 + k) 0 refl
      (omega arith)
      ∙ past_zero (3 + slots) (length words + 3 + k - length words)

  new_count : count_at added_words (length words) ≡ slots
  new_count = ap (λ w. w / 2 ^ 32) new_head ∙ head_count slots shape small_shape

  new_shape : shape_at_word added_words (length words) ≡ shape
  new_shape = ap (λ w. w % 2 ^ 32) new_head ∙ head_shape slots shape small_shape

  -- what a reference stands for it stands for yet
  pub keeps_added : Keeps (number_in words starts) (number_in added_words added_starts)
  keeps_added NoRef n e = none_is_not e
  keeps_added (Persistent line) n e = none_is_not e
  keeps_added (Volatile index) n e =
      let b = begins words starts index n e in
      let s = stands words starts index n e in
      let inside : index + 3 + count_at words index ≤ length words = subst
      (λ (a : ℕ). a + 3 + count_at words a ≤ length words) s.1 (laid.inside n s.0) in
      begins_back added_words added_starts index n (old_word (index + 2) (omega (arith, inside)) ∙ b.0)
      (slice_left starts (length words) n index b.1)

  -- the new reference has the next number
  pub added_number : number_in added_words added_starts (Volatile (length words)) ≡ Some (length starts)
  added_number = begins_back added_words added_starts (length words) (length starts) new_number
      (slice_last starts (length words))

  -- ---- objects that were there

  old_at : (n k : ℕ) → n < length starts → k < 3 → word_at added_words (get_or starts n 0 + k)
      ≡ word_at words (get_or starts n 0 + k)
  old_at n k below few = old_word (get_or starts n 0 + k)
      (let a = laid.inside n below in omega (arith, a, few))

  old_count : (n : ℕ) → n < length starts → count_at added_words (get_or starts n 0)
      ≡ count_at words (get_or starts n 0)
  old_count n below = ap (λ w. w / 2 ^ 32) (old_at n 1 below (omega arith))

  old_shape : (n : ℕ) → n < length starts → shape_at_word added_words (get_or starts n 0)
      ≡ shape_at_word words (get_or starts n 0)
  old_shape n below = ap (λ w. w % 2 ^ 32) (old_at n 1 below (omega arith))

  old_item : (n k : ℕ) → n < length starts → k < count_at words (get_or starts n 0)
      → item_at shapes added_words (get_or starts n 0) k ≡ item_at shapes words (get_or starts n 0) k
  old_item n k below counted =
      ap (λ (h : ℕ). item_in (kind_in (slice_index_or shapes h no_shape) k)
      (word_at added_words (get_or starts n 0 + 3 + k))) (old_shape n below)
      ∙ ap (item_in (kind_in (slice_index_or shapes (shape_at_word words (get_or starts n 0)) no_shape) k))
      (old_word (get_or starts n 0 + 3 + k) (let a = laid.inside n below in omega (arith, a, counted)))

  old_object : (n : ℕ) → n < length starts
      → object_from shapes added_words added_starts (get_or starts n 0)
      ≡ object_from shapes words starts (get_or starts n 0)
  old_object n below =
      let a = get_or starts n 0 in
      let values : ℕ → List Value = λ c. row c (λ k. item_value (number_in added_words added_starts)
      (item_at shapes added_words a k)) in
      let make : ℕ → List Value → Obj = λ sh vs. record { shape = sh; values = vs } in
      ap (λ sh. make sh (values (count_at added_words a))) (old_shape n below)
      ∙ ap (λ c. make (shape_at_word words a) (values c)) (old_count n below)
      ∙ ap (make (shape_at_word words a)) (row_same (count_at words a) _ _ (λ k counted.
      ap (item_value (number_in added_words added_starts)) (old_item n k below counted)
      ∙ value_kept (number_in words starts) (number_in added_words added_starts) (item_at shapes words a k)
      refl keeps_added (laid.known n k below counted)))

  -- ---- the new one

  new_item : (k : ℕ) → item_at shapes added_words (length words) k
      ≡ item_in (kind_in (slice_index_or shapes shape no_shape) k) 0
  new_item k =
      ap (λ (h : ℕ). item_in (kind_in (slice_index_or shapes h no_shape) k)
      (word_at added_words (length words + 3 + k))) new_shape
      ∙ ap (item_in (kind_in (slice_index_or shapes shape no_shape) k)) (new_slot k)

  new_object : may_have (slice_index_or shapes shape no_shape) slots ≡ true
      → object_from shapes added_words added_starts (length words)
      ≡ record { shape = shape; values = fresh_values (slice_index_or shapes shape no_shape) slots }
  new_object may =
      let values : ℕ → List Value = λ c. row c (λ k. item_value (number_in added_words added_starts)
      (item_at shapes added_words (length words) k)) in
      let make : ℕ → List Value → Obj = λ sh vs. record { shape = sh; values = vs } in
      ap (λ sh. make sh (values (count_at added_words (length words)))) new_shape
      ∙ ap (λ c. make shape (values c)) new_count
      ∙ ap (make shape) (row_same slots _ _ (λ k counted. ap
      (item_value (number_in added_words added_starts)) (new_item k))
      ∙ fresh_is added_words added_starts (slice_index_or shapes shape no_shape) slots may)

  pub objects_added : may_have (slice_index_or shapes shape no_shape) slots ≡ true
      → map (object_from shapes added_words added_starts) added_starts
      ≡ map (object_from shapes words starts) starts
      ++ record { shape = shape; values = fresh_values (slice_index_or shapes shape no_shape) slots } ∷ []
  objects_added may =
      map-append (object_from shapes added_words added_starts) starts (length words ∷ [])
      ∙ ap (λ os. os ++ object_from shapes added_words added_starts (length words) ∷ [])
      (map_same (object_from shapes added_words added_starts) (object_from shapes words starts) starts
      old_object)
      ∙ ap (λ o. map (object_from shapes words starts) starts ++ o ∷ []) (new_object may)

  -- ---- all objects are laid

  each_added : (P : ℕ → ℕ → Type 0) → ((n : ℕ) → n < length starts → P n (get_or starts n 0))
      → P (length starts) (length words)
      → (n : ℕ) → n < length added_starts → P n (get_or added_starts n 0)
  each_added P old new n below =
      let few : n < suc (length starts) = omega (arith, length-append starts (length words ∷ []), below) in
      elim (lt_or_is n (length starts) few) [
        | inl less ↦ subst (P n) (sym (get_or_append_left starts (length words ∷ []) 0 n less)) (old n less)
        | inr is ↦ subst (P n) (sym (get_or_at starts (length words) [] 0 n (sym is)))
            (subst (λ m. P m (length words)) (sym is) new)
      ]

  pub laid_added : shape < length shapes → slots < 2 ^ 31 → IsLaid shapes added_words added_starts
  laid_added there few = record {
    inside = each_added (λ n a. a + 3 + count_at added_words a ≤ length added_words)
        (λ n below. let i = laid.inside n below in let c = old_count n below in
        omega (arith, i, c, length_added))
        (let c = new_count in omega (arith, c, length_added));
    apart = λ m n less below. each_added (λ n a. m < n → get_or added_starts m 0 + 3 + count_at added_words
        (get_or added_starts m 0) ≤ a)
        (λ k inner before. let old : m < length starts = omega (arith, before, inner) in
        let p = laid.apart m k before inner in let c = old_count m old in
        subst (λ (a : ℕ). a + 3 + count_at added_words a ≤ get_or starts k 0)
        (sym (get_or_append_left starts (length words ∷ []) 0 m old))
        (omega (arith, p, c)))
        (λ before. let p = laid.inside m before in let c = old_count m before in
        subst (λ (a : ℕ). a + 3 + count_at added_words a ≤ length words)
        (sym (get_or_append_left starts (length words ∷ []) 0 m before))
        (omega (arith, p, c)))
        n below less;
    numbered = each_added (λ n a. word_at added_words (a + 2) ≡ n)
        (λ n below. old_at n 2 below (omega arith) ∙ laid.numbered n below) new_number;
    shaped = each_added (λ n a. shape_at_word added_words a < length shapes)
        (λ n below. subst (λ (x : ℕ). x < length shapes) (sym (old_shape n below)) (laid.shaped n below))
        (subst (λ (x : ℕ). x < length shapes) (sym new_shape) there);
    small = each_added (λ n a. count_at added_words a < 2 ^ 31)
        (λ n below. subst (λ (x : ℕ). x < 2 ^ 31) (sym (old_count n below)) (laid.small n below))
        (subst (λ (x : ℕ). x < 2 ^ 31) (sym new_count) few);
    known = λ n i below. each_added
        (λ n a. i < count_at added_words a → is_known_item (number_in added_words added_starts)
        (item_at shapes added_words a i) ≡ true)
        (λ k inner counted.
        let old : i < count_at words (get_or starts k 0) = subst (λ (x : ℕ). i < x) (old_count k inner)
        counted in
        ap (is_known_item (number_in added_words added_starts)) (old_item k i inner old)
        ∙ known_kept (number_in words starts) (number_in added_words added_starts)
        (item_at shapes words (get_or starts k 0) i) keeps_added (laid.known k i inner old))
        (λ counted. ap (is_known_item (number_in added_words added_starts)) (new_item i)
        ∙ zero_known (number_in added_words added_starts) (kind_in (slice_index_or shapes shape no_shape) i))
        n below;
  }
