-- A store to a slot.
use Rattle.std.proofs.Common.{◌≡◌, ◌≢◌, ◌⊎◌, inl, inr, ℕ, zero, suc, ◌+◌, ◌/◌, ◌%◌, ◌^◌, ◌<◌, ◌≤◌, true, List, [], ◌∷◌, ◌++◌}
use Rattle.std.proofs.Common.{length, map, get_or, set, slice_get, slice_index_or, Option, Some, None, refl, ap, ◌∙◌, sym}
use Rattle.std.proofs.Common.{subst, arith, rules, nat_eq, if◌then◌else◌}
use Rattle.std.proofs.Math.Path.{fun_ext}
use Rattle.std.proofs.lemmas.List.{get_or-set_same, get_or-set_other, length-set, length-map, ext_get_or}
use Rattle.ap_base.specs.declared.reference.Ref.{Ref}
use Rattle.ap_base.specs.declared.reference.Ref.TheVariants.{Null as NoRef, Persistent, Volatile}
use Rattle.ap_base.specs.declared.reference.Item.{Item}
use Rattle.graph_model.specs.declared.types.Shape.{Shape}
use Rattle.graph_model.specs.declared.types.Obj.{Obj}
use Rattle.graph_model.specs.declared.types.Value.{Value}
use Rattle.graph_model.specs.Heaps.{no_object, no_shape, with_slot}
use Rattle.shared_objects.specs.Shown.{Numbers, item_value, kind_in}
use Rattle.one_space.specs.Layout.{word_at, count_at, shape_at_word, number_in, number_if, item_at, item_in, row, object_from}
use Rattle.one_space.specs.Layout.{IsLaid, is_known_item}
use Rattle.one_space.specs.Laws.{begins}
use Rattle.one_space.proofs.Laid.{SlotOf, length-row, get_or-row, get_or-map, got}

pub same_option : (a b : Option ℕ) → ((n : ℕ) → a ≡ Some n → b ≡ Some n)
    → ((n : ℕ) → b ≡ Some n → a ≡ Some n) → a ≡ b
same_option None None f g = refl
same_option None (Some n) f g = g n refl
same_option (Some n) b f g = sym (f n refl)

same_index : (index : ℕ) → nat_eq index index ≡ true
same_index index = search rules

-- where an object begins, the reference has its number
pub begins_back : (words starts : List ℕ) (index n : ℕ) → word_at words (index + 2) ≡ n → slice_get starts n
    ≡ Some index → number_in words starts (Volatile index) ≡ Some n
begins_back words starts index n w s =
    ap (λ m. number_if index m (slice_get starts m)) w ∙ ap (number_if index n) s
    ∙ ap (λ b. if b then Some n else None) (same_index index)

-- numbers depend on the words of the objects' numbers alone
pub same_numbers : (words other starts : List ℕ) → ((m : ℕ) → m < length starts
    → word_at other (get_or starts m 0 + 2) ≡ word_at words (get_or starts m 0 + 2))
    → (r : Ref) → number_in other starts r ≡ number_in words starts r
same_numbers words other starts same NoRef = refl
same_numbers words other starts same (Persistent line) = refl
same_numbers words other starts same (Volatile index) = same_option _ _
    (λ n e. let b = begins other starts index n e in let s = got starts n index b.1 in
    begins_back words starts index n (ap (λ k. word_at words (k + 2)) (sym s.1) ∙ sym (same n s.0)
    ∙ ap (λ k. word_at other (k + 2)) s.1 ∙ b.0) b.1)
    (λ n e. let b = begins words starts index n e in let s = got starts n index b.1 in
    begins_back other starts index n (ap (λ k. word_at other (k + 2)) (sym s.1) ∙ same n s.0
    ∙ ap (λ k. word_at words (k + 2)) s.1 ∙ b.0) b.1)

pub row_same : {A : Type 0} (n : ℕ) (f g : ℕ → A) → ((k : ℕ) → k < n → f k ≡ g k) → row n f ≡ row n g
row_same zero f g same = refl
row_same (suc n) f g same =
    ap (λ xs. xs ++ f n ∷ []) (row_same n f g (λ k below. same k (omega (arith, below))))
    ∙ ap (λ x. row n g ++ x ∷ []) (same n (omega arith))

three_ways : (m n : ℕ) → ((m < n) ⊎ (m ≡ n)) ⊎ (n < m)
three_ways zero zero = inl (inr refl)
three_ways zero (suc n) = inl (inl (omega arith))
three_ways (suc m) zero = inr (omega arith)
three_ways (suc m) (suc n) = elim (three_ways m n) [
  | inl (inl l) ↦ inl (inl (omega (arith, l)))
  | inl (inr e) ↦ inl (inr (ap suc e))
  | inr g ↦ inr (omega (arith, g))
]

pub same_or : (m n : ℕ) → (m ≡ n) ⊎ (m ≢ n)
same_or m n = elim (three_ways m n) [
  | inl (inl l) ↦ inr (λ e. omega (arith, l, e))
  | inl (inr e) ↦ inl e
  | inr g ↦ inr (λ e. omega (arith, g, e))
]

pub row_set : {A : Type 0} (n : ℕ) (f g : ℕ → A) (i : ℕ) (x : A) → i < n → g i ≡ x
    → ((k : ℕ) → k < n → k ≢ i → g k ≡ f k) → row n g ≡ set (row n f) i x
row_set n f g i x below is same =
    ext_get_or x _ _ (length-row n g ∙ sym (length-set (row n f) i x ∙ length-row n f)) (λ k inside.
    let less : k < n = subst (λ (y : ℕ). k < y) (length-row n g) inside in
    get_or-row n g k x less ∙ (elim (same_or k i) [
      | inl e ↦ ap g e ∙ is ∙ sym (get_or-set_same (row n f) i x x
          (subst (λ (y : ℕ). i < y) (sym (length-row n f)) below))
          ∙ ap (λ (y : ℕ). get_or (set (row n f) i x) y x) (sym e)
      | inr apart ↦ same k less apart ∙ sym (get_or-row n f k x less)
          ∙ sym (get_or-set_other (row n f) i k x x apart)
    ]))

module _ (shapes : List Shape) (words starts : List ℕ) (at i : ℕ) (laid : IsLaid shapes words starts)
    (s : SlotOf shapes words starts at i) where
  before_slot : (m k : ℕ) → m < length starts → k < 3 → get_or starts m 0 + k ≢ at + 3 + i
  before_slot m k below few e =
      let c = s.counted in let start = s.start in
      elim (three_ways m s.n) [
        | inl (inl l) ↦ (let a = laid.apart m s.n l s.below in omega (arith, e, few, a, start))
        | inl (inr is) ↦ (let a : get_or starts m 0 ≡ at = ap (λ x. get_or starts x 0) is ∙ start in
            omega (arith, e, few, a))
        | inr g ↦ (let a : at + 3 + count_at words at ≤ get_or starts m 0 = subst
            (λ (x : ℕ). x + 3 + count_at words x ≤ get_or starts m 0) start (laid.apart s.n m g below) in
            omega (arith, e, few, a, c))
      ]

  other_slot : (m k : ℕ) → m < length starts → m ≢ s.n → k < count_at words (get_or starts m 0)
      → get_or starts m 0 + 3 + k ≢ at + 3 + i
  other_slot m k below apart counted e =
      let c = s.counted in let start = s.start in
      elim (three_ways m s.n) [
        | inl (inl l) ↦ (let a = laid.apart m s.n l s.below in omega (arith, e, counted, a, start))
        | inl (inr is) ↦ absurd (apart is)
        | inr g ↦ (let a : at + 3 + count_at words at ≤ get_or starts m 0 = subst
            (λ (x : ℕ). x + 3 + count_at words x ≤ get_or starts m 0) start (laid.apart s.n m g below) in
            omega (arith, e, a, c))
      ]

  module _ (v : ℕ) where
    abbrev stored_words : List ℕ
    stored_words = set words (at + 3 + i) v

    pub head_same : (m k : ℕ) → m < length starts → k < 3 → word_at stored_words (get_or starts m 0 + k)
        ≡ word_at words (get_or starts m 0 + k)
    head_same m k below few = get_or-set_other words (at + 3 + i) (get_or starts m 0 + k) v 0
        (before_slot m k below few)

    pub numbers_same : (r : Ref) → number_in stored_words starts r ≡ number_in words starts r
    numbers_same r = same_numbers words stored_words starts (λ m below. head_same m 2 below (omega arith)) r

    pub numbers_path : number_in stored_words starts ≡ number_in words starts
    numbers_path = fun_ext numbers_same

    pub other_word : (m k : ℕ) → m < length starts → m ≢ s.n → k < count_at words (get_or starts m 0)
        → word_at stored_words (get_or starts m 0 + 3 + k) ≡ word_at words (get_or starts m 0 + 3 + k)
    other_word m k below apart counted = get_or-set_other words (at + 3 + i) (get_or starts m 0 + 3 + k) v 0
        (other_slot m k below apart counted)

    own_word : (k : ℕ) → k ≢ i → word_at stored_words (at + 3 + k) ≡ word_at words (at + 3 + k)
    own_word k apart = get_or-set_other words (at + 3 + i) (at + 3 + k) v 0 (λ e. apart (omega (arith, e)))

    new_word : word_at stored_words (at + 3 + i) ≡ v
    new_word = let a = s.inside in let c = s.counted in get_or-set_same words (at + 3 + i) v 0
        (omega (arith, a, c))

    count_same : (m : ℕ) → m < length starts → count_at stored_words (get_or starts m 0)
        ≡ count_at words (get_or starts m 0)
    count_same m below = ap (λ w. w / 2 ^ 32) (head_same m 1 below (omega arith))

    shape_same : (m : ℕ) → m < length starts → shape_at_word stored_words (get_or starts m 0)
        ≡ shape_at_word words (get_or starts m 0)
    shape_same m below = ap (λ w. w % 2 ^ 32) (head_same m 1 below (omega arith))

    item_same : (m k : ℕ) → m < length starts → word_at stored_words (get_or starts m 0 + 3 + k)
        ≡ word_at words (get_or starts m 0 + 3 + k)
        → item_at shapes stored_words (get_or starts m 0) k ≡ item_at shapes words (get_or starts m 0) k
    item_same m k below w =
        ap (λ (h : ℕ). item_in (kind_in (slice_index_or shapes h no_shape) k)
        (word_at stored_words (get_or starts m 0 + 3 + k))) (shape_same m below)
        ∙ ap (item_in (kind_in (slice_index_or shapes (shape_at_word words (get_or starts m 0)) no_shape) k))
        w

    object_other : (m : ℕ) → m < length starts → m ≢ s.n
        → object_from shapes stored_words starts (get_or starts m 0)
        ≡ object_from shapes words starts (get_or starts m 0)
    object_other m below apart =
        let a = get_or starts m 0 in
        let values : ℕ → List Value = λ c. row c (λ k. item_value (number_in stored_words starts)
        (item_at shapes stored_words a k)) in
        let make : ℕ → List Value → Obj = λ sh vs. record { shape = sh; values = vs } in
        ap (λ sh. make sh (values (count_at stored_words a))) (shape_same m below)
        ∙ ap (λ c. make (shape_at_word words a) (values c)) (count_same m below)
        ∙ ap (make (shape_at_word words a)) (row_same (count_at words a) _ _ (λ k counted.
        ap (λ (num : Numbers). item_value num (item_at shapes stored_words a k)) numbers_path
        ∙ ap (item_value (number_in words starts)) (item_same m k below
        (other_word m k below apart counted))))

    head_at : (k : ℕ) → k < 3 → word_at stored_words (at + k) ≡ word_at words (at + k)
    head_at k few = subst (λ (a : ℕ). word_at stored_words (a + k) ≡ word_at words (a + k)) s.start
        (head_same s.n k s.below few)

    item_own : (k : ℕ) → word_at stored_words (at + 3 + k) ≡ word_at words (at + 3 + k)
        → item_at shapes stored_words at k ≡ item_at shapes words at k
    item_own k w =
        ap (λ (h : ℕ). item_in (kind_in (slice_index_or shapes (h % 2 ^ 32) no_shape) k)
        (word_at stored_words (at + 3 + k))) (head_at 1 (omega arith))
        ∙ ap (item_in (kind_in (slice_index_or shapes (shape_at_word words at) no_shape) k)) w

    item_new : (item : Item) → item_in (kind_in (slice_index_or shapes (shape_at_word words at) no_shape) i)
        v ≡ item → item_at shapes stored_words at i ≡ item
    item_new item is =
        ap (λ (h : ℕ). item_in (kind_in (slice_index_or shapes (h % 2 ^ 32) no_shape) i)
        (word_at stored_words (at + 3 + i))) (head_at 1 (omega arith))
        ∙ ap (item_in (kind_in (slice_index_or shapes (shape_at_word words at) no_shape) i)) new_word ∙ is

    object_own : (item : Item) → item_in (kind_in (slice_index_or shapes (shape_at_word words at) no_shape)
        i) v ≡ item
        → object_from shapes stored_words starts at ≡ with_slot (object_from shapes words starts at) i
        (item_value (number_in words starts) item)
    object_own item is =
        let values : ℕ → List Value = λ c. row c (λ k. item_value (number_in stored_words starts)
        (item_at shapes stored_words at k)) in
        let make : ℕ → List Value → Obj = λ sh vs. record { shape = sh; values = vs } in
        ap (λ (h : ℕ). make (h % 2 ^ 32) (values (count_at stored_words at))) (head_at 1 (omega arith))
        ∙ ap (λ (h : ℕ). make (shape_at_word words at) (values (h / 2 ^ 32))) (head_at 1 (omega arith))
        ∙ ap (make (shape_at_word words at)) (row_set (count_at words at)
        (λ k. item_value (number_in words starts) (item_at shapes words at k))
        (λ k. item_value (number_in stored_words starts) (item_at shapes stored_words at k))
        i (item_value (number_in words starts) item) s.counted
        (ap (λ (num : Numbers). item_value num (item_at shapes stored_words at i)) numbers_path
        ∙ ap (item_value (number_in words starts)) (item_new item is))
        (λ k below apart. ap (λ (num : Numbers). item_value num (item_at shapes stored_words at k))
        numbers_path
        ∙ ap (item_value (number_in words starts)) (item_own k (own_word k apart))))

    pub objects_stored : (item : Item) → item_in (kind_in
        (slice_index_or shapes (shape_at_word words at) no_shape) i) v ≡ item
        → map (object_from shapes stored_words starts) starts
        ≡ set (map (object_from shapes words starts) starts) s.n
        (with_slot (object_from shapes words starts at) i (item_value (number_in words starts) item))
    objects_stored item is =
        let old = map (object_from shapes words starts) starts in
        let new = with_slot (object_from shapes words starts at) i (item_value (number_in words starts) item)
        in
        let long : length (map (object_from shapes stored_words starts) starts)
        ≡ length starts = length-map starts (object_from shapes stored_words starts) in
        let long_old : length old ≡ length starts = length-map starts (object_from shapes words starts) in
        ext_get_or no_object _ _ (long ∙ sym (length-set old s.n new ∙ long_old)) (λ m inside.
        let below : m < length starts = subst (λ (x : ℕ). m < x) long inside in
        get_or-map (object_from shapes stored_words starts) starts m 0 no_object below
        ∙ (elim (same_or m s.n) [
          | inl e ↦ ap (λ (x : ℕ). object_from shapes stored_words starts (get_or starts x 0)) e
              ∙ ap (object_from shapes stored_words starts) s.start ∙ object_own item is
              ∙ sym (get_or-set_same old s.n new no_object
              (subst (λ (x : ℕ). s.n < x) (sym long_old) s.below))
              ∙ ap (λ (x : ℕ). get_or (set old s.n new) x no_object) (sym e)
          | inr apart ↦ object_other m below apart ∙ sym
              (get_or-map (object_from shapes words starts) starts m 0 no_object below)
              ∙ sym (get_or-set_other old s.n m new no_object apart)
        ]))

    pub laid_stored : (item : Item) → item_in (kind_in (slice_index_or shapes (shape_at_word words at)
        no_shape) i) v ≡ item
        → is_known_item (number_in words starts) item ≡ true → IsLaid shapes stored_words starts
    laid_stored item is known = record {
      inside = λ m below. let a = laid.inside m below in let c = count_same m below in
          let l = length-set words (at + 3 + i) v in omega (arith, a, c, l);
      apart = λ k m less below. let a = laid.apart k m less below in
          let c = count_same k (omega (arith, less, below)) in omega (arith, a, c);
      numbered = λ m below. head_same m 2 below (omega arith) ∙ laid.numbered m below;
      shaped = λ m below. subst (λ (x : ℕ). x < length shapes) (sym (shape_same m below))
          (laid.shaped m below);
      small = λ m below. subst (λ (x : ℕ). x < 2 ^ 31) (sym (count_same m below)) (laid.small m below);
      known = λ m k below counted.
          let old : k < count_at words (get_or starts m 0) = subst (λ (x : ℕ). k < x) (count_same m below)
          counted in
          subst (λ (num : Numbers). is_known_item num (item_at shapes stored_words (get_or starts m 0) k)
          ≡ true) (sym numbers_path)
          (elim (same_or m s.n) [
            | inl e ↦ (let place : get_or starts m 0 ≡ at = ap (λ (x : ℕ). get_or starts x 0) e ∙ s.start in
                elim (same_or k i) [
                  | inl f ↦ ap (λ (a : ℕ). is_known_item (number_in words starts)
                      (item_at shapes stored_words a k)) place
                      ∙ ap (λ (x : ℕ). is_known_item (number_in words starts)
                      (item_at shapes stored_words at x)) f
                      ∙ ap (is_known_item (number_in words starts)) (item_new item is) ∙ known
                  | inr apart ↦ ap (λ (a : ℕ). is_known_item (number_in words starts)
                      (item_at shapes stored_words a k)) place
                      ∙ ap (is_known_item (number_in words starts)) (item_own k (own_word k apart))
                      ∙ ap (λ (a : ℕ). is_known_item (number_in words starts) (item_at shapes words a k))
                      (sym place) ∙ laid.known m k below old
                ])
            | inr apart ↦ ap (is_known_item (number_in words starts))
                (item_same m k below (other_word m k below apart old)) ∙ laid.known m k below old
          ]);
    }
