-- Array types that are listed again leave those that are listed as they are.
use Rattle.std.proofs.Common.{◌≡◌, ◌≢◌, ℕ, Bool, true, false, List, [], ◌∷◌, Some, slice_index_or, refl, ap, sym, ◌∙◌, arith}
use Rattle.std.proofs.Common.{subst, Ordering, Less, Equal, Greater, inl, inr}
use Rattle.std.proofs.Common.{Result, Ok, Err}
use Rattle.std.specs.Prelude.{filter, OnOk}
use Rattle.std.specs.Global.{Vec}
use Rattle.std.specs.Ordering.{is_eq, match_ordering, nat_cmp, ordering_reverse}
use Rattle.std.specs.Cmp.Lexicographic.{slice_cmp, nat_list_cmp_total}
use Rattle.std.proofs.lemmas.Bool.{cases_lt}
use Rattle.std.proofs.lemmas.Map.Text.{is_eq-slice_cmp}
use Rattle.std.proofs.lemmas.Slice.Eq.{bytes_eq-Decides}
use Rattle.const_pool.specs.Pool.{Slots}
use Rattle.text_table.specs.Sorted.{insert_text, insert_texts}
use Rattle.class_set.specs.declared.arrays.Listed.{Listed}
use Rattle.class_set.specs.declared.arrays.Listed.TheVariants.{Needed}
use Rattle.class_set.specs.declared.arrays.Marks.{Marks}
use Rattle.class_set.specs.ArrayTypes.{is_array_type, named, with_arrays}
use Rattle.class_set.specs.Marks.{AreListed, AreMarked, array_of_class, spelled}

-- ---- one text

abbrev cmp : List ℕ → List ℕ → Ordering
cmp x y = slice_cmp nat_cmp x y

same_of : (x y : List ℕ) → cmp x y ≡ Equal → x ≡ y
same_of x y e = (bytes_eq-Decides x y).0 (sym (is_eq-slice_cmp x y) ∙ ap is_eq e)

itself : (x : List ℕ) → cmp x x ≡ Equal
itself x = equal (cmp x x) (is_eq-slice_cmp x x ∙ (bytes_eq-Decides x x).1 refl)
  where
    equal : (o : Ordering) → is_eq o ≡ true → o ≡ Equal
    equal Equal h = refl
    equal Less h = absurd (cc)
    equal Greater h = absurd (cc)

reversed : (x y : List ℕ) → cmp x y ≡ Greater → cmp y x ≡ Less
reversed x y e = nat_list_cmp_total.antisymm y x ∙ ap ordering_reverse e

turned : (x y : List ℕ) → cmp x y ≡ Less → cmp y x ≡ Greater
turned x y e = nat_list_cmp_total.antisymm y x ∙ ap ordering_reverse e

-- a text that stands at the front of the others by its order
at_less : (x y : List ℕ) (ys : List (List ℕ)) → cmp x y ≡ Less → insert_text (y ∷ ys) x ≡ x ∷ y ∷ ys
at_less x y ys e = ap (λ o. match_ordering o (x ∷ y ∷ ys) (y ∷ ys) (y ∷ insert_text ys x)) e

at_equal : (x y : List ℕ) (ys : List (List ℕ)) → cmp x y ≡ Equal → insert_text (y ∷ ys) x ≡ y ∷ ys
at_equal x y ys e = ap (λ o. match_ordering o (x ∷ y ∷ ys) (y ∷ ys) (y ∷ insert_text ys x)) e

at_greater : (x y : List ℕ) (ys : List (List ℕ)) → cmp x y ≡ Greater → insert_text (y ∷ ys) x ≡ y ∷ insert_text ys x
at_greater x y ys e = ap (λ o. match_ordering o (x ∷ y ∷ ys) (y ∷ ys) (y ∷ insert_text ys x)) e

twice : (xs : List (List ℕ)) (t : List ℕ) → insert_text (insert_text xs t) t ≡ insert_text xs t
twice [] t = at_equal t t [] (itself t)
twice (x ∷ xs) t =
    elim (cmp t x) as (λ o. cmp t x ≡ o → insert_text (match_ordering o (t ∷ x ∷ xs) (x ∷ xs) (x ∷ insert_text xs t)) t
    ≡ match_ordering o (t ∷ x ∷ xs) (x ∷ xs) (x ∷ insert_text xs t)) [
      | Less ↦ λ e. at_equal t t (x ∷ xs) (itself t)
      | Equal ↦ λ e. at_equal t x xs e
      | Greater ↦ λ e. at_greater t x (insert_text xs t) e ∙ ap (λ ys. x ∷ ys) (twice xs t)
    ] refl

-- two that go to the front of the same others
both_front : (xs : List (List ℕ)) (a b : List ℕ) (front : insert_text xs a ≡ a ∷ xs) (other : insert_text xs b ≡ b ∷ xs)
    → insert_text (insert_text xs a) b ≡ insert_text (insert_text xs b) a
both_front xs a b f g =
    ap (λ ys. insert_text ys b) f
    ∙ (elim (cmp b a) as (λ o. cmp b a ≡ o → insert_text (a ∷ xs) b ≡ insert_text (b ∷ xs) a) [
      | Less ↦ λ e. at_less b a xs e ∙ ap (λ ys. b ∷ ys) (sym f) ∙ sym (at_greater a b xs (turned b a e))
      | Equal ↦ λ e. (let same : b ≡ a = same_of b a e in subst (λ c. insert_text (a ∷ xs) c ≡ insert_text (c ∷ xs) a) (sym same) refl)
      | Greater ↦ λ e. at_greater b a xs e ∙ ap (λ ys. a ∷ ys) g ∙ sym (at_less a b xs (reversed b a e))
    ] refl)
    ∙ ap (λ ys. insert_text ys a) (sym g)

-- one that goes to the front, and one that comes later or is the first of the others
front_then : (x : List ℕ) (xs : List (List ℕ)) (a b : List ℕ) → cmp a x ≡ Less → cmp b x ≡ Greater
    → insert_text (insert_text (x ∷ xs) a) b ≡ insert_text (insert_text (x ∷ xs) b) a
front_then x xs a b l g =
    ap (λ ys. insert_text ys b) (at_less a x xs l)
    ∙ at_greater b a (x ∷ xs) (turned a b (nat_list_cmp_total.trans a x b l (reversed b x g)))
    ∙ ap (λ ys. a ∷ ys) (at_greater b x xs g)
    ∙ sym (at_less a x (insert_text xs b) l)
    ∙ ap (λ ys. insert_text ys a) (sym (at_greater b x xs g))

same_then : (x : List ℕ) (xs : List (List ℕ)) (a b : List ℕ) → cmp a x ≡ Equal
    → insert_text (insert_text (x ∷ xs) a) b ≡ insert_text (insert_text (x ∷ xs) b) a
same_then x xs a b e =
    let same : x ≡ a = sym (same_of a x e) in
    subst (λ c. insert_text (insert_text (c ∷ xs) a) b ≡ insert_text (insert_text (c ∷ xs) b) a) (sym same)
    (ap (λ ys. insert_text ys b) (at_equal a a xs (itself a)) ∙ sym (kept a b xs))
  where
    kept : (a b : List ℕ) (xs : List (List ℕ)) → insert_text (insert_text (a ∷ xs) b) a ≡ insert_text (a ∷ xs) b
    kept a b xs =
        elim (cmp b a) as (λ o. cmp b a ≡ o → insert_text (match_ordering o (b ∷ a ∷ xs) (a ∷ xs) (a ∷ insert_text xs b)) a
        ≡ match_ordering o (b ∷ a ∷ xs) (a ∷ xs) (a ∷ insert_text xs b)) [
          | Less ↦ λ e. at_greater a b (a ∷ xs) (turned b a e) ∙ ap (λ ys. b ∷ ys) (at_equal a a xs (itself a))
          | Equal ↦ λ e. at_equal a a xs (itself a)
          | Greater ↦ λ e. at_equal a a (insert_text xs b) (itself a)
        ] refl

swapped_at : (x : List ℕ) (xs : List (List ℕ)) (a b : List ℕ) → insert_text (insert_text xs a) b ≡ insert_text (insert_text xs b) a
    → (o p : Ordering) → cmp a x ≡ o → cmp b x ≡ p → insert_text (insert_text (x ∷ xs) a) b ≡ insert_text (insert_text (x ∷ xs) b) a
swapped_at x xs a b rest Less Less e f = both_front (x ∷ xs) a b (at_less a x xs e) (at_less b x xs f)
swapped_at x xs a b rest Less Greater e f = front_then x xs a b e f
swapped_at x xs a b rest Greater Less e f = sym (front_then x xs b a f e)
swapped_at x xs a b rest Equal p e f = same_then x xs a b e
swapped_at x xs a b rest o Equal e f = sym (same_then x xs b a f)
swapped_at x xs a b rest Greater Greater e f =
    ap (λ ys. insert_text ys b) (at_greater a x xs e)
    ∙ at_greater b x (insert_text xs a) f
    ∙ ap (λ ys. x ∷ ys) rest
    ∙ sym (at_greater a x (insert_text xs b) e)
    ∙ ap (λ ys. insert_text ys a) (sym (at_greater b x xs f))

swapped : (xs : List (List ℕ)) (a b : List ℕ) → insert_text (insert_text xs a) b ≡ insert_text (insert_text xs b) a
swapped [] a b = both_front [] a b refl refl
swapped (x ∷ xs) a b = swapped_at x xs a b (swapped xs a b) (cmp a x) (cmp b x) refl refl

-- ---- many

one_later : (xs us : List (List ℕ)) (t : List ℕ) → insert_text (insert_texts xs us) t ≡ insert_texts (insert_text xs t) us
one_later xs [] t = refl
one_later xs (u ∷ us) t = one_later (insert_text xs u) us t ∙ ap (λ ys. insert_texts ys us) (swapped xs u t)

all_swapped : (xs us ts : List (List ℕ)) → insert_texts (insert_texts xs us) ts ≡ insert_texts (insert_texts xs ts) us
all_swapped xs us [] = refl
all_swapped xs us (t ∷ ts) = ap (λ ys. insert_texts ys ts) (one_later xs us t) ∙ all_swapped (insert_text xs t) us ts

all_twice : (xs ts : List (List ℕ)) → insert_texts (insert_texts xs ts) ts ≡ insert_texts xs ts
all_twice xs [] = refl
all_twice xs (t ∷ ts) =
    ap (λ ys. insert_texts ys ts) (one_later (insert_text xs t) ts t ∙ ap (λ ys. insert_texts ys ts) (twice xs t))
    ∙ all_twice (insert_text xs t) ts

pub arrays_twice : (arrays texts : List (List ℕ)) → with_arrays arrays texts ≡ with_arrays (with_arrays arrays texts) texts
arrays_twice arrays texts = sym (all_twice arrays (filter is_array_type texts))

pub still_listed : (arrays texts others : List (List ℕ)) → arrays ≡ with_arrays arrays texts
    → with_arrays arrays others ≡ with_arrays (with_arrays arrays others) texts
still_listed arrays texts others e =
    ap (λ xs. with_arrays xs others) e ∙ all_swapped arrays (filter is_array_type texts) (filter is_array_type others)

-- ---- marked texts

pub listed_still : (needs : List ℕ → List (List ℕ)) (pool : Slots) (arrays others : List (List ℕ)) (marks : List Bool)
    → AreListed needs pool arrays marks → AreListed needs pool (with_arrays arrays others) marks
listed_still needs pool arrays others marks h = λ index e. still_listed arrays (needs (spelled pool (Some index))) others (h index e)

other_listed : (needs : List ℕ → List (List ℕ)) (pool : Slots) (arrays : List (List ℕ)) (old new : List Bool) (index n : ℕ)
    → AreListed needs pool arrays old → ((m : ℕ) → m ≢ index → slice_index_or new m false ≡ slice_index_or old m false)
    → slice_index_or new n false ≡ true → n ≢ index → with_arrays arrays (needs (spelled pool (Some index)))
    ≡ with_arrays (with_arrays arrays (needs (spelled pool (Some index)))) (needs (spelled pool (Some n)))
other_listed needs pool arrays old new index n h kept e d =
    still_listed arrays (needs (spelled pool (Some n))) (needs (spelled pool (Some index))) (h n (sym (kept n d) ∙ e))

pub listed_more : (needs : List ℕ → List (List ℕ)) (pool : Slots) (arrays : List (List ℕ)) (old new : List Bool) (index : ℕ)
    → AreListed needs pool arrays old → ((n : ℕ) → n ≢ index → slice_index_or new n false ≡ slice_index_or old n false)
    → AreListed needs pool (with_arrays arrays (needs (spelled pool (Some index)))) new
listed_more needs pool arrays old new index h kept = λ n e. elim (cases_lt n index) [
  | inl l ↦ other_listed needs pool arrays old new index n h kept e (λ same. absurd (omega (arith, l, same)))
  | inr past ↦ elim (cases_lt index n) [
    | inl l ↦ other_listed needs pool arrays old new index n h kept e (λ same. absurd (omega (arith, l, same)))
    | inr within ↦ (let same : n ≡ index = omega (arith, past, within) in
        let texts = needs (spelled pool (Some index)) in
        subst (λ m. with_arrays arrays texts ≡ with_arrays (with_arrays arrays texts) (needs (spelled pool (Some m)))) (sym same)
        (arrays_twice arrays texts))
  ]
]

pub marked_still : (what : Listed) (pool : Slots) (arrays others : List (List ℕ)) (marks : Marks)
    → AreMarked what pool arrays marks → AreMarked what pool (with_arrays arrays others) marks
marked_still what pool arrays others marks h = (
  listed_still array_of_class pool arrays others marks.elements.items h.0,
  listed_still (named what) pool arrays others marks.classes.items h.1,
)

-- ---- after a call that lists more, or fails

pub listed_after : {A B : Type 0} (r : Result A B) (needs : List ℕ → List (List ℕ)) (pool : Slots) (old new others : List (List ℕ))
    (marks : List Bool) → AreListed needs pool old marks → OnOk r (new ≡ with_arrays old others) → OnOk r (AreListed needs pool new marks)
listed_after (Ok x) needs pool old new others marks h e =
    subst (λ xs. AreListed needs pool xs marks) (sym e) (listed_still needs pool old others marks h)
listed_after (Err x) needs pool old new others marks h e = e

pub marked_after : {A B : Type 0} (r : Result A B) (what : Listed) (pool : Slots) (old new others : List (List ℕ)) (marks : Marks)
    → AreMarked what pool old marks → OnOk r (new ≡ with_arrays old others) → OnOk r (AreMarked what pool new marks)
marked_after (Ok x) what pool old new others marks h e =
    subst (λ xs. AreMarked what pool xs marks) (sym e) (marked_still what pool old others marks h)
marked_after (Err x) what pool old new others marks h e = e

pub classes_after : {A B : Type 0} (r : Result A B) (what : Listed) (pool : Slots) (old new others : List (List ℕ)) (marks after : Marks)
    → AreMarked what pool old marks → what ≡ Needed → after.elements ≡ marks.elements → OnOk r (new ≡ with_arrays old others)
    → OnOk r (AreListed (named Needed) pool new after.classes.items) → OnOk r (AreMarked what pool new after)
classes_after (Ok x) what pool old new others marks after h is same e listed = (
  subst (λ xs. AreListed array_of_class pool xs after.elements.items) (sym e)
      (listed_still array_of_class pool old others after.elements.items
      (subst (λ (v : Vec Bool). AreListed array_of_class pool old v.items) (sym same) h.0)),
  subst (λ w. AreListed (named w) pool new after.classes.items) (sym is) listed,
)
classes_after (Err x) what pool old new others marks after h is same e listed = e
