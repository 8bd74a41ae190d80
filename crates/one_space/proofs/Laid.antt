-- Objects that are laid.
use Rattle.std.proofs.Common.{◌≡◌, ℕ, zero, suc, ◌+◌, ◌%◌, ◌^◌, ◌<◌, ◌≤◌, true, List, [], ◌∷◌, length, map, get_or, slice_get}
use Rattle.std.proofs.Common.{slice_index_or, Option, Some, None, IsSome, refl, ap, ◌∙◌, sym, subst, arith, add-one}
use Rattle.std.proofs.Common.{length-append, ◌⊎◌, inl, inr}
use Rattle.std.proofs.lemmas.List.{get_or_at, get_or_append_left}
use Rattle.ap_base.specs.declared.reference.Ref.{Ref}
use Rattle.ap_base.specs.declared.reference.Ref.TheVariants.{Null as NoRef, Persistent, Volatile}
use Rattle.ap_base.specs.declared.reference.Item.{Item}
use Rattle.ap_base.specs.declared.reference.Item.TheVariants.{Int as IntItem, Long as LongItem, Ref as RefItem}
use Rattle.graph_model.specs.declared.types.Shape.{Shape}
use Rattle.graph_model.specs.declared.types.Obj.{Obj}
use Rattle.graph_model.specs.declared.types.Value.TheVariants.{Null}
use Rattle.graph_model.specs.Heaps.{no_object, no_shape}
use Rattle.ap_base.specs.declared.kind.Kind.{Kind}
use Rattle.shared_objects.specs.Shown.{Numbers, IfNumber, HasSlot, IsKnownItem, item_value, object_in, slot_in, kind_in}
use Rattle.one_space.specs.Layout.{word_at, count_at, number_in, item_at, item_in, row, object_from, shown_by, IsLaid}
use Rattle.one_space.specs.Layout.{is_known_item}
use Rattle.one_space.specs.Laws.{begins, none_is_not, some_same}

pub length-row : {A : Type 0} (n : ℕ) (f : ℕ → A) → length (row n f) ≡ n
length-row zero f = refl
length-row (suc n) f = length-append (row n f) (f n ∷ []) ∙ ap (λ m. m + 1) (length-row n f) ∙ add-one n

pub lt_or_is : (i n : ℕ) → i < suc n → (i < n) ⊎ (i ≡ n)
lt_or_is zero zero below = inr refl
lt_or_is zero (suc n) below = inl (omega arith)
lt_or_is (suc i) zero below = absurd (omega (arith, below))
lt_or_is (suc i) (suc n) below = elim (lt_or_is i n (omega (arith, below)))
    [ inl l ↦ inl (omega (arith, l)) | inr e ↦ inr (ap suc e) ]

pub get_or-row : {A : Type 0} (n : ℕ) (f : ℕ → A) (i : ℕ) (d : A) → i < n → get_or (row n f) i d ≡ f i
get_or-row zero f i d below = absurd (omega (arith, below))
get_or-row (suc n) f i d below = elim (lt_or_is i n below) [
  | inl less ↦ get_or_append_left (row n f) (f n ∷ []) d i (rw (length-row n f) less)
      ∙ get_or-row n f i d less
  | inr is ↦ get_or_at (row n f) (f n) [] d i (length-row n f ∙ sym is) ∙ ap f (sym is)
]

pub get_or-map : {A B : Type 0} (f : A → B) (xs : List A) (n : ℕ) (d : A) (e : B) → n < length xs
    → get_or (map f xs) n e ≡ f (get_or xs n d)
get_or-map f [] n d e below = absurd (omega (arith, below))
get_or-map f (x ∷ xs) zero d e below = refl
get_or-map f (x ∷ xs) (suc n) d e below = get_or-map f xs n d e (omega (arith, below))

pub got : (xs : List ℕ) (n x : ℕ) → slice_get xs n ≡ Some x → (n < length xs) × (get_or xs n 0 ≡ x)
got [] n x e = none_is_not e
got (y ∷ ys) zero x e = (omega arith, some_same e)
got (y ∷ ys) (suc n) x e = let h = got ys n x e in (omega (arith, h.0), h.1)

pub if_number : (o : Option ℕ) (P : ℕ → Type 0) → IfNumber o P → (n : ℕ) × (o ≡ Some n) × P n
if_number None P h = absurd h
if_number (Some n) P h = (n, refl, h)

-- the object of a reference
pub stands : (words starts : List ℕ) (at n : ℕ) → number_in words starts (Volatile at) ≡ Some n
    → (n < length starts) × (get_or starts n 0 ≡ at)
stands words starts at n e = got starts n at (begins words starts at n e).1

pub object_is : (shapes : List Shape) (words starts : List ℕ) (at n : ℕ)
    → number_in words starts (Volatile at) ≡ Some n
    → object_in (shown_by shapes words starts) n ≡ object_from shapes words starts at
object_is shapes words starts at n e =
    let s = stands words starts at n e in
    get_or-map (object_from shapes words starts) starts n 0 no_object s.0
    ∙ ap (object_from shapes words starts) s.1

pub length_is : (shapes : List Shape) (words starts : List ℕ) (at n : ℕ)
    → number_in words starts (Volatile at) ≡ Some n
    → count_at words at ≡ length (object_in (shown_by shapes words starts) n).values
length_is shapes words starts at n e =
    sym (length-row (count_at words at) (λ i. item_value (number_in words starts)
    (item_at shapes words at i)))
    ∙ ap (λ (o : Obj). length o.values) (sym (object_is shapes words starts at n e))

pub count_small : (shapes : List Shape) (words starts : List ℕ) (at n : ℕ) → IsLaid shapes words starts
    → number_in words starts (Volatile at) ≡ Some n → count_at words at < 2 ^ 31
count_small shapes words starts at n laid e =
    let s = stands words starts at n e in subst (λ (a : ℕ). count_at words a < 2 ^ 31) s.1 (laid.small n s.0)

-- a slot of the object of a reference
pub record SlotOf (shapes : List Shape) (words starts : List ℕ) (at i : ℕ) : Type 0 where
  pub n : ℕ
  pub number : number_in words starts (Volatile at) ≡ Some n
  pub below : n < length starts
  pub start : get_or starts n 0 ≡ at
  pub counted : i < count_at words at
  pub inside : at + 3 + count_at words at ≤ length words

pub slot_of : (shapes : List Shape) (words starts : List ℕ) (at i : ℕ) → IsLaid shapes words starts
    → HasSlot (shown_by shapes words starts) (Volatile at) i → SlotOf shapes words starts at i
slot_of shapes words starts at i laid has =
    let h = if_number (number_in words starts (Volatile at))
    (λ n. i < length (object_in (shown_by shapes words starts) n).values) has in
    let s = stands words starts at h.0 h.1 in
    record {
      n = h.0;
      number = h.1;
      below = s.0;
      start = s.1;
      counted = rw (length_is shapes words starts at h.0 h.1) h.2;
      inside = subst (λ (a : ℕ). a + 3 + count_at words a ≤ length words) s.1 (laid.inside h.0 s.0);
    }

pub slot_value : (shapes : List Shape) (words starts : List ℕ) (at i n : ℕ)
    → number_in words starts (Volatile at) ≡ Some n → i < count_at words at
    → item_value (number_in words starts) (item_at shapes words at i)
    ≡ slot_in (shown_by shapes words starts) n i
slot_value shapes words starts at i n e below =
    sym (get_or-row (count_at words at) (λ k. item_value (number_in words starts)
    (item_at shapes words at k)) i Null below)
    ∙ ap (λ (o : Obj). get_or o.values i Null) (sym (object_is shapes words starts at n e))

pub known_by_test : (number : Numbers) (item : Item) → is_known_item number item ≡ true
    → IsKnownItem number item
known_by_test number (IntItem i) e = tt
known_by_test number (LongItem i) e = tt
known_by_test number (RefItem NoRef) e = tt
known_by_test number (RefItem (Persistent line)) e = e
known_by_test number (RefItem (Volatile index)) e = e

pub slot_known : (shapes : List Shape) (words starts : List ℕ) (at i : ℕ) → IsLaid shapes words starts
    → SlotOf shapes words starts at i
    → IsKnownItem (number_in words starts) (item_at shapes words at i)
slot_known shapes words starts at i laid s =
    known_by_test (number_in words starts) (item_at shapes words at i)
    (subst (λ (a : ℕ). is_known_item (number_in words starts) (item_at shapes words a i) ≡ true) s.start
    (laid.known s.n i s.below (subst (λ (a : ℕ). i < count_at words a) (sym s.start) s.counted)))

pub some_is : (o : Option ℕ) → IsSome o → (n : ℕ) × (o ≡ Some n)
some_is None s = cc
some_is (Some n) s = (n, refl)

pub read_item : (shapes : List Shape) (words : List ℕ) (at i head word : ℕ) (kind : Option Kind) (item : Item)
    → head ≡ word_at words (at + 1) → word ≡ word_at words (at + 3 + i) → kind
    ≡ kind_in (slice_index_or shapes (head % 2 ^ 32) no_shape) i
    → item ≡ item_in kind word → item ≡ item_at shapes words at i
read_item shapes words at i head word kind item eh ew ek ei =
    ei ∙ ap (λ k. item_in k word) (ek ∙ ap (λ h. kind_in (slice_index_or shapes (h % 2 ^ 32) no_shape) i) eh)
    ∙ ap (λ w. item_in (kind_in (slice_index_or shapes (word_at words (at + 1) % 2 ^ 32) no_shape) i) w) ew

pub slot_at : (shapes : List Shape) (words starts : List ℕ) (r : Ref) (at i : ℕ) → IsLaid shapes words starts
    → r ≡ Volatile at → HasSlot (shown_by shapes words starts) r i → SlotOf shapes words starts at i
slot_at shapes words starts r at i laid e has = slot_of shapes words starts at i laid
    (subst (λ (x : Ref). HasSlot (shown_by shapes words starts) x i) e has)

pub number_at : (words starts : List ℕ) (r : Ref) (at n : ℕ) → r ≡ Volatile at → number_in words starts r
    ≡ Some n → number_in words starts (Volatile at) ≡ Some n
number_at words starts r at n e is = subst (λ (x : Ref). number_in words starts x ≡ Some n) e is

pub some_at : (words starts : List ℕ) (r : Ref) (at : ℕ) → r ≡ Volatile at
    → IsSome (number_in words starts r) → IsSome (number_in words starts (Volatile at))
some_at words starts r at e is = subst (λ (x : Ref). IsSome (number_in words starts x)) e is
