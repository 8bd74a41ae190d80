-- Flags of objects, and the numbers of those that are durable.
use Rattle.std.proofs.Common.{◌≡◌, inl, inr, ℕ, zero, suc, ◌<◌, ◌≤◌, Bool, true, false, nat_eq, nat_lt, ◌||◌, ◌&&◌, List, [], ◌∷◌, ◌++◌, length}
use Rattle.std.proofs.Common.{slice_index_or, slice_set, refl, ap, sym, subst, ◌∙◌, arith, append-nil, length-append, length-set, eq-eqb}
use Rattle.std.specs.Prelude.{All, replicate}
use Rattle.std.proofs.lemmas.Bool.{cases_eq, eqb-true, false_from_ne_true, ltb-false, ltb-true, or_left}
use Rattle.std.proofs.Math.Bool.{or-false}
use Rattle.std.proofs.lemmas.List.{get_or-set_same, get_or-set_other}
use Rattle.std.proofs.lemmas.List.Elements.{All-head, All-tail}
use Rattle.ap_base.specs.declared.place.Place.{Place}
use Rattle.ap_base.specs.declared.place.Place.TheVariants.{Static, Slot}
use Rattle.graph_model.specs.declared.types.Obj.{Obj}
use Rattle.graph_model.specs.declared.types.Heap.{Heap}
use Rattle.graph_model.specs.Heaps.{fresh_values, has_number, is_kept_slot, object_at, shape_at, with_slot}
use Rattle.run_history.specs.declared.act.Op.{Op}
use Rattle.run_history.specs.declared.act.Op.TheVariants as op
use Rattle.run_history.specs.Worlds.{fits, heap_after_op}
use Rattle.run_history.specs.Knowing.{is_durable}
use Rattle.plain_model.specs.First.{numbers_to}
use Rattle.plain_model.proofs.Durable.{below_from_has_number, has_number_from_below, made_durable}
use Rattle.live_heap.specs.Seen.{durable_after, is_durable_place, with_durable, with_new}

-- each object's flag says whether its number is among these
abbrev pub FlagsAre : List Bool → List ℕ → Type 0
FlagsAre flags numbers = (n : ℕ) → slice_index_or flags n false ≡ has_number numbers n

has_number-append : (xs ys : List ℕ) (n : ℕ) → has_number (xs ++ ys) n ≡ (has_number xs n || has_number ys n)
has_number-append [] ys n = refl
has_number-append (x ∷ xs) ys n =
    elim (nat_eq x n) as (λ b. (b || has_number (xs ++ ys) n) ≡ ((b || has_number xs n) || has_number ys n))
    [ true ↦ refl | false ↦ has_number-append xs ys n ]

flag-push : (flags : List Bool) (n : ℕ) → slice_index_or (flags ++ false ∷ []) n false ≡ slice_index_or flags n false
flag-push [] zero = refl
flag-push [] (suc n) = refl
flag-push (b ∷ flags) zero = refl
flag-push (b ∷ flags) (suc n) = flag-push flags n

flag-set : (flags : List Bool) (m n : ℕ) → m < length flags
    → slice_index_or (slice_set flags m true) n false ≡ (nat_eq m n || slice_index_or flags n false)
flag-set flags m n there =
    elim (cases_eq n m) [
      | inl e ↦ subst (λ k. slice_index_or (slice_set flags m true) k false ≡ (nat_eq m k || slice_index_or flags k false)) (sym e)
          (get_or-set_same flags m true false there ∙ sym (or_left (nat_eq m m) (slice_index_or flags m false) (eq-eqb m m refl)))
      | inr d ↦ get_or-set_other flags m n true false d
          ∙ sym (ap (λ b. b || slice_index_or flags n false) (false_from_ne_true (nat_eq m n) (λ e. d (sym (eqb-true m n e)))))
    ]

either_first : (a b c : Bool) → ((a || b) || c) ≡ (b || (a || c))
either_first true true c = refl
either_first true false c = refl
either_first false true c = refl
either_first false false c = refl

flags-named : (flags : List Bool) (named : List ℕ) (n : ℕ) → All (λ m. m < length flags) named
    → slice_index_or (with_durable flags named) n false ≡ (slice_index_or flags n false || has_number named n)
flags-named flags [] n there = sym (or-false (slice_index_or flags n false))
flags-named flags (m ∷ named) n there =
    let size : length (slice_set flags m true) ≡ length flags = length-set flags m true in
    let rest = subst (λ l. All (λ k. k < l) named) (sym size) (All-tail (λ k. k < length flags) m named there) in
    flags-named (slice_set flags m true) named n rest
    ∙ ap (λ b. b || has_number named n) (flag-set flags m n (All-head (λ k. k < length flags) m named there))
    ∙ either_first (nat_eq m n) (slice_index_or flags n false) (has_number named n)

length-named : (flags : List Bool) (named : List ℕ) → length (with_durable flags named) ≡ length flags
length-named flags [] = refl
length-named flags (n ∷ named) = length-named (slice_set flags n true) named ∙ length-set flags n true

-- at first: those of the first objects are set, and no others
flags-clear : (count n : ℕ) → slice_index_or (replicate count false) n false ≡ false
flags-clear zero n = refl
flags-clear (suc count) zero = refl
flags-clear (suc count) (suc n) = flags-clear count n

first-set : (set clear n : ℕ) → n < set → slice_index_or (replicate set true ++ replicate clear false) n false ≡ true
first-set zero clear n below = absurd (omega (arith, below))
first-set (suc set) clear zero below = refl
first-set (suc set) clear (suc n) below = first-set set clear n (omega (arith, below))

first-clear : (set clear n : ℕ) → set ≤ n → slice_index_or (replicate set true ++ replicate clear false) n false ≡ false
first-clear zero clear n past = flags-clear clear n
first-clear (suc set) clear zero past = absurd (omega (arith, past))
first-clear (suc set) clear (suc n) past = first-clear set clear n (omega (arith, past))

pub flags-first : (set clear : ℕ) → FlagsAre (replicate set true ++ replicate clear false) (numbers_to set)
flags-first set clear n =
    elim (nat_lt n set) as (λ b. nat_lt n set ≡ b
    → slice_index_or (replicate set true ++ replicate clear false) n false ≡ has_number (numbers_to set) n) [
      | true ↦ λ e. first-set set clear n (ltb-true n set e) ∙ sym (has_number_from_below set n (ltb-true n set e))
      | false ↦ λ e. first-clear set clear n (ltb-false n set e)
          ∙ sym (false_from_ne_true (has_number (numbers_to set) n) (λ has.
          let past = ltb-false n set e in let below = below_from_has_number set n has in absurd (omega (arith, past, below))))
    ] refl

-- ---- an operation that fits

-- as many flags as objects
pub flag_count : (heap : Heap) (flags : List Bool) (named : List ℕ) (o : Op) → fits heap o ≡ true
    → length flags ≡ length heap.objects → length (durable_after heap flags named o) ≡ length (heap_after_op heap o).objects
flag_count heap flags named (op.Alloc n shape count) fit same =
    let fresh : Obj = record { shape = shape; values = fresh_values (shape_at heap shape) count } in
    let longer : length (flags ++ false ∷ []) ≡ length (heap.objects ++ fresh ∷ []) =
    omega (arith, length-append flags (false ∷ []), length-append heap.objects (fresh ∷ []), same) in
    ap (λ b. length (with_new flags b)) fit ∙ longer
flag_count heap flags named (op.Throw n class) fit same =
    let fresh : Obj = record { shape = class; values = fresh_values (shape_at heap class) 0 } in
    let longer : length (flags ++ false ∷ []) ≡ length (heap.objects ++ fresh ∷ []) =
    omega (arith, length-append flags (false ∷ []), length-append heap.objects (fresh ∷ []), same) in
    ap (λ b. length (with_new flags b)) fit ∙ longer
flag_count heap flags named (op.Stored (Static n) value) fit same = same
flag_count heap flags named (op.Stored (Slot n i) value) fit same =
    same ∙ sym (length-set heap.objects n (with_slot (object_at heap n) i value))
flag_count heap flags named op.Joined fit same = length-named flags named ∙ same
flag_count heap flags named o fit same = same

none_more : (flags : List Bool) (numbers : List ℕ) → FlagsAre flags numbers → FlagsAre flags (numbers ++ [])
none_more flags numbers are n = are n ∙ ap (λ ns. has_number ns n) (sym (append-nil numbers))

one_more : (flags : List Bool) (numbers : List ℕ) (fit : Bool) → fit ≡ true → FlagsAre flags numbers
    → FlagsAre (with_new flags fit) (numbers ++ [])
one_more flags numbers fit is are n =
    ap (λ b. slice_index_or (with_new flags b) n false) is ∙ flag-push flags n ∙ none_more flags numbers are n

pub flags_next : (heap : Heap) (flags : List Bool) (numbers named : List ℕ) (o : Op) → fits heap o ≡ true
    → length flags ≡ length heap.objects → All (λ m. m < length heap.objects) (made_durable o named) → FlagsAre flags numbers
    → FlagsAre (durable_after heap flags named o) (numbers ++ made_durable o named)
flags_next heap flags numbers named (op.Alloc n shape count) fit same there are =
    one_more flags numbers (fits heap (op.Alloc n shape count)) fit are
flags_next heap flags numbers named (op.Throw n class) fit same there are =
    one_more flags numbers (fits heap (op.Throw n class)) fit are
flags_next heap flags numbers named op.Joined fit same there are = λ n.
    flags-named flags named n (subst (λ l. All (λ m. m < l) named) (sym same) there)
    ∙ ap (λ b. b || has_number named n) (are n) ∙ sym (has_number-append numbers named n)
flags_next heap flags numbers named o fit same there are = none_more flags numbers are

-- which places are durable
pub place_same : (heap : Heap) (flags : List Bool) (numbers : List ℕ) (place : Place) → FlagsAre flags numbers
    → is_durable_place heap flags place ≡ is_durable heap numbers place
place_same heap flags numbers (Static n) are = refl
place_same heap flags numbers (Slot n i) are = ap (λ b. is_kept_slot heap n i && b) (are n)
