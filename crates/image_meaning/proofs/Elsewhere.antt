-- Changes of a heap that concern no object that lies somewhere.
use Rattle.std.proofs.Common.{◌≡◌, ◌≢◌, inl, inr, ℕ, zero, suc, ◌+◌, ◌<◌, ◌≤◌, true, false, List, [], ◌∷◌, ◌++◌, length, map}
use Rattle.std.proofs.Common.{refl, sym, ◌∙◌, ap, subst, arith, slice_index_or, slice_set, length-append}
use Rattle.std.proofs.lemmas.Bool.{cases_eq, true≢false}
use Rattle.std.proofs.lemmas.List.{get_or-set_same, get_or-set_other, length-set, get_or_append_left}
use Rattle.ap_base.specs.declared.place.Place.TheVariants.{Static, Slot}
use Rattle.graph_model.specs.declared.types.Value.{Value}
use Rattle.graph_model.specs.declared.types.Value.TheVariants.{Null}
use Rattle.graph_model.specs.declared.types.Obj.{Obj}
use Rattle.graph_model.specs.declared.types.Root.{Root}
use Rattle.graph_model.specs.declared.types.Heap.{Heap}
use Rattle.graph_model.specs.Heaps.{no_object, object_at, shape_at, values_of, value_at, is_kept_slot, with_slot, stored}
use Rattle.graph_model.specs.Heaps.{with_fresh, fresh_values}
use Rattle.image_layout.specs.Places.{lines_of}
use Rattle.image_meaning.specs.Checks.{Words}
use Rattle.image_meaning.specs.Directories.{Directory}
use Rattle.image_meaning.specs.Objects.{length_at}
use Rattle.image_meaning.specs.Corresponds.{LiesAt, Corresponds, root_static}
use Rattle.image_meaning.specs.Opening.{found_at, free_line}
use Rattle.image_meaning.proofs.Changes.{corresponds-other, stored_shape, stored_length}

old_object : (heap : Heap) (shape count n : ℕ) → n < length heap.objects
    → object_at (with_fresh heap shape count) n ≡ object_at heap n
old_object heap shape count n h =
    get_or_append_left heap.objects (record {
      shape = shape;
      values =
          fresh_values (shape_at heap shape) count;
    } ∷ []) no_object n h

pub corresponds-fresh : (R : LiesAt) (directory : Directory) (size : ℕ) (words : Words) (heap : Heap)
    (shape count : ℕ)
    → Corresponds R directory size words heap
    → Corresponds R directory size words (with_fresh heap shape count)
corresponds-fresh R directory size words heap shape count k =
    let one : Obj = record { shape = shape; values = fresh_values (shape_at heap shape) count } in
    let more : length (heap.objects ++ one ∷ []) ≡ length heap.objects + 1 =
    length-append heap.objects (one ∷ []) in
    corresponds-other R directory size words heap (with_fresh heap shape count) k record {
      roots = refl;
      values = refl;
      there = λ line n r. let h = (k.objects line n r).there in omega (arith, h, more);
      shapes = λ line n r. ap (λ (o : Obj). shape_at heap o.shape)
          (old_object heap shape count n (k.objects line n r).there);
      counts = λ line n r. ap (λ (o : Obj). length o.values)
          (old_object heap shape count n (k.objects line n r).there);
      slots = λ line n i r below kept. ap (λ (o : Obj). slice_index_or o.values i Null)
          (old_object heap shape count n (k.objects line n r).there);
    }

other_object : (heap : Heap) (m i n : ℕ) (value : Value) → n ≢ m
    → object_at (stored heap (Slot m i) value) n ≡ object_at heap n
other_object heap m i n value ne = get_or-set_other heap.objects m n
    (with_slot (object_at heap m) i value) no_object ne

-- a store into a slot that isn't kept, or whose object lies nowhere
pub corresponds-other_slot : (R : LiesAt) (directory : Directory) (size : ℕ) (words : Words) (heap : Heap)
    (m i : ℕ) (value : Value)
    → Corresponds R directory size words heap → ((line : ℕ) → R line m → is_kept_slot heap m i ≡ false)
    → Corresponds R directory size words (stored heap (Slot m i) value)
corresponds-other_slot R directory size words heap m i value k apart =
    corresponds-other R directory size words heap (stored heap (Slot m i) value) k record {
      roots = refl;
      values = refl;
      there = λ line n r. rw (length-set heap.objects m (with_slot (object_at heap m) i value))
          (k.objects line n r).there;
      shapes = λ line n r. ap (λ j. shape_at heap j) (shape_after line n r);
      counts = count_after;
      slots = λ line n j r below kept. value_after line n j r kept;
    }
  where
    there : (line n : ℕ) → R line n → n ≡ m → m < length heap.objects
    there line n r e = subst (λ x. x < length heap.objects) e (k.objects line n r).there

    shape_after : (line n : ℕ) → R line n
        → (object_at (stored heap (Slot m i) value) n).shape ≡ (object_at heap n).shape
    shape_after line n r = elim (cases_eq n m) [
      | inl e ↦ stored_shape heap m i n value (there line n r e)
      | inr ne ↦ ap (λ (o : Obj). o.shape) (other_object heap m i n value ne)
    ]

    count_after : (line n : ℕ) → R line n
        → length (values_of (stored heap (Slot m i) value) n) ≡ length (values_of heap n)
    count_after line n r = elim (cases_eq n m) [
      | inl e ↦ stored_length heap m i n value (there line n r e)
      | inr ne ↦ ap (λ (o : Obj). length o.values) (other_object heap m i n value ne)
    ]

    value_after : (line n j : ℕ) → R line n → is_kept_slot heap n j ≡ true
        → value_at (stored heap (Slot m i) value) (Slot n j) ≡ value_at heap (Slot n j)
    value_after line n j r kept = elim (cases_eq n m) [
      | inr ne ↦ ap (λ (o : Obj). slice_index_or o.values j Null) (other_object heap m i n value ne)
      | inl e ↦ elim (cases_eq j i) [
        | inl same ↦ absurd (true≢false (sym kept ∙ ap (λ x. is_kept_slot heap x j) e
            ∙ ap (λ x. is_kept_slot heap m x) same
            ∙ apart line (subst (λ x. R line x) e r)))
        | inr other ↦ rw e (
            ap (λ (o : Obj). slice_index_or o.values j Null)
            (get_or-set_same heap.objects m (with_slot (object_at heap m) i value) no_object
            (there line n r e))
            ∙ get_or-set_other (values_of heap m) i j value Null other)
      ]
    ]

roots_same : (statics : List Value) (s : ℕ) (value : Value) (roots : List Root)
    → ((r : ℕ) → r < length roots → slice_index_or (map (λ (root : Root). root.at) roots) r 0 ≢ s)
    → map (λ (root : Root). slice_index_or (slice_set statics s value) root.at Null) roots
    ≡ map (λ (root : Root). slice_index_or statics root.at Null) roots
roots_same statics s value [] apart = refl
roots_same statics s value (root ∷ roots) apart =
    let first = get_or-set_other statics s root.at value Null (apart 0 (omega arith)) in
    let rest = roots_same statics s value roots (λ r h. apart (suc r) (omega (arith, h))) in
    rw (first, rest) refl

pub corresponds-other_static : (R : LiesAt) (directory : Directory) (size : ℕ) (words : Words) (heap : Heap)
    (s : ℕ) (value : Value)
    → Corresponds R directory size words heap → ((r : ℕ) → r < length heap.roots → root_static heap r ≢ s)
    → Corresponds R directory size words (stored heap (Static s) value)
corresponds-other_static R directory size words heap s value k apart =
    corresponds-other R directory size words heap (stored heap (Static s) value) k record {
      roots = refl;
      values = roots_same heap.statics s value heap.roots apart;
      there = λ line n r. (k.objects line n r).there;
      shapes = λ line n r. refl;
      counts = λ line n r. refl;
      slots = λ line n i r below kept. refl;
    }

-- ---- the first free line

at_place : (words : Words) (lines : List ℕ) (n : ℕ) → n < length lines
    → slice_index_or lines n 0 + lines_of (length_at words (slice_index_or lines n 0)) ≤ free_line words lines
at_place words [] n h = absurd (omega (arith, h))
at_place words (line ∷ lines) zero h = omega arith
at_place words (line ∷ lines) (suc n) h = let rest = at_place words lines n (omega (arith, h)) in
    omega (arith, rest)

pub before_free : (words : Words) (lines : List ℕ) (line n : ℕ) → found_at lines line n
    → line + lines_of (length_at words line) ≤ free_line words lines
before_free words lines line n is =
    subst (λ l. l + lines_of (length_at words l) ≤ free_line words lines) is.1 (at_place words lines n is.0)
