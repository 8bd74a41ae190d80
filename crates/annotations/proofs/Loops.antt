-- Values and annotations that a loop reads one after the other.
use Rattle.std.proofs.Common.{◌≡◌, ℕ, suc, Bool, true, false, ◌||◌, List, ◌∷◌, ◌-◌, ◌+◌, ◌≤◌, ◌<◌, Result, Ok, Err, refl, sym}
use Rattle.std.proofs.Common.{◌∙◌, arith}
use Rattle.std.specs.List.{list_any}
use Rattle.parsing.specs.Results.{◌>>=◌, many_from}
use Rattle.parsing.specs.Places.{Place}
use Rattle.annotations.specs.declared.refusal.AnnotationRefusal.{AnnotationRefusal}
use Rattle.annotations.specs.declared.marks.Marks.{Marks}
use Rattle.const_pool.specs.Pool.{Slots}
use Rattle.annotations.specs.Annotations.{Skips, after_many, annotation_at, is_root, is_unrecoverable, with_type, marks_of}
use Rattle.annotations.specs.Annotations.{marks_from}

module _ (one : Skips) (count i : ℕ) (file : Place) (total : Result Place AnnotationRefusal) where
  pub goes_on : (after : Place) → i < count → one file ≡ Ok after
      → after_many one (count - i) file ≡ total → after_many one (count - (i + 1)) after ≡ total
  unfolding after_many
  goes_on after lt h so_far =
      let k : count - i ≡ suc (count - (i + 1)) = omega arith in
      let step : after_many one (count - i) file ≡ after_many one (count - (i + 1)) after = rw (k, h) refl in
      sym step ∙ so_far

  pub ends : (e : AnnotationRefusal) → i < count → one file ≡ Err e
      → after_many one (count - i) file ≡ total → total ≡ Err e
  unfolding after_many
  ends e lt h so_far =
      let k : count - i ≡ suc (count - (i + 1)) = omega arith in
      let step : after_many one (count - i) file ≡ Err e = rw (k, h) refl in
      sym so_far ∙ step

  pub is_done : count ≤ i → after_many one (count - i) file ≡ total → total ≡ Ok file
  unfolding after_many
  is_done le so_far =
      let k : count - i ≡ 0 = omega arith in
      let step : after_many one (count - i) file ≡ Ok file = rw k refl in
      sym so_far ∙ step

-- ---- which annotations are among those that are read

-- the marks before, and those of the annotations that are still read
abbrev pub with_before : Marks → Result (Marks × Place) AnnotationRefusal
    → Result (Marks × Place) AnnotationRefusal
with_before before read = read >>= λ x. Ok (
  record {
    root = before.root || x.0.root;
    unrecoverable = before.unrecoverable || x.0.unrecoverable;
  },
  x.1,
)

or_assoc : (a b c : Bool) → (a || (b || c)) ≡ ((a || b) || c)
or_assoc true b c = refl
or_assoc false b c = refl

or_false : (a : Bool) → (a || false) ≡ a
or_false true = refl
or_false false = refl

abbrev Types : Type 0
Types = List ℕ × Place

abbrev marked : Slots → Result Types AnnotationRefusal → Result (Marks × Place) AnnotationRefusal
marked pool read = read >>= λ types. Ok (marks_of pool types.0, types.1)

abbrev one_more : ℕ → Types → Result Types AnnotationRefusal
one_more type r = Ok (type ∷ r.0, r.1)

-- one annotation more among those before is one less among those that are still read
regroup : (pool : Slots) (before : Marks) (type : ℕ) (read : Result Types AnnotationRefusal)
    → with_before before (marked pool (read >>= one_more type)) ≡ with_before (with_type pool before type) (marked pool read)
regroup pool before type (Ok r) = rw (
  or_assoc before.root (is_root pool type) (list_any (is_root pool) r.0),
  or_assoc before.unrecoverable
      (is_unrecoverable pool type) (list_any (is_unrecoverable pool) r.0),
) refl
regroup pool before type (Err e) = refl

module _ (pool : Slots) (before : Marks) (count i : ℕ) (file : Place)
    (total : Result (Marks × Place) AnnotationRefusal) where
  pub marks_go_on : (type : ℕ) (after : Place) → i < count → annotation_at pool file ≡ Ok (type, after)
      → with_before before (marks_from pool (count - i) file) ≡ total
      → with_before (with_type pool before type) (marks_from pool (count - (i + 1)) after) ≡ total
  unfolding marks_from many_from
  marks_go_on type after lt h so_far =
      let k : count - i ≡ suc (count - (i + 1)) = omega arith in
      let step : with_before before (marks_from pool (count - i) file) ≡ with_before (with_type pool before type)
      (marks_from pool (count - (i + 1)) after) = rw (k, h)
      (regroup pool before type (many_from (annotation_at pool) (count - (i + 1)) after)) in
      sym step ∙ so_far

  pub marks_end : (e : AnnotationRefusal) → i < count → annotation_at pool file ≡ Err e
      → with_before before (marks_from pool (count - i) file) ≡ total → total ≡ Err e
  unfolding marks_from many_from
  marks_end e lt h so_far =
      let k : count - i ≡ suc (count - (i + 1)) = omega arith in
      let step : with_before before (marks_from pool (count - i) file) ≡ Err e = rw (k, h) refl in
      sym so_far ∙ step

  pub marks_done : count ≤ i → with_before before (marks_from pool (count - i) file) ≡ total
      → total ≡ Ok (before, file)
  unfolding marks_from many_from
  marks_done le so_far =
      let k : count - i ≡ 0 = omega arith in
      let step : with_before before (marks_from pool (count - i) file) ≡ Ok (before, file) = rw (k, or_false before.root, or_false before.unrecoverable) refl in
      sym so_far ∙ step
