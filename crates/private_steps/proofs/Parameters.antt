-- Arguments that are read one by one, the last one first.
use Rattle.std.proofs.Common.{◌≡◌, ℕ, zero, suc, ◌+◌, ◌-◌, ◌≤◌, ◌<◌, List, [], ◌∷◌, ◌++◌, length, map, take, drop, reverse}
use Rattle.std.proofs.Common.{slice_get, Option, None, Some, refl, ap, sym, ◌∙◌, arith, length-drop}
use Rattle.std.proofs.lemmas.List.{drop-drop, drop_all, reverse-append}
use Rattle.std.proofs.lemmas.Option.{slice_get_past}
use Rattle.code_form.specs.declared.ins.Sort.{Sort}
use Rattle.code_form.specs.declared.ins.Sort.TheVariants as sort
use Rattle.frame_cells.specs.declared.cell.Cell.{Cell}
use Rattle.frame_cells.specs.declared.cell.Cell.TheVariants.{Empty, Int, Long, Half, Reference}
use Rattle.frame_cells.specs.Own.{Own, int_of, long_of, reference_of, reference_at}
use Rattle.frames.specs.declared.given.Given.{Given}
use Rattle.frames.specs.declared.given.Given.TheVariants as given
use Rattle.frames.specs.Calls.{cells_taken, arguments_on, given_of}
use Rattle.private_steps.specs.Arguments.{argument_width, argument_at}

module _ {R : Type 0} where
  -- the argument on top of these cells, if there is one of this type
  abbrev argument_on : Sort → List (Cell R) → Option (Given R)
  argument_on sort.Int (Int v ∷ cells) = Some (given.Int v)
  argument_on sort.Long (Half ∷ Long v ∷ cells) = Some (given.Long v)
  argument_on sort.Reference (Reference r ∷ cells) = Some (given.Reference r)
  argument_on sort cells = None

  int-there : (s : List (Cell R)) (n : ℕ) →
      given_of (int_of (slice_get s n)) given.Int ≡ argument_on sort.Int (drop n s)
  int-there [] zero = refl
  int-there [] (suc n) = refl
  int-there (Empty ∷ s) zero = refl
  int-there (Int v ∷ s) zero = refl
  int-there (Long v ∷ s) zero = refl
  int-there (Half ∷ s) zero = refl
  int-there (Reference r ∷ s) zero = refl
  int-there (c ∷ s) (suc n) = int-there s n

  reference-there : (s : List (Cell R)) (n : ℕ) →
      given_of (reference_of (slice_get s n)) given.Reference ≡ argument_on sort.Reference (drop n s)
  reference-there [] zero = refl
  reference-there [] (suc n) = refl
  reference-there (Empty ∷ s) zero = refl
  reference-there (Int v ∷ s) zero = refl
  reference-there (Long v ∷ s) zero = refl
  reference-there (Half ∷ s) zero = refl
  reference-there (Reference r ∷ s) zero = refl
  reference-there (c ∷ s) (suc n) = reference-there s n

  not-half : (o y : Option (Cell R)) → (y ≡ Some Half → ⊥) → long_of o y ≡ None
  not-half None y n = refl
  not-half (Some Empty) y n = refl
  not-half (Some (Int v)) y n = refl
  not-half (Some Half) y n = refl
  not-half (Some (Reference r)) y n = refl
  not-half (Some (Long v)) None n = refl
  not-half (Some (Long v)) (Some Empty) n = refl
  not-half (Some (Long v)) (Some (Int w)) n = refl
  not-half (Some (Long v)) (Some (Long w)) n = refl
  not-half (Some (Long v)) (Some Half) n = absurd (n refl)
  not-half (Some (Long v)) (Some (Reference r)) n = refl

  no-long : (o y : Option (Cell R)) → (y ≡ Some Half → ⊥) →
      given_of (long_of o y) given.Long ≡ (let g : Option (Given R) = None in g)
  no-long o y n = ap (λ v. given_of v given.Long) (not-half o y n)

  long-there : (s : List (Cell R)) (n : ℕ) →
      given_of (long_of (slice_get s (suc n)) (slice_get s n)) given.Long ≡ argument_on sort.Long (drop n s)
  long-there [] zero = refl
  long-there [] (suc n) = refl
  long-there (Half ∷ []) zero = refl
  long-there (Half ∷ Empty ∷ s) zero = refl
  long-there (Half ∷ Int v ∷ s) zero = refl
  long-there (Half ∷ Long v ∷ s) zero = refl
  long-there (Half ∷ Half ∷ s) zero = refl
  long-there (Half ∷ Reference r ∷ s) zero = refl
  long-there (Empty ∷ s) zero = no-long (slice_get s zero) (Some Empty) (λ e. cc)
  long-there (Int v ∷ s) zero = no-long (slice_get s zero) (Some (Int v)) (λ e. cc)
  long-there (Long v ∷ s) zero = no-long (slice_get s zero) (Some (Long v)) (λ e. cc)
  long-there (Reference r ∷ s) zero = no-long (slice_get s zero) (Some (Reference r)) (λ e. cc)
  long-there (c ∷ s) (suc n) = long-there s n

  there : (so : Sort) (own : Own R) (n : ℕ) → argument_at so n own ≡ argument_on so (drop n own.stack)
  there sort.Int own n = int-there own.stack n
  there sort.Reference own n = reference-there own.stack n
  there sort.Long own n =
      ap (λ k. given_of (long_of (slice_get own.stack k) (slice_get own.stack n)) given.Long)
      (let q : n + 1 ≡ suc n = omega arith in q) ∙ long-there own.stack n

  on-none : (so : Sort) → argument_on so (let none : List (Cell R) = [] in none) ≡ None
  on-none sort.Int = refl
  on-none sort.Long = refl
  on-none sort.Reference = refl

  -- the next argument, and those that are left
  first-some : (so : Sort) (sorts : List Sort) (cells : List (Cell R)) (v : Given R) (later : List (Given R)) →
      argument_on so cells ≡ Some v →
      (arguments_on (so ∷ sorts) cells later ≡
      arguments_on sorts (drop (argument_width so) cells) (v ∷ later)) ×
      (argument_width so ≤ length cells)
  first-some sort.Int sorts (Int w ∷ cells) v later e =
      (ap (λ u. arguments_on sorts cells (u ∷ later)) cc, omega arith)
  first-some sort.Long sorts (Half ∷ Long w ∷ cells) v later e =
      (ap (λ u. arguments_on sorts cells (u ∷ later)) cc, omega arith)
  first-some sort.Reference sorts (Reference r ∷ cells) v later e =
      (ap (λ u. arguments_on sorts cells (u ∷ later)) cc, omega arith)
  first-some so sorts cells v later e = absurd cc

  first-none : (so : Sort) (sorts : List Sort) (cells : List (Cell R)) (later : List (Given R)) →
      argument_on so cells ≡ None → arguments_on (so ∷ sorts) cells later ≡ None
  first-none sort.Int sorts (Int w ∷ cells) later e = absurd cc
  first-none sort.Long sorts (Half ∷ Long w ∷ cells) later e = absurd cc
  first-none sort.Reference sorts (Reference r ∷ cells) later e = absurd cc
  first-none so sorts cells later e = refl

count-cons : (so : Sort) (sorts : List Sort) → cells_taken (so ∷ sorts) ≡ argument_width so + cells_taken sorts
count-cons sort.Int sorts = refl
count-cons sort.Long sorts = refl
count-cons sort.Reference sorts = refl

width-some : (so : Sort) → 1 ≤ argument_width so
width-some sort.Int = omega arith
width-some sort.Long = omega arith
width-some sort.Reference = omega arith

-- the argument with this index is read
module _ (sorts : List Sort) (i : ℕ) (so : Sort) (e : drop i sorts ≡ so ∷ drop (suc i) sorts) where
  left : drop i sorts ≡ so ∷ drop (i + 1) sorts
  left = e ∙ ap (λ k. so ∷ drop k sorts) (let q : suc i ≡ i + 1 = omega arith in q)

  next-count : cells_taken (drop i sorts) ≡ argument_width so + cells_taken (drop (i + 1) sorts)
  next-count = ap cells_taken left ∙ count-cons so (drop (i + 1) sorts)

  pub next-wide : 1 ≤ cells_taken (drop i sorts)
  next-wide = omega (arith, next-count, width-some so)

  pub more-count : (k n w : ℕ) → w ≡ argument_width so → k ≡ n + cells_taken (drop i sorts) →
      k ≡ n + w + cells_taken (drop (i + 1) sorts)
  more-count k n w we h = omega (arith, next-count, we, h)

  pub width-one : (w : ℕ) → w ≡ argument_width so → 1 ≤ w
  width-one w we = omega (arith, width-some so, we)

  module _ {R : Type 0} (own : Own R) (n : ℕ) where
    pub more-some : (all : Option (List (Given R))) (later : List (Given R)) (v : Given R) (w : ℕ) →
        argument_at so n own ≡ Some v → w ≡ argument_width so →
        all ≡ arguments_on (drop i sorts) (drop n own.stack) later →
        all ≡ arguments_on (drop (i + 1) sorts) (drop (n + w) own.stack) (v ∷ later)
    more-some all later v w a we h =
        h ∙ ap (λ ss. arguments_on ss (drop n own.stack) later) left ∙
        (first-some so (drop (i + 1) sorts) (drop n own.stack) v later (sym (there so own n) ∙ a)).0 ∙
        ap (λ cells. arguments_on (drop (i + 1) sorts) cells (v ∷ later))
        (drop-drop (argument_width so) n own.stack) ∙
        ap (λ w. arguments_on (drop (i + 1) sorts) (drop (n + w) own.stack) (v ∷ later)) (sym we)

    pub more-within : (v : Given R) (w : ℕ) → argument_at so n own ≡ Some v → w ≡ argument_width so →
        n + w ≤ length own.stack
    more-within v w a we =
        let h = (first-some so (drop (i + 1) sorts) (drop n own.stack) v [] (sym (there so own n) ∙ a)).1 in
        omega (arith, h, we, width-some so, length-drop n own.stack)

    pub more-none : (all : Option (List (Given R))) (later : List (Given R)) → argument_at so n own ≡ None →
        all ≡ arguments_on (drop i sorts) (drop n own.stack) later → all ≡ None
    more-none all later a h =
        h ∙ ap (λ ss. arguments_on ss (drop n own.stack) later) left ∙
        first-none so (drop (i + 1) sorts) (drop n own.stack) later (sym (there so own n) ∙ a)

    pub more-past : (all : Option (List (Given R))) (later : List (Given R)) → length own.stack ≤ n →
        all ≡ arguments_on (drop i sorts) (drop n own.stack) later → all ≡ None
    more-past all later p h =
        h ∙ ap (λ ss. arguments_on ss (drop n own.stack) later) left ∙
        first-none so (drop (i + 1) sorts) (drop n own.stack) later
        (ap (argument_on so) (drop_all n own.stack p) ∙ on-none so)

pub last-first : {X : Type 0} (xs : List X) (v : X) → reverse (xs ++ v ∷ []) ≡ v ∷ reverse xs
last-first xs v = reverse-append xs (v ∷ [])

-- one of the first two arguments comes before those that were read
pub kept-first : {X : Type 0} (items later : List X) (v : X) (n : ℕ) → n < 2 → reverse items ≡ take (1 - n) later →
    reverse (items ++ v ∷ []) ≡ take (2 - n) (v ∷ later)
kept-first items later v n h e =
    let k : suc (1 - n) ≡ 2 - n = omega (arith, h) in
    last-first items v ∙ ap (λ xs. v ∷ xs) e ∙ ap (λ k. take k (v ∷ later)) k

-- another one doesn't
pub kept-past : {X : Type 0} (items later : List X) (v : X) (n : ℕ) → 2 ≤ n → reverse items ≡ take (1 - n) later →
    reverse items ≡ take (2 - n) (v ∷ later)
kept-past items later v n h e =
    let one : 1 - n ≡ 0 = omega (arith, h) in
    let two : 0 ≡ 2 - n = omega (arith, h) in
    e ∙ ap (λ k. take k later) one ∙ ap (λ k. take k (v ∷ later)) two

pub first-two : {X Y : Type 0} (f : X → Y) (xs : List X) → take 2 (map f (take 2 xs)) ≡ take 2 (map f xs)
first-two f [] = refl
first-two f (x ∷ []) = refl
first-two f (x ∷ y ∷ xs) = refl

-- so many arguments are still to be read, and those of the others that are among the first two were kept
pub record IsReading {R : Type 0} (sorts : List Sort) (own : Own R) (i above left : ℕ) (items : List (Given R)) : Type 0 where
  pub later : List (Given R)
  pub are : arguments_on sorts own.stack [] ≡ arguments_on (drop i sorts) (drop above own.stack) later
  pub kept : reverse items ≡ take (2 - left) later
  pub to_read : left ≡ length sorts - i

-- no stack has its receiver past its end
pub receiver-past : {R : Type 0} (own : Own R) (n : ℕ) → length own.stack ≤ n → reference_at n own ≡ None
receiver-past own n h = ap reference_of (slice_get_past own.stack n h)
