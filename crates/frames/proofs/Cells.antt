-- A change of references commutes with what is read from and written to the cells of a frame.
use Rattle.std.proofs.Common.{◌≡◌, ℕ, zero, suc, ◌+◌, ◌-◌, nat_le, ◌&&◌, not, Bool, true, false, List, [], ◌∷◌, ◌++◌, length}
use Rattle.std.proofs.Common.{drop, map, slice_get, slice_set, Option, Some, None, refl, ap, sym, ◌∙◌, if◌then◌else◌}
use Rattle.std.proofs.lemmas.List.{drop-map, map-append, length-map, map-set}
use Rattle.std.proofs.lemmas.Option.{slice_get-map}
use Rattle.std.specs.Option.{option_map}
use Rattle.frame_cells.specs.declared.cell.Cell.{Cell}
use Rattle.frame_cells.specs.declared.cell.Cell.TheVariants.{Empty, Int, Long, Half, Reference}
use Rattle.frame_cells.specs.declared.cell.Did.{Did}
use Rattle.frame_cells.specs.declared.cell.Did.TheVariants.{Next, Bad}
use Rattle.frame_cells.specs.Own.{Own, After, int_of, long_of, reference_of, stays, put, keep, written, is_half, is_whole}
use Rattle.frames.specs.Maps.{map_cell, map_own, map_after}

module _ {R S : Type 0} (f : R → S) where
  int-cell : (c : Option (Cell R)) → int_of (option_map (map_cell f) c) ≡ int_of c
  int-cell None = refl
  int-cell (Some Empty) = refl
  int-cell (Some (Int i)) = refl
  int-cell (Some (Long i)) = refl
  int-cell (Some Half) = refl
  int-cell (Some (Reference r)) = refl

  half-cell : (c : Option (Cell R)) → is_half (option_map (map_cell f) c) ≡ is_half c
  half-cell None = refl
  half-cell (Some Empty) = refl
  half-cell (Some (Int i)) = refl
  half-cell (Some (Long i)) = refl
  half-cell (Some Half) = refl
  half-cell (Some (Reference r)) = refl

  reference-cell : (c : Option (Cell R)) → reference_of (option_map (map_cell f) c) ≡
      option_map f (reference_of c)
  reference-cell None = refl
  reference-cell (Some Empty) = refl
  reference-cell (Some (Int i)) = refl
  reference-cell (Some (Long i)) = refl
  reference-cell (Some Half) = refl
  reference-cell (Some (Reference r)) = refl

  long-cell : (c d : Option (Cell R)) →
      long_of (option_map (map_cell f) c) (option_map (map_cell f) d) ≡ long_of c d
  long-cell None d = refl
  long-cell (Some Empty) d = refl
  long-cell (Some (Int i)) d = refl
  long-cell (Some (Long i)) None = refl
  long-cell (Some (Long i)) (Some Empty) = refl
  long-cell (Some (Long i)) (Some (Int j)) = refl
  long-cell (Some (Long i)) (Some (Long j)) = refl
  long-cell (Some (Long i)) (Some Half) = refl
  long-cell (Some (Long i)) (Some (Reference r)) = refl
  long-cell (Some Half) d = refl
  long-cell (Some (Reference r)) d = refl

  pub int-map : (xs : List (Cell R)) (n : ℕ) → int_of (slice_get (map (map_cell f) xs) n) ≡
      int_of (slice_get xs n)
  int-map xs n = ap int_of (slice_get-map (map_cell f) xs n) ∙ int-cell (slice_get xs n)

  pub reference-map : (xs : List (Cell R)) (n : ℕ) →
      reference_of (slice_get (map (map_cell f) xs) n) ≡ option_map f (reference_of (slice_get xs n))
  reference-map xs n = ap reference_of (slice_get-map (map_cell f) xs n) ∙ reference-cell (slice_get xs n)

  half-map : (xs : List (Cell R)) (n : ℕ) → is_half (slice_get (map (map_cell f) xs) n) ≡
      is_half (slice_get xs n)
  half-map xs n = ap is_half (slice_get-map (map_cell f) xs n) ∙ half-cell (slice_get xs n)

  pub long-map : (xs : List (Cell R)) (m n : ℕ) →
      long_of (slice_get (map (map_cell f) xs) m) (slice_get (map (map_cell f) xs) n)
      ≡ long_of (slice_get xs m) (slice_get xs n)
  long-map xs m n =
      ap (λ c. long_of c (slice_get (map (map_cell f) xs) n)) (slice_get-map (map_cell f) xs m) ∙
      ap (long_of (option_map (map_cell f) (slice_get xs m))) (slice_get-map (map_cell f) xs n) ∙
      long-cell (slice_get xs m) (slice_get xs n)

  pub whole-map : (n : ℕ) (own : Own R) → is_whole n (map_own f own) ≡ is_whole n own
  whole-map zero own = refl
  whole-map (suc n) own = ap not (half-map own.stack n)

  put-cases : (a b : Bool) (own : Own R) (x : After R) (y : After S) → y ≡ map_after f x →
      (if a then (if b then y else stays Bad (map_own f own)) else stays Bad (map_own f own))
      ≡ map_after f (if a then (if b then x else stays Bad own) else stays Bad own)
  put-cases true true own x y e = e
  put-cases true false own x y e = refl
  put-cases false b own x y e = refl

  pub put-map : (n : ℕ) (new : List (Cell R)) (did : Did) (own : Own R) →
      put n (map (map_cell f) new) did (map_own f own) ≡ map_after f (put n new did own)
  put-map n new did own = simp (length-map)
      (put-cases (nat_le n (length own.stack)) (nat_le (length new + (length own.stack - n)) own.room) own
      (record { did = did; own = record own { stack = new ++ drop n own.stack } })
      (record {
        did = did;
        own = record {
          locals = map (map_cell f) own.locals;
          stack = map (map_cell f) new ++ drop n (map (map_cell f) own.stack);
          room = own.room;
        };
      })
      (simp (map-append, drop-map)))

  written-map : (xs new : List (Cell R)) (at : ℕ) →
      written (map (map_cell f) xs) at (map (map_cell f) new) ≡ map (map_cell f) (written xs at new)
  written-map xs [] at = refl
  written-map xs (c ∷ new) at =
      ap (λ z. written z (at + 1) (map (map_cell f) new)) (sym (map-set (map_cell f) xs at c)) ∙
      written-map (slice_set xs at c) new (at + 1)

  keep-cases : (a : Bool) (own : Own R) (x : After R) (y : After S) → y ≡ map_after f x →
      (if a then y else stays Bad (map_own f own)) ≡ map_after f (if a then x else stays Bad own)
  keep-cases true own x y e = e
  keep-cases false own x y e = refl

  pub keep-map : (n at : ℕ) (new : List (Cell R)) (own : Own R) →
      keep n at (map (map_cell f) new) (map_own f own) ≡ map_after f (keep n at new own)
  keep-map n at new own = simp (length-map)
      (keep-cases (nat_le (at + length new) (length own.locals) && nat_le n (length own.stack)) own
      (record {
        did = Next;
        own = record own {
          locals = written own.locals at new;
          stack =
              drop n own.stack;
        };
      })
      (record {
        did = Next;
        own = record {
          locals = written (map (map_cell f) own.locals) at (map (map_cell f) new);
          stack = drop n (map (map_cell f) own.stack);
          room = own.room;
        };
      })
      (simp (written-map, drop-map)))
