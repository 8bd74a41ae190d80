-- A change of references commutes with the private instructions on cells, family by family.
use Rattle.std.proofs.Common.{◌≡◌, ℕ, ℤ, ◌+◌, ◌&&◌, Bool, true, false, List, [], ◌∷◌, ◌++◌, take, drop, slice_get, Option, Some}
use Rattle.std.proofs.Common.{None, refl, ap, ◌∙◌}
use Rattle.std.proofs.lemmas.List.{take-map, drop-map, map-append}
use Rattle.std.specs.Option.{option_map}
use Rattle.std.specs.Int.{w32, w64}
use Rattle.code_form.specs.declared.ins.Binary.{Binary}
use Rattle.code_form.specs.declared.ins.Case.{Case}
use Rattle.code_form.specs.declared.ins.Condition.{Condition}
use Rattle.code_form.specs.declared.ins.Conversion.{Conversion}
use Rattle.code_form.specs.declared.ins.Conversion.TheVariants as to_type
use Rattle.code_form.specs.declared.ins.Equality.{Equality}
use Rattle.code_form.specs.declared.ins.Equality.TheVariants as is
use Rattle.code_form.specs.declared.ins.Number.{Number}
use Rattle.code_form.specs.declared.ins.Number.TheVariants as number
use Rattle.code_form.specs.declared.ins.Shift.{Shift}
use Rattle.code_form.specs.declared.ins.Sort.{Sort}
use Rattle.code_form.specs.declared.ins.Sort.TheVariants as sort
use Rattle.code_form.specs.declared.ins.Stack.{Stack}
use Rattle.code_form.specs.declared.ins.Stack.TheVariants as form
use Rattle.frame_cells.specs.declared.cell.Cell.TheVariants.{Int, Long, Half, Reference}
use Rattle.frame_cells.specs.declared.cell.Did.TheVariants.{Next}
use Rattle.frame_cells.specs.Own.{Own, After, int_of, long_of, reference_of, int_at, long_at, reference_at, put, is_whole}
use Rattle.frame_cells.specs.Numbers.{combined, compared}
use Rattle.frame_cells.specs.Families.{with, when, unless_divided, loads, stores, increments, combines, negates, shifts}
use Rattle.frame_cells.specs.Families.{converts, compares, branches, branches_on_two, branches_on_null, switches, looks_up}
use Rattle.frame_cells.specs.Families.{drops, copies, swaps, rearranges}
use Rattle.frames.specs.Maps.{map_own, map_after}
use Rattle.frames.proofs.Cells.{int-map, reference-map, long-map, whole-map, put-map, keep-map}

module _ {R S : Type 0} (f : R → S) where
  with-same : {X : Type 0} → (x : Option X) (own : Own R) (go : X → After R) (go' : X → After S) →
      ((v : X) → go' v ≡ map_after f (go v)) → with x (map_own f own) go' ≡ map_after f (with x own go)
  with-same None own go go' e = refl
  with-same (Some v) own go go' e = e v

  with-reference : (x : Option R) (own : Own R) (go : R → After R) (go' : S → After S) →
      ((r : R) → go' (f r) ≡ map_after f (go r))
      → with (option_map f x) (map_own f own) go' ≡ map_after f (with x own go)
  with-reference None own go go' e = refl
  with-reference (Some v) own go go' e = e v

  when-map : (a : Bool) (own : Own R) (go : After R) (go' : After S) → go' ≡ map_after f go →
      when a (map_own f own) go' ≡ map_after f (when a own go)
  when-map true own go go' e = e
  when-map false own go go' e = refl

  divided-map : (x : Option ℤ) (own : Own R) (go : ℤ → After R) (go' : ℤ → After S) →
      ((v : ℤ) → go' v ≡ map_after f (go v)) →
      unless_divided x (map_own f own) go' ≡ map_after f (unless_divided x own go)
  divided-map None own go go' e = refl
  divided-map (Some v) own go go' e = e v

  int-put : (n : ℕ) (v : ℤ) (own : Own R)
      → put n (Int v ∷ []) Next (map_own f own) ≡ map_after f (put n (Int v ∷ []) Next own)
  int-put n v own = put-map f n (Int v ∷ []) Next own

  long-put : (n : ℕ) (v : ℤ) (own : Own R) →
      put n (Half ∷ Long v ∷ []) Next (map_own f own) ≡ map_after f (put n (Half ∷ Long v ∷ []) Next own)
  long-put n v own = put-map f n (Half ∷ Long v ∷ []) Next own

  pub combines-map : (n : Number) (o : Binary) (own : Own R)
      → combines n o (map_own f own) ≡ map_after f (combines n o own)
  combines-map number.Int o own = simp (int-map)
      (with-same (int_at 1 own) own _ _ (λ a. with-same (int_at 0 own) own _ _ (λ b.
      divided-map (combined w32 o a b) own _ _ (λ c. int-put 2 c own))))
  combines-map number.Long o own = simp (long-map)
      (with-same (long_at 2 own) own _ _ (λ a. with-same (long_at 0 own) own _ _ (λ b.
      divided-map (combined w64 o a b) own _ _ (λ c. long-put 4 c own))))

  pub compares-map : (own : Own R) → compares (map_own f own) ≡ map_after f (compares own)
  compares-map own = simp (long-map)
      (with-same (long_at 2 own) own _ _
      (λ a. with-same (long_at 0 own) own _ _ (λ b. int-put 4 (compared a b) own)))

  pub shifts-map : (n : Number) (o : Shift) (own : Own R)
      → shifts n o (map_own f own) ≡ map_after f (shifts n o own)
  shifts-map number.Int o own = simp (int-map)
      (with-same (int_at 1 own) own _ _ (λ a. with-same (int_at 0 own) own _ _ (λ n. int-put 2 _ own)))
  shifts-map number.Long o own = simp (long-map, int-map)
      (with-same (long_at 1 own) own _ _ (λ a. with-same (int_at 0 own) own _ _ (λ n. long-put 3 _ own)))

  pub negates-map : (n : Number) (own : Own R) → negates n (map_own f own) ≡ map_after f (negates n own)
  negates-map number.Int own = simp (int-map) (with-same (int_at 0 own) own _ _ (λ a. int-put 1 _ own))
  negates-map number.Long own = simp (long-map) (with-same (long_at 0 own) own _ _ (λ a. long-put 2 _ own))

  pub converts-map : (o : Conversion) (own : Own R)
      → converts o (map_own f own) ≡ map_after f (converts o own)
  converts-map to_type.IntToLong own =
      simp (int-map) (with-same (int_at 0 own) own _ _ (λ a. long-put 1 _ own))
  converts-map to_type.LongToInt own =
      simp (long-map) (with-same (long_at 0 own) own _ _ (λ a. int-put 2 _ own))
  converts-map to_type.IntToByte own =
      simp (int-map) (with-same (int_at 0 own) own _ _ (λ a. int-put 1 _ own))
  converts-map to_type.IntToChar own =
      simp (int-map) (with-same (int_at 0 own) own _ _ (λ a. int-put 1 _ own))
  converts-map to_type.IntToShort own =
      simp (int-map) (with-same (int_at 0 own) own _ _ (λ a. int-put 1 _ own))

  pub increments-map : (at : ℕ) (n : ℤ) (own : Own R)
      → increments at n (map_own f own) ≡ map_after f (increments at n own)
  increments-map at n own = simp (int-map)
      (with-same (int_of (slice_get own.locals at)) own _ _ (λ a. keep-map f 0 at (Int _ ∷ []) own))

  pub branches-map : (c : Condition) (t : ℕ) (own : Own R)
      → branches c t (map_own f own) ≡ map_after f (branches c t own)
  branches-map c t own = simp (int-map) (with-same (int_at 0 own) own _ _ (λ a. put-map f 1 [] _ own))

  pub branches_on_two-map : (c : Condition) (t : ℕ) (own : Own R) →
      branches_on_two c t (map_own f own) ≡ map_after f (branches_on_two c t own)
  branches_on_two-map c t own = simp (int-map)
      (with-same (int_at 1 own) own _ _ (λ a. with-same (int_at 0 own) own _ _ (λ b. put-map f 2 [] _ own)))

  -- where one null stands for the other
  pub branches_on_null-map : (is_null : R → Bool) (is_null' : S → Bool)
      → ((r : R) → is_null' (f r) ≡ is_null r) →
      (e : Equality) (t : ℕ) (own : Own R) →
      branches_on_null is_null' e t (map_own f own) ≡ map_after f (branches_on_null is_null e t own)
  branches_on_null-map null null' k is.Equal t own = simp (reference-map)
      (with-reference (reference_at 0 own) own _ _ (λ r. rw (k r) (put-map f 1 [] _ own)))
  branches_on_null-map null null' k is.NotEqual t own = simp (reference-map)
      (with-reference (reference_at 0 own) own _ _ (λ r. rw (k r) (put-map f 1 [] _ own)))

  pub switches-map : (d : ℕ) (low : ℤ) (ts : List ℕ) (own : Own R) →
      switches d low ts (map_own f own) ≡ map_after f (switches d low ts own)
  switches-map d low ts own = simp (int-map)
      (with-same (int_at 0 own) own _ _ (λ key. put-map f 1 [] _ own))

  pub looks_up-map : (d : ℕ) (cases : List Case) (own : Own R) →
      looks_up d cases (map_own f own) ≡ map_after f (looks_up d cases own)
  looks_up-map d cases own = simp (int-map) (with-same (int_at 0 own) own _ _ (λ key. put-map f 1 [] _ own))

  pub loads-map : (s : Sort) (at : ℕ) (own : Own R)
      → loads s at (map_own f own) ≡ map_after f (loads s at own)
  loads-map sort.Int at own = simp (int-map)
      (with-same (int_of (slice_get own.locals at)) own _ _ (λ v. int-put 0 v own))
  loads-map sort.Long at own = simp (long-map)
      (with-same (long_of (slice_get own.locals at) (slice_get own.locals (at + 1))) own _ _
      (λ v. long-put 0 v own))
  loads-map sort.Reference at own = simp (reference-map)
      (with-reference (reference_of (slice_get own.locals at)) own _ _ (λ v. put-map f 0 (Reference v ∷
      []) Next own))

  pub stores-map : (s : Sort) (at : ℕ) (own : Own R)
      → stores s at (map_own f own) ≡ map_after f (stores s at own)
  stores-map sort.Int at own = simp (int-map)
      (with-same (int_at 0 own) own _ _ (λ v. keep-map f 1 at (Int v ∷ []) own))
  stores-map sort.Long at own = simp (long-map)
      (with-same (long_at 0 own) own _ _ (λ v. keep-map f 2 at (Long v ∷ Half ∷ []) own))
  stores-map sort.Reference at own = simp (reference-map)
      (with-reference (reference_at 0 own) own _ _ (λ v. keep-map f 1 at (Reference v ∷ []) own))

  drops-map : (m : ℕ) (own : Own R) → drops m (map_own f own) ≡ map_after f (drops m own)
  drops-map m own = rw (whole-map f m own) (when-map (is_whole m own) own _ _ (put-map f m [] Next own))

  copies-map : (m n : ℕ) (own : Own R) → copies m n (map_own f own) ≡ map_after f (copies m n own)
  copies-map m n own = rw (whole-map f m own) (rw (whole-map f (m + n) own)
      (when-map (is_whole m own && is_whole (m + n) own) own _ _
      (ap (λ new. put (m + n) new Next (map_own f own)) (simp (take-map, map-append)) ∙
      put-map f (m + n) (take (m + n) own.stack ++ take m own.stack) Next own)))

  swaps-map : (own : Own R) → swaps (map_own f own) ≡ map_after f (swaps own)
  swaps-map own = rw (whole-map f 1 own) (rw (whole-map f 2 own)
      (when-map (is_whole 1 own && is_whole 2 own) own _ _
      (ap (λ new. put 2 new Next (map_own f own)) (simp (take-map, drop-map, map-append)) ∙
      put-map f 2 (drop 1 (take 2 own.stack) ++ take 1 own.stack) Next own)))

  pub rearranges-map : (m : Stack) (own : Own R)
      → rearranges m (map_own f own) ≡ map_after f (rearranges m own)
  rearranges-map form.Pop own = drops-map 1 own
  rearranges-map form.Pop2 own = drops-map 2 own
  rearranges-map form.Dup own = copies-map 1 0 own
  rearranges-map form.DupX1 own = copies-map 1 1 own
  rearranges-map form.DupX2 own = copies-map 1 2 own
  rearranges-map form.Dup2 own = copies-map 2 0 own
  rearranges-map form.Dup2X1 own = copies-map 2 1 own
  rearranges-map form.Dup2X2 own = copies-map 2 2 own
  rearranges-map form.Swap own = swaps-map own
