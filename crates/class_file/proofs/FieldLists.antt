-- Fields, that a loop reads one after the other.
use Rattle.std.proofs.Common.{◌≡◌, ℕ, suc, ◌&&◌, ◌-◌, ◌+◌, ◌≤◌, ◌<◌, List, [], ◌∷◌, ◌++◌, Result, Ok, Err, refl, sym, ap, ◌∙◌}
use Rattle.std.proofs.Common.{◌⊎◌, inl, inr, arith}
use Rattle.std.proofs.lemmas.List.{append-nil}
use Rattle.const_pool.specs.Pool.{Slots}
use Rattle.parsing.specs.Places.{Place}
use Rattle.parsing.specs.Results.{unless}
use Rattle.parsing.proofs.Steps.{done}
use Rattle.parsing.proofs.Loops.{with_front, regroup}
use Rattle.class_file.specs.declared.field.Field.{Field}
use Rattle.class_file.specs.declared.refusal.ClassRefusal.{ClassRefusal}
use Rattle.class_file.specs.declared.refusal.ClassRefusal.TheVariants.{OutOfMemory, RootNotReference}
use Rattle.class_file.specs.Members.{is_among, field_at, with_root, fields_from}
use Rattle.class_file.proofs.RootFields.{kept, refused_alone, refused_named}

abbrev pub Read : Type 0
Read = Result (List Field × Place) ClassRefusal

module _ (pool : Slots) (roots : List ℕ) (front : List Field) (count i : ℕ) (file : Place)
    (total : Read) where
  pub goes_on : (f : Field) (after : Place) → i < count → field_at pool roots i file ≡ Ok (f, after)
      → with_front front (fields_from pool roots i (count - i) file) ≡ total
      → with_front (front ++ f ∷ []) (fields_from pool (with_root roots f) (i + 1) (count - (i + 1)) after) ≡ total
  unfolding fields_from
  goes_on f after lt h so_far =
      let k : count - i ≡ suc (count - (i + 1)) = omega arith in
      let one : with_front front (fields_from pool roots i (count - i) file) ≡ with_front (front ++ f ∷ []) (fields_from pool (with_root roots f) (i + 1) (count - (i + 1)) after) =
      rw (k, h) (regroup front f (fields_from pool (with_root roots f) (i + 1) (count - (i + 1)) after)) in
      sym one ∙ so_far

  -- a field that is read by itself, and whose name no durable root before has
  pub goes_on_noted : (f : Field) (after : Place) → i < count → field_at pool [] i file ≡ Ok (f, after)
      → unless (f.root && is_among pool roots f.name) (RootNotReference i) ≡ Ok tt
      → with_front front (fields_from pool roots i (count - i) file) ≡ total
      → with_front (front ++ f ∷ []) (fields_from pool (with_root roots f) (i + 1) (count - (i + 1)) after) ≡ total
  goes_on_noted f after lt h own so_far = goes_on f after lt (kept pool roots i file f after h own) so_far

  pub ends : (e : ClassRefusal) → i < count → (e ≡ OutOfMemory) ⊎ (field_at pool roots i file ≡ Err e)
      → with_front front (fields_from pool roots i (count - i) file) ≡ total
      → (e ≡ OutOfMemory) ⊎ (total ≡ Err e)
  unfolding fields_from
  ends e lt (inl memory) so_far = inl memory
  ends e lt (inr h) so_far =
      let k : count - i ≡ suc (count - (i + 1)) = omega arith in
      let one : with_front front (fields_from pool roots i (count - i) file) ≡ Err e = rw (k, h) refl in
      inr (sym so_far ∙ one)

  pub ends_alone : (e : ClassRefusal) → i < count → (e ≡ OutOfMemory) ⊎ (field_at pool [] i file ≡ Err e)
      → with_front front (fields_from pool roots i (count - i) file) ≡ total
      → (e ≡ OutOfMemory) ⊎ (total ≡ Err e)
  ends_alone e lt (inl memory) so_far = inl memory
  ends_alone e lt (inr h) so_far = ends e lt (inr (refused_alone pool roots i file e h)) so_far

  pub ends_noted : (f : Field) (after : Place) (e : ClassRefusal) → i < count
      → field_at pool [] i file ≡ Ok (f, after)
      → (e ≡ OutOfMemory) ⊎ (unless (f.root && is_among pool roots f.name) (RootNotReference i) ≡ Err e)
      → with_front front (fields_from pool roots i (count - i) file) ≡ total
      → (e ≡ OutOfMemory) ⊎ (total ≡ Err e)
  ends_noted f after e lt h (inl memory) so_far = inl memory
  ends_noted f after e lt h (inr named) so_far = ends e lt (inr (refused_named pool roots i file f after e h named)) so_far

  pub is_done : count ≤ i → with_front front (fields_from pool roots i (count - i) file) ≡ total
      → total ≡ Ok (front, file)
  unfolding fields_from
  is_done le so_far =
      let k : count - i ≡ 0 = omega arith in
      let one : with_front front (fields_from pool roots i (count - i) file) ≡ Ok (front, file) = rw k (ap (λ (xs : List Field). done ClassRefusal (xs, file)) (append-nil front)) in
      sym so_far ∙ one
