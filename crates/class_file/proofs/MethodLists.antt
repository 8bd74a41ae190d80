-- Methods and their attributes, that a loop reads one after the other.
use Rattle.std.proofs.Common.{◌≡◌, ℕ, suc, Bool, ◌||◌, ◌-◌, ◌+◌, ◌≤◌, ◌<◌, List, [], ◌∷◌, ◌++◌, Result, Ok, Err, refl, sym, ap}
use Rattle.std.proofs.Common.{◌∙◌, ◌⊎◌, inl, inr, arith}
use Rattle.std.proofs.lemmas.List.{append-nil}
use Rattle.const_pool.specs.Pool.{Slots}
use Rattle.parsing.specs.Places.{Place}
use Rattle.parsing.proofs.Steps.{done}
use Rattle.parsing.proofs.Loops.{with_front, regroup}
use Rattle.class_file.specs.declared.method.MethodAttribute.{MethodAttribute}
use Rattle.class_file.specs.declared.method.Method.{Method}
use Rattle.class_file.specs.declared.refusal.ClassRefusal.{ClassRefusal}
use Rattle.class_file.specs.declared.refusal.ClassRefusal.TheVariants.{OutOfMemory}
use Rattle.class_file.specs.Members.{is_code, method_attribute_at, method_attributes_from, method_at, methods_from}

abbrev pub Read : Type 0 → Type 0
Read X = Result (List X × Place) ClassRefusal

-- nothing is left to read
all_read : {X : Type 0} (front : List X) (file : Place)
    → with_front front (done ClassRefusal ([], file)) ≡ Ok (front, file)
all_read {X} front file = ap (λ (xs : List X). done ClassRefusal (xs, file)) (append-nil front)

module _ (pool : Slots) (method : ℕ) (front : List MethodAttribute) (count i : ℕ) (bare : Bool) (file : Place)
    (total : Read MethodAttribute) where
  pub goes_on : (a : MethodAttribute) (after : Place) → i < count
      → method_attribute_at pool method bare file ≡ Ok (a, after)
      → with_front front (method_attributes_from pool method bare (count - i) file) ≡ total
      → with_front (front ++ a ∷ []) (method_attributes_from pool method (bare || is_code a) (count - (i + 1)) after) ≡ total
  unfolding method_attributes_from
  goes_on a after lt h so_far =
      let k : count - i ≡ suc (count - (i + 1)) = omega arith in
      let one : with_front front (method_attributes_from pool method bare (count - i) file) ≡ with_front (front ++ a ∷ [])
      (method_attributes_from pool method (bare || is_code a) (count - (i + 1)) after) =
      rw (k, h) (regroup front a (method_attributes_from pool method (bare || is_code a) (count - (i + 1)) after)) in
      sym one ∙ so_far

  pub ends : (e : ClassRefusal) → i < count
      → (e ≡ OutOfMemory) ⊎ (method_attribute_at pool method bare file ≡ Err e)
      → with_front front (method_attributes_from pool method bare (count - i) file) ≡ total
      → (e ≡ OutOfMemory) ⊎ (total ≡ Err e)
  unfolding method_attributes_from
  ends e lt (inl memory) so_far = inl memory
  ends e lt (inr h) so_far =
      let k : count - i ≡ suc (count - (i + 1)) = omega arith in
      let one : with_front front (method_attributes_from pool method bare (count - i) file) ≡ Err e = rw (k, h) refl in
      inr (sym so_far ∙ one)

  pub is_done : count ≤ i
      → with_front front (method_attributes_from pool method bare (count - i) file) ≡ total
      → total ≡ Ok (front, file)
  unfolding method_attributes_from
  is_done le so_far =
      let k : count - i ≡ 0 = omega arith in
      let one : with_front front (method_attributes_from pool method bare (count - i) file) ≡ Ok (front, file) = rw k (all_read front file) in
      sym so_far ∙ one

module _ (pool : Slots) (front : List Method) (count i : ℕ) (file : Place) (total : Read Method) where
  pub methods_go_on : (m : Method) (after : Place) → i < count → method_at pool i file ≡ Ok (m, after)
      → with_front front (methods_from pool i (count - i) file) ≡ total
      → with_front (front ++ m ∷ []) (methods_from pool (i + 1) (count - (i + 1)) after) ≡ total
  unfolding methods_from
  methods_go_on m after lt h so_far =
      let k : count - i ≡ suc (count - (i + 1)) = omega arith in
      let one : with_front front (methods_from pool i (count - i) file) ≡ with_front (front ++ m ∷ []) (methods_from pool (i + 1) (count - (i + 1)) after) =
      rw (k, h) (regroup front m (methods_from pool (i + 1) (count - (i + 1)) after)) in
      sym one ∙ so_far

  pub methods_end : (e : ClassRefusal) → i < count → (e ≡ OutOfMemory) ⊎ (method_at pool i file ≡ Err e)
      → with_front front (methods_from pool i (count - i) file) ≡ total → (e ≡ OutOfMemory) ⊎ (total ≡ Err e)
  unfolding methods_from
  methods_end e lt (inl memory) so_far = inl memory
  methods_end e lt (inr h) so_far =
      let k : count - i ≡ suc (count - (i + 1)) = omega arith in
      let one : with_front front (methods_from pool i (count - i) file) ≡ Err e = rw (k, h) refl in
      inr (sym so_far ∙ one)

  pub methods_done : count ≤ i → with_front front (methods_from pool i (count - i) file) ≡ total
      → total ≡ Ok (front, file)
  unfolding methods_from
  methods_done le so_far =
      let k : count - i ≡ 0 = omega arith in
      let one : with_front front (methods_from pool i (count - i) file) ≡ Ok (front, file) = rw k (all_read front file) in
      sym so_far ∙ one
