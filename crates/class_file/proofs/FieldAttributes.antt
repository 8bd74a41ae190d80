-- The attributes of a field, that a loop reads one after the other.
use Rattle.std.proofs.Common.{◌≡◌, ℕ, suc, ◌-◌, ◌+◌, ◌≤◌, ◌<◌, List, [], ◌∷◌, ◌++◌, Result, Ok, Err, refl, sym, ap, ◌∙◌, ◌⊎◌}
use Rattle.std.proofs.Common.{inl, inr, append_assoc, arith}
use Rattle.std.proofs.lemmas.List.{append-nil}
use Rattle.const_pool.specs.Pool.{Slots}
use Rattle.parsing.specs.Places.{Place}
use Rattle.class_items.specs.declared.attribute.Attribute.{Attribute}
use Rattle.class_items.specs.Items.{attribute_at}
use Rattle.parsing.specs.Results.{◌>>=◌, placed}
use Rattle.parsing.proofs.Steps.{done}
use Rattle.class_file.specs.declared.refusal.ClassRefusal.{ClassRefusal}
use Rattle.class_file.specs.declared.refusal.ClassRefusal.TheVariants.{OutOfMemory}
use Rattle.class_file.specs.Refusals.{of_item}
use Rattle.class_file.specs.Members.{Fact, Facts, fact_of, with_fact, field_attributes_from}
use Rattle.class_file.specs.FieldParts.{field_attribute_at}

abbrev pub Read : Type 0
Read = Result ((List Attribute × Facts) × Place) ClassRefusal

-- what was read before, and what is still read
abbrev pub with_front : List Attribute → Read → Read
with_front front read = read >>= λ x. Ok ((front ++ x.0.0, x.0.1), x.1)

abbrev one_more : Attribute → (List Attribute × Facts) × Place → Read
one_more a r = Ok ((a ∷ r.0.0, r.0.1), r.1)

regroup : (front : List Attribute) (a : Attribute) (read : Read)
    → with_front front (read >>= one_more a) ≡ with_front (front ++ a ∷ []) read
regroup front a (Ok r) = ap (λ (xs : List Attribute). done ClassRefusal ((xs, r.0.1), r.1)) (simp append_assoc)
regroup front a (Err e) = refl

-- an attribute, what it says, and the others
abbrev then_others : Slots → ℕ → Facts → (Attribute × Fact) × Place → Read
then_others pool count facts first = field_attributes_from pool count (with_fact facts first.0.1) first.1 >>= one_more first.0.0

abbrev with_place : Place → Attribute → Fact → Result ((Attribute × Fact) × Place) ClassRefusal
with_place after a fact = Ok ((a, fact), after)

flat_fact : (pool : Slots) (count : ℕ) (facts : Facts) (a : Attribute) (after : Place) (fact : Result Fact ClassRefusal)
    → (fact >>= λ f. field_attributes_from pool count (with_fact facts f) after >>= one_more a)
    ≡ ((fact >>= with_place after a) >>= then_others pool count facts)
flat_fact pool count facts a after (Ok f) = refl
flat_fact pool count facts a after (Err e) = refl

flat : (pool : Slots) (count : ℕ) (facts : Facts) (at : ℕ) (read : Result (Attribute × Place) ClassRefusal)
    → (read >>= λ a. fact_of pool at a.0 >>= λ f. field_attributes_from pool count (with_fact facts f) a.1 >>= one_more a.0)
    ≡ ((read >>= λ a. fact_of pool at a.0 >>= with_place a.1 a.0) >>= then_others pool count facts)
flat pool count facts at (Ok a) = flat_fact pool count facts a.0 a.1 (fact_of pool at a.0)
flat pool count facts at (Err e) = refl

first_then_others : (pool : Slots) (count : ℕ) (facts : Facts) (file : Place)
    → field_attributes_from pool (suc count) facts file ≡ (field_attribute_at pool file >>= then_others pool count facts)
unfolding field_attributes_from field_attribute_at
first_then_others pool count facts file = flat pool count facts file.0 (placed of_item (attribute_at pool file))

module _ (pool : Slots) (front : List Attribute) (count i : ℕ) (facts : Facts) (file : Place)
    (total : Read) where
  pub goes_on : (a : Attribute) (fact : Fact) (after : Place) → i < count
      → field_attribute_at pool file ≡ Ok ((a, fact), after)
      → with_front front (field_attributes_from pool (count - i) facts file) ≡ total
      → with_front (front ++ a ∷ []) (field_attributes_from pool (count - (i + 1)) (with_fact facts fact) after) ≡ total
  goes_on a fact after lt h so_far =
      let k : count - i ≡ suc (count - (i + 1)) = omega arith in
      let one : with_front front (field_attributes_from pool (count - i) facts file) ≡ with_front (front ++ a ∷ []) (field_attributes_from pool (count - (i + 1)) (with_fact facts fact) after) =
      rw (k, first_then_others pool (count - (i + 1)) facts file, h) (regroup front a (field_attributes_from pool (count - (i + 1)) (with_fact facts fact) after)) in
      sym one ∙ so_far

  pub ends : (e : ClassRefusal) → i < count → (e ≡ OutOfMemory) ⊎ (field_attribute_at pool file ≡ Err e)
      → with_front front (field_attributes_from pool (count - i) facts file) ≡ total
      → (e ≡ OutOfMemory) ⊎ (total ≡ Err e)
  ends e lt (inl memory) so_far = inl memory
  ends e lt (inr h) so_far =
      let k : count - i ≡ suc (count - (i + 1)) = omega arith in
      let one : with_front front (field_attributes_from pool (count - i) facts file) ≡ Err e = rw (k, first_then_others pool (count - (i + 1)) facts file, h) refl in
      inr (sym so_far ∙ one)

  pub is_done : count ≤ i → with_front front (field_attributes_from pool (count - i) facts file) ≡ total
      → total ≡ Ok ((front, facts), file)
  unfolding field_attributes_from
  is_done le so_far =
      let k : count - i ≡ 0 = omega arith in
      let one : with_front front (field_attributes_from pool (count - i) facts file) ≡ Ok ((front, facts), file) = rw k
      (ap (λ (xs : List Attribute). done ClassRefusal ((xs, facts), file)) (append-nil front)) in
      sym so_far ∙ one
