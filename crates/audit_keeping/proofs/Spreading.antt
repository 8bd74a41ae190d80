-- Pending values one after another.
use Rattle.std.proofs.Common.{◌≡◌, ℕ, zero, suc, ◌+◌, ◌<◌, ◌≤◌, Bool, true, false, ◌||◌, nat_eq, List, [], ◌∷◌, length, get_or, set, refl, sym, ◌∙◌, ap, subst, arith, eqb-true, eq-eqb}
use Rattle.std.proofs.lemmas.Bool.{false≢true}
use Rattle.std.proofs.lemmas.List.{get_or-set_same, get_or-set_other, length-set}
use Rattle.graph_model.specs.declared.types.Heap.{Heap}
use Rattle.audit_keeping.specs.declared.keeping.Asked.{Asked}
use Rattle.audit_keeping.specs.Keeping.{is_marked}
use Rattle.audit_keeping.specs.Wishing.{IsSpread, AreSpread, both_marks}

-- the first so many values were looked at
pub record IsSpreading (heap : Heap) (durable : List Bool) (holder object : ℕ) (asked now : List Asked) (at : ℕ) : Type 0 where
  pub long : length now ≡ length asked
  pub within : at ≤ length asked
  pub before : (k : ℕ) (d : Asked) → k < at → IsSpread heap durable holder object (get_or asked k d) (get_or now k d)
  pub behind : (k : ℕ) (d : Asked) → at ≤ k → get_or now k d ≡ get_or asked k d

module _ (heap : Heap) (durable : List Bool) (holder object : ℕ) (asked : List Asked) where
  pub spreading-begins : IsSpreading heap durable holder object asked asked 0
  spreading-begins = record {
    long = refl;
    within = omega arith;
    before = λ k d lt. absurd (omega (arith, lt));
    behind = λ k d le. refl;
  }

  pub spreading-goes : (now : List Asked) (at : ℕ) (q : Asked) → IsSpreading heap durable holder object asked now at → at < length now
      → ((d : Asked) → IsSpread heap durable holder object (get_or now at d) q)
      → IsSpreading heap durable holder object asked (set now at q) (at + 1)
  spreading-goes now at q w inside new = let long = w.long in record {
    long = length-set now at q ∙ w.long;
    within = omega (arith, inside, long);
    before = λ k d lt. elim (nat_eq k at) as (λ b. nat_eq k at ≡ b → IsSpread heap durable holder object (get_or asked k d) (get_or (set now at q) k d)) [
      | true ↦ λ e.
          let same : k ≡ at = eqb-true k at e in
          subst (λ j. IsSpread heap durable holder object (get_or asked j d) (get_or (set now at q) j d)) (sym same)
          (subst (λ x. IsSpread heap durable holder object (get_or asked at d) x) (sym (get_or-set_same now at q d inside))
          (subst (λ x. IsSpread heap durable holder object x q) (w.behind at d (omega arith)) (new d)))
      | false ↦ λ e.
          let other = λ (same : k ≡ at). false≢true (sym e ∙ eq-eqb k at same) in
          subst (λ x. IsSpread heap durable holder object (get_or asked k d) x) (sym (get_or-set_other now at k q d other))
          (w.before k d (less k at lt e))
    ] refl;
    behind = λ k d le. get_or-set_other now at k q d (λ same. no k at le same) ∙ w.behind k d (omega (arith, le));
  }
    where
      less : (k a : ℕ) → k < a + 1 → nat_eq k a ≡ false → k < a
      less k a lt e = grind (arith, lt, e)

      no : (k a : ℕ) → a + 1 ≤ k → k ≡ a → ⊥
      no k a le same = absurd (omega (arith, le, same))

  pub spreading-ends : (now : List Asked) (at : ℕ) → IsSpreading heap durable holder object asked now at → length now ≤ at
      → AreSpread heap durable holder object asked now
  spreading-ends now at w past = let long = w.long in record {
    long = w.long;
    each = λ k d lt. w.before k d (omega (arith, lt, past, long));
  }

-- ---- the marks of either list

pub both-is : (ds ms : List Bool) (n : ℕ) → length ms ≤ length ds → is_marked (both_marks ds ms) n ≡ (is_marked ds n || is_marked ms n)
both-is [] [] n few = refl
both-is [] (m ∷ ms) n few = absurd (omega (arith, few))
both-is (d ∷ ds) [] n few = sym (or-false (is_marked (d ∷ ds) n))
  where
    or-false : (b : Bool) → (b || false) ≡ b
    or-false true = refl
    or-false false = refl
both-is (d ∷ ds) (m ∷ ms) zero few = refl
both-is (d ∷ ds) (m ∷ ms) (suc n) few = both-is ds ms n (omega (arith, few))

pub both-long : (ds ms : List Bool) → length (both_marks ds ms) ≡ length ds
both-long [] ms = refl
both-long (d ∷ ds) [] = refl
both-long (d ∷ ds) (m ∷ ms) = ap suc (both-long ds ms)
