-- The instructions that are asked for their operands one after the other.
use Rattle.std.proofs.Common.{◌≡◌, ℕ, ◌+◌, ◌≤◌, ◌<◌, List, ◌∷◌, length, get_or, drop, Option, Some, None, refl, sym, ap, ◌∙◌}
use Rattle.std.proofs.lemmas.List.{drop_more, at_drop_all}
use Rattle.const_pool.specs.Pool.{Slots}
use Rattle.code_form.specs.declared.ins.Placed.{Placed}
use Rattle.code_attribute.specs.declared.fault.CodeFault.{CodeFault}
use Rattle.code_attribute.specs.Operands.{operand_of, wrong_operand, or_next, first_wrong_operand}

abbrev pub fault_of : Slots → Placed → Option CodeFault
fault_of pool p = wrong_operand pool p.pc (operand_of p.ins)

skips : (fault next : Option CodeFault) → fault ≡ None → or_next fault next ≡ next
skips None next e = refl
skips (Some x) next e = absurd cc

stops : (fault next : Option CodeFault) (x : CodeFault) → fault ≡ Some x → or_next fault next ≡ Some x
stops None next x e = absurd cc
stops (Some y) next x e = e

module _ (pool : Slots) (code : List Placed) (i : ℕ) (first : Option CodeFault)
    (so_far : first_wrong_operand pool (drop i code) ≡ first) where
  one : (p : Placed) → i < length code → p ≡ get_or code i p
      → or_next (fault_of pool p) (first_wrong_operand pool (drop (i + 1) code)) ≡ first
  unfolding first_wrong_operand
  one p within item =
      let next : drop i code ≡ p ∷ drop (i + 1) code =
      drop_more code i p within ∙ ap (λ (q : Placed). q ∷ drop (i + 1) code) (sym item) in
      sym (ap (first_wrong_operand pool) next) ∙ so_far

  -- an instruction without a fault is passed
  pub passes : (p : Placed) → i < length code → p ≡ get_or code i p → fault_of pool p ≡ None
      → first_wrong_operand pool (drop (i + 1) code) ≡ first
  passes p within item none =
      sym (skips (fault_of pool p) (first_wrong_operand pool (drop (i + 1) code)) none) ∙ one p within item

  -- one with a fault is the first
  pub finds : (p : Placed) (fault : CodeFault) → i < length code → p ≡ get_or code i p
      → fault_of pool p ≡ Some fault → first ≡ Some fault
  finds p fault within item some =
      sym (one p within item)
      ∙ stops (fault_of pool p) (first_wrong_operand pool (drop (i + 1) code)) fault some

  pub ends : length code ≤ i → first ≡ None
  unfolding first_wrong_operand
  ends past = sym so_far ∙ at_drop_all (first_wrong_operand pool) code i past
