-- Checks, one after another.
use Rattle.std.proofs.Common.{◌≡◌, ◌<◌, ◌≤◌, ◌+◌, ◌&&◌, ℕ, zero, suc, inl, inr, Option, Some, None, List, length, refl, ◌∙◌}
use Rattle.std.proofs.Common.{arith, add-one, nat_lt, nat_le}
use Rattle.std.proofs.lemmas.Bool.{cases_lt}
use Rattle.graph_model.specs.declared.types.Shape.{Shape}
use Rattle.image_layout.specs.declared.superblock.BadReason.TheVariants as reasons
use Rattle.image_layout.specs.Places.{lines_of}
use Rattle.image_meaning.specs.Checks.{Words, Bad, fails_unless, then_check, first_fault}
use Rattle.image_meaning.specs.Objects.{shape_number, length_at, shape_of, holds_slots, line_fault, slot_fault, object_fault}
use Rattle.image_walk.specs.Walking.{IsFault, head_fault}
use Rattle.image_walk.specs.declared.fault.RecoverFault.{RecoverFault}
use Rattle.image_walk.specs.declared.fault.RecoverFault.TheVariants as fault

pub fault_more : (check : ℕ → Option Bad) (n : ℕ) → first_fault check (n + 1) ≡ then_check (first_fault check n) (check n)
unfolding first_fault
fault_more check n = rw add-one refl

pub passes_more : (check : ℕ → Option Bad) (n : ℕ) → first_fault check n ≡ None → check n ≡ None → first_fault check (n + 1) ≡ None
passes_more check n before now = fault_more check n ∙ rw before now

fault_stays : (check : ℕ → Option Bad) (k n : ℕ) (bad : Bad) → first_fault check k ≡ Some bad → k ≤ n → first_fault check n ≡ Some bad
unfolding first_fault
fault_stays check k zero bad fails upto = let none : k ≡ zero = omega (arith, upto) in rw none at fails
fault_stays check k (suc n) bad fails upto = elim (cases_lt k (suc n)) [
  | inl before ↦ rw (fault_stays check k n bad fails (omega (arith, before))) refl
  | inr past ↦ (let same : k ≡ suc n = omega (arith, upto, past) in rw same at fails)
]

pub fails_at : (check : ℕ → Option Bad) (k n : ℕ) (bad : Bad) → first_fault check k ≡ None → check k ≡ Some bad → k < n
    → first_fault check n ≡ Some bad
fails_at check k n bad before now below =
    fault_stays check (k + 1) n bad (fault_more check k ∙ rw before now) (omega (arith, below))

-- a fault of the check at which none failed before is that of them all
pub fault_of : (check : ℕ → Option Bad) (k n : ℕ) (fault : RecoverFault) → first_fault check k ≡ None → k < n → IsFault (check k) fault
    → IsFault (first_fault check n) fault
fault_of check k n (fault.Bad line reason) before below now = fails_at check k n (line, reason) before now below
fault_of check k n fault.ImageFailed before below now = tt
fault_of check k n fault.OutOfMemory before below now = tt

-- the checks of an object are those of its head, its lines and its slots
pub object_checks : (shapes : List Shape) (size : ℕ) (words : Words) (earlier : List ℕ) (line : ℕ)
    → object_fault shapes size words earlier line
    ≡ then_check (head_fault shapes size line (words line 0))
    (then_check (first_fault (line_fault words earlier line) (lines_of (length_at words line)))
    (first_fault (slot_fault size words (shape_of shapes words line) line) (length_at words line)))
object_checks shapes size words earlier line =
    nested (fails_unless (nat_lt (shape_number words line) (length shapes)) (line, reasons.Shape))
    (fails_unless (holds_slots (shape_of shapes words line).element (shape_of shapes words line).fields (length_at words line)
    && nat_le (line + lines_of (length_at words line)) size) (line, reasons.Length))
    (then_check (first_fault (line_fault words earlier line) (lines_of (length_at words line)))
    (first_fault (slot_fault size words (shape_of shapes words line) line) (length_at words line)))
  where
    nested : (a b c : Option Bad) → then_check a (then_check b c) ≡ then_check (then_check a b) c
    nested None b c = refl
    nested (Some bad) b c = refl

pub checks_none : (check : ℕ → Option Bad) → first_fault check 0 ≡ None
unfolding first_fault
checks_none check = refl
