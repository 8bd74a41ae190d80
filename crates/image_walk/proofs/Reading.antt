-- Words and values that are read.
use Rattle.std.proofs.Common.{◌≡◌, ◌<◌, ◌≤◌, ◌+◌, ℕ, Bool, true, false, min, List, [], ◌∷◌, ◌++◌, Result, Ok, Err, nat_lt, refl}
use Rattle.std.proofs.Common.{sym, ◌∙◌, ap, subst, arith, inl, inr}
use Rattle.std.specs.Prelude.{IfErr, IsErrAnd}
use Rattle.std.proofs.lemmas.Bool.{cases_lt, lt-ltb, le-ltb}
use Rattle.std.proofs.lemmas.List.{append-nil}
use Rattle.std.proofs.lemmas.List.FromFn.{map-range_with_len_more}
use Rattle.graph_model.specs.declared.types.Value.{Value}
use Rattle.graph_model.specs.declared.types.Shape.{Shape}
use Rattle.image_layout.specs.Places.{root_slots, first_object_line, slot_line, slot_word, object_line, object_word}
use Rattle.image_meaning.specs.Checks.{Words}
use Rattle.image_meaning.specs.Logs.{is_log_line}
use Rattle.image_meaning.specs.Objects.{value_of, kind_of, object_slot}
use Rattle.image_meaning.specs.Meaning.{root_word, root_value, root_values_of, root_fault}
use Rattle.image_meaning.proofs.Logs.{not_log_before, not_log_after}
use Rattle.image_walk.specs.Walking.{slot_check, used_value, slot_values}
use Rattle.image_walk.specs.declared.fault.RecoverFault.{RecoverFault}

-- what the exit of a `?` returns
pub err_is : {T : Type 0} (r : Result T RecoverFault) (e : RecoverFault) (P : RecoverFault → Type 0) → IsErrAnd r (λ y. y ≡ e) → P e
    → IfErr r P
err_is (Ok x) e P h p = absurd h
err_is (Err y) e P h p = subst P (sym h) p

pub root_outside : (r line : ℕ) → r < root_slots → line ≡ slot_line r → is_log_line line ≡ false
root_outside r line below at = not_log_before line (omega (arith, below, at))

pub slot_outside : (line i at : ℕ) → first_object_line ≤ line → at ≡ object_line line i → is_log_line at ≡ false
slot_outside line i at low here = not_log_after at (omega (arith, low, here))

pub root_read : (words : Words) (r line word value : ℕ) → line ≡ slot_line r → word ≡ slot_word r → value ≡ words line word
    → value ≡ root_word words r
root_read words r line word value at in_line read =
    read ∙ ap (λ (l : ℕ). words l word) at ∙ ap (λ (w : ℕ). words (slot_line r) w) in_line

pub slot_read : (words : Words) (line i at word value : ℕ) → at ≡ object_line line i → word ≡ object_word i → value ≡ words at word
    → value ≡ object_slot words line i
slot_read words line i at word value here in_line read =
    read ∙ ap (λ (l : ℕ). words l word) here ∙ ap (λ (w : ℕ). words (object_line line i) w) in_line

-- the check of a root slot is that of its word
pub root_checked : (size : ℕ) (words : Words) (roots r line word : ℕ) (in_use : Bool) → in_use ≡ nat_lt r roots → line ≡ slot_line r
    → word ≡ root_word words r → root_fault size words roots r ≡ slot_check size in_use line word
root_checked size words roots r line word in_use told at is = rw (told, at, is) refl

pub roots_more : (words : Words) (roots r word : ℕ) (in_use : Bool) (values : List Value) → in_use ≡ nat_lt r roots
    → word ≡ root_word words r → values ≡ root_values_of words (min r roots)
    → values ++ used_value in_use word ≡ root_values_of words (min (r + 1) roots)
roots_more words roots r word in_use values told is so = elim (cases_lt r roots) [
  | inl before ↦ (
      let yes : in_use ≡ true = told ∙ lt-ltb r roots before in
      let now : min r roots ≡ r = omega (arith, before) in
      let next : min (r + 1) roots ≡ r + 1 = omega (arith, before) in
      rw (yes, is, so, now, next) (sym (map-range_with_len_more (root_value words) 0 r r (omega arith))))
  | inr past ↦ (
      let not_used : in_use ≡ false = told ∙ le-ltb r roots past in
      let same : min (r + 1) roots ≡ min r roots = omega (arith, past) in
      rw (not_used, same) (append-nil values ∙ so))
]

pub values_more : (words : Words) (shape : Shape) (line i : ℕ) (before after : List Value) (value : Value)
    → before ≡ slot_values words shape line i → value ≡ value_of (kind_of shape i) (object_slot words line i)
    → after ≡ before ++ value ∷ [] → after ≡ slot_values words shape line (i + 1)
values_more words shape line i before after value so is pushed =
    pushed ∙ rw (so, is) (sym (map-range_with_len_more (λ k. value_of (kind_of shape k) (object_slot words line k)) 0 i i (omega arith)))
