-- What calls that append one after the other have put there. A signed number that was passed on is itself.
use Rattle.std.proofs.Common.{◌≡◌, ℕ, ℤ, List, ◌++◌, Result, ap, ◌∙◌, append_assoc, refl}
use Rattle.std.specs.Prelude.{FitsSigned}
use Rattle.std.specs.Int.{w32, cast_signed, cast_unsigned}
use Rattle.std.specs.Result.{OnOk}
use Rattle.std.proofs.lemmas.Int.{to_z-of_z}
use Rattle.std.proofs.lemmas.Result.{on_ok_weaker}
use Rattle.code_form.specs.Spelling.{signed}

abbrev pub passed : ℤ → ℤ
passed z = cast_signed w32 (cast_unsigned w32 z)

same : (z : ℤ) → FitsSigned w32 z → signed w32 (passed z) ≡ signed w32 z
same z fits = ap (signed w32) (to_z-of_z w32 z fits)

pub range_put : {T E : Type 0} (r : Result T E) (old mid new : List ℕ) (low high : ℤ)
    → FitsSigned w32 low → FitsSigned w32 high → mid ≡ old ++ signed w32 (passed low)
    → OnOk r (new ≡ mid ++ signed w32 (passed high)) → OnOk r (new ≡ old ++ signed w32 low ++ signed w32 high)
range_put r old mid new low high fits_low fits_high first second =
    on_ok_weaker r
    (λ e. e ∙ ap (λ (l : List ℕ). mid ++ l) (same high fits_high)
    ∙ ap (λ (l : List ℕ). l ++ signed w32 high) (first ∙ ap (λ (l : List ℕ). old ++ l) (same low fits_low)))
    second

parts : (old head default low high targets : List ℕ)
    → old ++ head ++ default ++ low ++ high ++ targets ≡ old ++ (head ++ default ++ low ++ high ++ targets)
parts old head default low high targets = simp append_assoc

-- a tableswitch: its opcode and padding, the default, the range of its keys, and the targets
pub table_put : {T E : Type 0} (r : Result T E) (old mid keyed new head default targets : List ℕ)
    (low high : ℤ) → FitsSigned w32 low → FitsSigned w32 high → mid ≡ old ++ head ++ default
    → keyed ≡ mid ++ signed w32 (passed low) ++ signed w32 (passed high) → OnOk r (new ≡ keyed ++ targets)
    → OnOk r (new ≡ old ++ (head ++ default ++ signed w32 low ++ signed w32 high ++ targets))
table_put r old mid keyed new head default targets low high fits_low fits_high first second third =
    let range : keyed ≡ old ++ head ++ default ++ signed w32 low ++ signed w32 high =
    second ∙ rw (first, same low fits_low, same high fits_high) refl in
    on_ok_weaker r
    (λ e. e ∙ ap (λ (l : List ℕ). l ++ targets) range
    ∙ parts old head default (signed w32 low) (signed w32 high) targets)
    third
