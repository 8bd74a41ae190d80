-- The words of numbers.
use Rattle.std.proofs.Common.{◌≡◌, ℕ, ◌^◌, ◌<◌, true, ℤ, pos, refl, sym, ap, arith, nat_lt}
use Rattle.std.specs.Prelude.{FitsSigned}
use Rattle.std.specs.Int.{w32, w64, cast_unsigned, cast_signed}
use Rattle.std.proofs.lemmas.Bool.{lt-ltb}
use Rattle.std.proofs.lemmas.Int.{ints, to_z-of_z}
use Rattle.ap_base.specs.declared.kind.Kind.{Kind}
use Rattle.ap_base.specs.declared.kind.Kind.TheVariants.{Z, B, C, S, I, J, L, Text}
use Rattle.graph_model.specs.declared.types.Value.{Value}
use Rattle.graph_model.specs.declared.types.Value.TheVariants.{Int, Long}
use Rattle.image_meaning.specs.Corresponds.{HoldsNumber}
use Rattle.image_meaning.specs.Spelling.{word_of_value, IsNumber}

small : (limit n : ℕ) (i : ℤ) → i ≡ pos n → n < limit → limit < 2 ^ 31
    → (nat_lt (cast_unsigned w32 i) limit ≡ true) × (Int i ≡ Int (pos (cast_unsigned w32 i)))
small limit n i e h few =
    let word : cast_unsigned w32 i ≡ n = rw e refl in
    (lt-ltb (cast_unsigned w32 i) limit (rw word h), ap (λ z. Int z) (rw (word, e) refl))

int_word : (i : ℤ) → FitsSigned w32 i → (nat_lt (cast_unsigned w32 i) (2 ^ 32) ≡ true) × (Int i ≡ Int (cast_signed w32 (cast_unsigned w32 i)))
int_word i fits =
    let below : cast_unsigned w32 i < 2 ^ 32 = omega (arith, ints) in
    (lt-ltb (cast_unsigned w32 i) (2 ^ 32) below, ap (λ z. Int z) (sym (to_z-of_z w32 i fits)))

long_word : (i : ℤ) → FitsSigned w64 i → (nat_lt (cast_unsigned w64 i) (2 ^ 64) ≡ true) × (Long i ≡ Long (cast_signed w64 (cast_unsigned w64 i)))
long_word i fits =
    let below : cast_unsigned w64 i < 2 ^ 64 = omega (arith, ints) in
    (lt-ltb (cast_unsigned w64 i) (2 ^ 64) below, ap (λ z. Long z) (sym (to_z-of_z w64 i fits)))

pub spelled_number : (kind : Kind) (value : Value) → IsNumber kind value → HoldsNumber kind (word_of_value value) value
spelled_number Z (Int i) is = small 2 is.0 i is.1 is.2 (omega arith)
spelled_number C (Int i) is = small (2 ^ 16) is.0 i is.1 is.2 (omega arith)
spelled_number Text (Int i) is = small (2 ^ 16) is.0 i is.1 is.2 (omega arith)
spelled_number B (Int i) is = int_word i is
spelled_number S (Int i) is = int_word i is
spelled_number I (Int i) is = int_word i is
spelled_number J (Long i) is = long_word i is
spelled_number L value is = absurd is
spelled_number kind value is = absurd is
