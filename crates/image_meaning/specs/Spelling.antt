-- The word that an image has for a value of JVMS 2.3 and 2.4. Of this project's own format.
use Rattle.std.specs.Prelude.{◌≡◌, ℕ, ◌*◌, ◌^◌, ◌<◌, ℤ, pos, FitsSigned}
use Rattle.std.specs.Int.{w32, w64, cast_unsigned}
use Rattle.ap_base.specs.declared.kind.Kind.{Kind}
use Rattle.ap_base.specs.declared.kind.Kind.TheVariants.{Z, B, C, S, I, J, Text}
use Rattle.graph_model.specs.declared.types.Value.{Value}
use Rattle.graph_model.specs.declared.types.Value.TheVariants.{Int, Long, Null, Obj as Object}
use Rattle.image_meaning.specs.Corresponds.{HoldsNumber}

-- an object is called by the line at which it begins
abbrev pub word_of_value : Value → ℕ
word_of_value (Int i) = cast_unsigned w32 i
word_of_value (Long i) = cast_unsigned w64 i
word_of_value Null = 0
word_of_value (Object line) = 2 * line

-- a number from 0 on and below a limit
abbrev pub IsUpTo : ℕ → ℤ → Type 0
IsUpTo limit i = (n : ℕ) × (i ≡ pos n) × (n < limit)

-- A number that a slot of this kind can have: of a byte or a short any int.
abbrev pub IsNumber : Kind → Value → Type 0
IsNumber Z (Int i) = IsUpTo 2 i
IsNumber C (Int i) = IsUpTo (2 ^ 16) i
IsNumber Text (Int i) = IsUpTo (2 ^ 16) i
IsNumber B (Int i) = FitsSigned w32 i
IsNumber S (Int i) = FitsSigned w32 i
IsNumber I (Int i) = FitsSigned w32 i
IsNumber J (Long i) = FitsSigned w64 i
IsNumber kind value = ⊥

-- The word of a number holds it.
abbrev pub NumbersAreSpelled : Type 0
NumbersAreSpelled = (kind : Kind) (value : Value) → IsNumber kind value → HoldsNumber kind (word_of_value value) value
