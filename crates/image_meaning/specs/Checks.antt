-- The words of an image, and checks of them. A check fails at a line, for a reason; the first that fails counts. Of this project's own format.
use Rattle.std.specs.Prelude.{ℕ, zero, suc, Bool, true, false, Option, Some, None, Result, Ok, Err}
use Rattle.image_layout.specs.declared.superblock.BadReason.{BadReason}

-- the words of an image, by line and word of the line
abbrev pub Words : Type 0
Words = ℕ → ℕ → ℕ

-- the line at which a check fails, and why
abbrev pub Bad : Type 0
Bad = ℕ × BadReason

abbrev pub fails_unless : Bool → Bad → Option Bad
fails_unless true bad = None
fails_unless false bad = Some bad

-- the first of two checks that fails
abbrev pub then_check : Option Bad → Option Bad → Option Bad
then_check (Some bad) next = Some bad
then_check None next = next

-- the first of the checks 0 to n - 1 that fails
unfoldable pub first_fault : (ℕ → Option Bad) → ℕ → Option Bad
first_fault check zero = None
first_fault check (suc n) = then_check (first_fault check n) (check n)

-- what is given where the check passes
abbrev pub after_check : {A : Type 0} → Option Bad → Result A Bad → Result A Bad
after_check (Some bad) given = Err bad
after_check None given = given

infixl 10 ◌>>=◌
abbrev pub ◌>>=◌ : {A B : Type 0} → Result A Bad → (A → Result B Bad) → Result B Bad
(Ok x) >>= f = f x
(Err bad) >>= f = Err bad
