-- Reading from front to back what is there or not, with no word on why it is not.
use Rattle.std.specs.Prelude.{◌≡◌, ◌⊎◌, Option, Some, None, Result, Ok, Err}
use Rattle.std.specs.Option.{option_and_then}

infixl 10 ◌>>=◌
abbrev pub ◌>>=◌ : {A B : Type 0} → Option A → (A → Option B) → Option B
o >>= f = option_and_then f o

-- What a call gave, seen by view, is what is read. It was refused where nothing is read, unless its refusal
-- is the one that is free, as want of memory is.
abbrev pub Gives : {A B E : Type 0} → (free : E) → (A → B) → Result A E → Option B → Type 0
Gives free view (Ok x) read = read ≡ Some (view x)
Gives free view (Err e) read = (e ≡ free) ⊎ (read ≡ None)
