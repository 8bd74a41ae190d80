-- Reading from front to back, with the first fault that is met. The refusals are of any type.
use Rattle.std.specs.Prelude.{◌≡◌, ◌⊎◌, ℕ, zero, suc, Bool, List, [], ◌∷◌, Option, Some, None, Result, Ok, Err, if◌then◌else◌}

infixl 10 ◌>>=◌
abbrev pub ◌>>=◌ : {A B E : Type 0} → Result A E → (A → Result B E) → Result B E
(Ok x) >>= f = f x
(Err e) >>= f = Err e

-- ---- what a call gave

-- The refusal is that of reading, unless it is the one that is free.
abbrev pub Refuses : {B E : Type 0} → (free : Option E) → E → Result B E → Type 0
Refuses None e read = read ≡ Err e
Refuses (Some free) e read = (e ≡ free) ⊎ (read ≡ Err e)

-- What a call gave, seen by view, is what reading gives. One refusal may be free, as want of memory is, of
-- which reading knows nothing.
abbrev pub Gives : {A B E : Type 0} → (free : Option E) → (A → B) → Result A E → Result B E → Type 0
Gives free view (Ok x) read = read ≡ Ok (view x)
Gives free view (Err e) read = Refuses free e read

-- ---- steps

-- a result with its refusal put at its place in what stands around it
abbrev pub placed : {A E F : Type 0} → (E → F) → Result A E → Result A F
placed place (Ok x) = Ok x
placed place (Err e) = Err (place e)

-- goes on unless something is wrong
abbrev pub unless : {E : Type 0} → Bool → E → Result (Unit {0}) E
unless wrong fault = if wrong then Err fault else Ok tt

-- goes on unless something wrong is found
abbrev pub unless_found : {A E : Type 0} → Option A → (A → E) → Result (Unit {0}) E
unless_found None fault = Ok tt
unless_found (Some x) fault = Err (fault x)

-- so many values, one after the other; S is what is left to read
unfoldable pub many_from : {X S E : Type 0} → (S → Result (X × S) E) → ℕ → S → Result (List X × S) E
many_from read zero left = Ok ([], left)
many_from read (suc count) left = do
  first ← read left
  others ← many_from read count first.1
  Ok (first.0 ∷ others.0, others.1)
