-- Tests of a request on an array, by the number of the object's class.
use Rattle.std.specs.Prelude.{◌≡◌, ◌<◌, ◌^◌, ◌≤◌, ℤ, pos, negsuc, ℕ, Bool, nat_eq, not, ◌&&◌, false, Option, None, Some}
use Rattle.ap_base.specs.declared.kind.Kind.{Kind}
use Rattle.ap_base.specs.declared.kind.Kind.TheVariants.{Text}
use Rattle.plain_model.specs.declared.throws.Throws.{Throws}
use Rattle.plain_model.specs.declared.throws.Throws.TheVariants as exception
use Rattle.plain_model.specs.Facts.{SetFacts, element_of, string_number}
use Rattle.plain_model.specs.Steps.{is_kind}

-- whether elements serve a request for this kind
abbrev pub serves : Kind → Option Kind → Bool
serves kind None = false
serves kind (Some element) = is_kind kind element

-- whether objects of a class have elements of this kind
abbrev pub has_elements_of : SetFacts → Kind → ℕ → Bool
has_elements_of set Text class = nat_eq class (string_number set)
has_elements_of set kind class = not (nat_eq class (string_number set)) && serves kind (element_of set class)

-- what an index out of range throws
abbrev pub end_thrown : Kind → Throws
end_thrown Text = exception.StringIndexOutOfBounds
end_thrown kind = exception.ArrayIndexOutOfBounds

-- an index in range, as a number, or none
abbrev pub IsBelowIndex : ℤ → ℕ → Option ℕ → Type 0
IsBelowIndex index count (Some i) = (index ≡ pos i) × (i < count)
IsBelowIndex (pos i) count None = count ≤ i
IsBelowIndex (negsuc i) count None = Unit {0}

-- a number of elements, or none where it is negative
abbrev pub IsCount : ℤ → Option ℕ → Type 0
IsCount count (Some n) = (count ≡ pos n) × (n < 2 ^ 31)
IsCount (pos i) None = ⊥
IsCount (negsuc i) None = Unit {0}
