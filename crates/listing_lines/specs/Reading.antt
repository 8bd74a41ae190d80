-- Reading the operands of a line from front to back, with the first fault that is met.
use Rattle.std.specs.Prelude.{ℕ, ◌&&◌, nat_le, pos, unsigned_abs, Bool, true, false, List, [], ◌∷◌, Option, Some, None, Result}
use Rattle.std.specs.Prelude.{Ok, Err, if◌then◌else◌}
use Rattle.std.specs.List.{list_all}
use Rattle.std.specs.Option.{option_map}
use Rattle.std.specs.Str.{bytes_eq}
use Rattle.const_pool.specs.declared.descriptor.Descriptor.{Descriptor}
use Rattle.const_pool.specs.declared.descriptor.Descriptor.TheVariants as descriptor
use Rattle.const_pool.specs.declared.descriptor.FieldType.{FieldType}
use Rattle.const_pool.specs.Parsing.{descriptor_at}
use Rattle.parsing.specs.Results as results
use Rattle.listing_lines.specs.declared.refusal.ListingFault.{ListingFault}
use Rattle.listing_lines.specs.declared.refusal.ListingFault.TheVariants.{Syntax, BadDescriptor}
use Rattle.listing_lines.specs.declared.refusal.LineRefusal.{LineRefusal}
use Rattle.listing_lines.specs.declared.refusal.LineRefusal.TheVariants as refusal
use Rattle.listing_lines.specs.Numbers.{number}

-- what a call gave is what reading gives, unless memory ran out
abbrev pub Gives : {A B : Type 0} → (A → B) → Result A LineRefusal → Result B LineRefusal → Type 0
Gives view result read = results.Gives (Some refusal.OutOfMemory) view result read

-- the same of a call that takes no memory
abbrev pub Answers : {A B : Type 0} → (A → B) → Result A LineRefusal → Result B LineRefusal → Type 0
Answers view result read = results.Gives None view result read

abbrev pub or_fault : {A : Type 0} → ListingFault → Option A → Result A LineRefusal
or_fault kind None = Err (refusal.Fault kind)
or_fault kind (Some x) = Ok x

abbrev pub unless : Bool → ListingFault → Result (Unit {0}) LineRefusal
unless wrong kind = if wrong then Err (refusal.Fault kind) else Ok tt

-- ---- how many operands there are

abbrev pub no_operand : List (List ℕ) → Result (Unit {0}) LineRefusal
no_operand [] = Ok tt
no_operand other = Err (refusal.Fault Syntax)

abbrev pub one_operand : List (List ℕ) → Result (List ℕ) LineRefusal
one_operand (a ∷ []) = Ok a
one_operand other = Err (refusal.Fault Syntax)

abbrev pub two_operands : List (List ℕ) → Result (List ℕ × List ℕ) LineRefusal
two_operands (a ∷ b ∷ []) = Ok (a, b)
two_operands other = Err (refusal.Fault Syntax)

abbrev pub three_operands : List (List ℕ) → Result (List ℕ × List ℕ × List ℕ) LineRefusal
three_operands (a ∷ b ∷ c ∷ []) = Ok (a, b, c)
three_operands other = Err (refusal.Fault Syntax)

-- a word that may stand at the front, and what stands behind it
abbrev pub taken : List ℕ → List (List ℕ) → Bool × List (List ℕ)
taken word [] = (false, [])
taken word (a ∷ rest) = if bytes_eq a word then (true, rest) else (false, a ∷ rest)

-- ---- what a word may be

-- a number from 0 to a limit
abbrev pub natural : (limit : ℕ) → List ℕ → Option ℕ
natural limit word = option_map unsigned_abs (number (pos 0) (pos limit) word)

-- a byte of a listing
abbrev pub is_ascii : ℕ → Bool
is_ascii b = nat_le 1 b && nat_le b 127

unfoldable pub descriptor_of : List ℕ → Option Descriptor
descriptor_of word = if list_all is_ascii word then descriptor_at word else None

-- the word is the descriptor of a field (JVMS 4.3.2)
abbrev pub field_type : Option Descriptor → Result FieldType LineRefusal
field_type (Some (descriptor.Field t)) = Ok t
field_type other = Err (refusal.Fault BadDescriptor)

-- the word is the descriptor of a method (JVMS 4.3.3), of which these are the parameters
abbrev pub parameters : Option Descriptor → Result (List FieldType) LineRefusal
parameters (Some (descriptor.Method found result)) = Ok found
parameters other = Err (refusal.Fault BadDescriptor)
