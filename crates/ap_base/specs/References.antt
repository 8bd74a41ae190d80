-- References and the words that hold them.
use Rattle.std.specs.Prelude.{ℕ, ◌+◌, ◌*◌, ◌<◌, ◌^◌}
use Rattle.ap_base.specs.declared.reference.Ref.{Ref}
use Rattle.ap_base.specs.declared.reference.Ref.TheVariants.{Null, Persistent, Volatile}

-- The word of a reference: 0, twice a line of the image, or twice an index of volatile memory and one.
abbrev pub reference_word : Ref → ℕ
reference_word Null = 0
reference_word (Persistent line) = 2 * line
reference_word (Volatile index) = 2 * index + 1

-- No object lies at line 0, so that the word 0 is null alone.
abbrev pub HasWord : Ref → Type 0
HasWord Null = Unit {0}
HasWord (Persistent line) = 0 < line
HasWord (Volatile index) = Unit {0}

-- A reference with a word, whose number is one of 32 bits.
abbrev pub IsReference : Ref → Type 0
IsReference Null = Unit {0}
IsReference (Persistent line) = (0 < line) × (line < 2 ^ 32)
IsReference (Volatile index) = index < 2 ^ 32
