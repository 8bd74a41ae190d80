-- What built-in methods read and make of values and replies, over any references R and values V.
use Rattle.std.specs.Prelude.{ℕ, not, Bool, ℤ, pos, Option, Some, None, List, slice_get, ◌%◌, ◌^◌}
use Rattle.std.specs.Int.{w32, cast_unsigned}
use Rattle.std.specs.Ordering.{int_eq}
use Rattle.natives.specs.declared.requests.Reply.{Reply}
use Rattle.natives.specs.declared.requests.Reply.TheVariants as reply

pub record Values (R V : Type 0) : Type 0 where
  pub null : R
  pub is_null : R → Bool
  pub of_int : ℤ → V
  pub of_reference : R → V
  -- what a value holds; 0 and null where it holds something else
  pub int_of : V → ℤ
  pub long_of : V → ℤ
  pub reference_of : V → R

-- the lowest 16 bits of an int (JVMS 6.5, i2c)
abbrev pub char_of : ℤ → ℕ
char_of i = cast_unsigned w32 i % 2 ^ 16

module _ {R V : Type 0} (x : Values R V) where
  abbrev pub int_in : Reply R V → ℤ
  int_in (reply.Item v) = x.int_of v
  int_in r = pos 0

  abbrev pub reference_in : Reply R V → R
  reference_in (reply.Item v) = x.reference_of v
  reference_in (reply.Made r) = r
  reference_in r = x.null

  -- an int that isn't 0 is yes
  abbrev pub is_yes : Reply R V → Bool
  is_yes r = not (int_eq (int_in r) (pos 0))

  -- the arguments of a method by place, the receiver first
  abbrev pub int_at : List V → ℕ → ℤ
  int_at values k = elim (slice_get values k) [ None ↦ pos 0 | Some v ↦ x.int_of v ]

  abbrev pub long_at : List V → ℕ → ℤ
  long_at values k = elim (slice_get values k) [ None ↦ pos 0 | Some v ↦ x.long_of v ]

  abbrev pub reference_at : List V → ℕ → R
  reference_at values k = elim (slice_get values k) [ None ↦ x.null | Some v ↦ x.reference_of v ]

module _ {R V : Type 0} where
  abbrev pub item_in : Reply R V → Option V
  item_in (reply.Item v) = Some v
  item_in r = None

  abbrev pub class_in : Reply R V → ℕ
  class_in (reply.Shape class) = class
  class_in r = 0

  abbrev pub printed_in : Reply R V → ℕ
  printed_in (reply.Printed n) = n
  printed_in r = 0
