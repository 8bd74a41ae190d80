-- Values of the code: items, over its references. And what the steps of a built-in method are.
use Rattle.std.specs.Prelude.{Bool, true, false, ℤ, pos, ◌+ℤ◌, int_lt, Option, Some, None, if◌then◌else◌}
use Rattle.ap_base.specs.declared.reference.Ref.{Ref}
use Rattle.ap_base.specs.declared.reference.Ref.TheVariants as ref
use Rattle.ap_base.specs.declared.reference.Item.{Item}
use Rattle.ap_base.specs.declared.reference.Item.TheVariants as item
use Rattle.natives.specs.Values.{Values}

abbrev pub is_null : Ref → Bool
is_null ref.Null = true
is_null r = false

abbrev pub int_of : Item → ℤ
int_of (item.Int i) = i
int_of v = pos 0

abbrev pub long_of : Item → ℤ
long_of (item.Long i) = i
long_of v = pos 0

abbrev pub reference_of : Item → Ref
reference_of (item.Ref r) = r
reference_of v = ref.Null

abbrev pub items : Values Ref Item
items = record {
  null = ref.Null;
  is_null = is_null;
  of_int = item.Int;
  of_reference = item.Ref;
  int_of = int_of;
  long_of = long_of;
  reference_of = reference_of;
}

-- the index after one, where it is below an end
abbrev pub next_index : ℤ → ℤ → Option ℤ
next_index at end = if int_lt (at +ℤ pos 1) end then Some (at +ℤ pos 1) else None
