-- Tests of references.
use Rattle.std.specs.Prelude.{ℕ, pos, Bool, true, false, nat_eq, Option, Some, None}
use Rattle.ap_base.specs.declared.reference.Item.{Item}
use Rattle.ap_base.specs.declared.reference.Item.TheVariants.{Int as IntItem}

-- whether two references have one number, or none
abbrev pub same_number : Option ℕ → Option ℕ → Bool
same_number None None = true
same_number None (Some n) = false
same_number (Some m) None = false
same_number (Some m) (Some n) = nat_eq m n

abbrev pub item_of : Bool → Item
item_of true = IntItem (pos 1)
item_of false = IntItem (pos 0)
