-- Items, as plain values: each object has a number.
use Rattle.std.specs.Prelude.{ℕ}
use Rattle.ap_base.specs.declared.reference.Ref.{Ref}
use Rattle.ap_base.specs.declared.reference.Ref.TheVariants as ref
use Rattle.ap_base.specs.declared.reference.Item.{Item}
use Rattle.ap_base.specs.declared.reference.Item.TheVariants as item
use Rattle.graph_model.specs.declared.types.Value.{Value}
use Rattle.graph_model.specs.declared.types.Value.TheVariants as value
use Rattle.natives.specs.Coded.{items}
use Rattle.frames.specs.declared.given.Given.{Given}
use Rattle.frames.specs.declared.given.Given.TheVariants as given
use Rattle.plain_frames.specs.Methods.{plain_values, plain_given}
use Rattle.plain_frames.specs.Moves.{AreAlike}

module _ (number : Ref → ℕ) where
  abbrev pub plain_reference : Ref → Value
  plain_reference ref.Null = value.Null
  plain_reference (ref.Persistent line) = value.Obj (number (ref.Persistent line))
  plain_reference (ref.Volatile index) = value.Obj (number (ref.Volatile index))

  abbrev pub plain_item : Item → Value
  plain_item (item.Int i) = value.Int i
  plain_item (item.Long i) = value.Long i
  plain_item (item.Ref r) = plain_reference r

abbrev pub item_given : Item → Given Ref
item_given (item.Int i) = given.Int i
item_given (item.Long i) = given.Long i
item_given (item.Ref r) = given.Reference r

abbrev pub ItemsAreAlike : Type 0
ItemsAreAlike = (number : Ref → ℕ)
    → AreAlike (plain_reference number) (plain_item number) items plain_values item_given plain_given
