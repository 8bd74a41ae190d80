-- Items are plain values, where each object has a number.
use Rattle.std.proofs.Common.{◌≡◌, refl, ℕ}
use Rattle.ap_base.specs.declared.reference.Ref.{Ref}
use Rattle.ap_base.specs.declared.reference.Ref.TheVariants as ref
use Rattle.ap_base.specs.declared.reference.Item.{Item}
use Rattle.ap_base.specs.declared.reference.Item.TheVariants as item
use Rattle.natives.specs.Coded as coded
use Rattle.frames.specs.Maps.{map_given}
use Rattle.plain_frames.specs.Codes.{is_null}
use Rattle.plain_frames.specs.Methods as plain
use Rattle.plain_frames.specs.Coded.{plain_reference, plain_item, item_given, ItemsAreAlike}

module _ (number : Ref → ℕ) where
  null_is : (r : Ref) → is_null (plain_reference number r) ≡ coded.is_null r
  null_is ref.Null = refl
  null_is (ref.Persistent line) = refl
  null_is (ref.Volatile index) = refl

  int_is : (v : Item) → plain.int_of (plain_item number v) ≡ coded.int_of v
  int_is (item.Int i) = refl
  int_is (item.Long i) = refl
  int_is (item.Ref ref.Null) = refl
  int_is (item.Ref (ref.Persistent line)) = refl
  int_is (item.Ref (ref.Volatile index)) = refl

  long_is : (v : Item) → plain.long_of (plain_item number v) ≡ coded.long_of v
  long_is (item.Int i) = refl
  long_is (item.Long i) = refl
  long_is (item.Ref ref.Null) = refl
  long_is (item.Ref (ref.Persistent line)) = refl
  long_is (item.Ref (ref.Volatile index)) = refl

  reference_is : (v : Item)
      → plain.reference_of (plain_item number v) ≡ plain_reference number (coded.reference_of v)
  reference_is (item.Int i) = refl
  reference_is (item.Long i) = refl
  reference_is (item.Ref ref.Null) = refl
  reference_is (item.Ref (ref.Persistent line)) = refl
  reference_is (item.Ref (ref.Volatile index)) = refl

  given_is : (v : Item)
      → plain.plain_given (plain_item number v) ≡ map_given (plain_reference number) (item_given v)
  given_is (item.Int i) = refl
  given_is (item.Long i) = refl
  given_is (item.Ref ref.Null) = refl
  given_is (item.Ref (ref.Persistent line)) = refl
  given_is (item.Ref (ref.Volatile index)) = refl

pub items_are_alike : ItemsAreAlike
items_are_alike number = record {
  null = refl;
  is_null = null_is number;
  int = λ i. refl;
  reference = λ r. refl;
  int_of = int_is number;
  long_of = long_is number;
  reference_of = reference_is number;
  given = given_is number;
}
