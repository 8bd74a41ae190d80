-- Keys of monitors: which are the same, and their buckets in an index.
use Rattle.std.specs.Prelude.{ℕ, ◌*◌, ◌/◌, ◌%◌, ◌^◌, Bool, true, false, nat_eq}
use Rattle.ap_base.specs.declared.reference.Ref.{Ref}
use Rattle.ap_base.specs.declared.reference.Ref.TheVariants.{Null, Persistent, Volatile}
use Rattle.run_types.specs.declared.key.Key.{Key}
use Rattle.run_types.specs.declared.key.Key.TheVariants.{Object, Class}

abbrev pub RefKey : Type 0
RefKey = Key Ref

abbrev pub is_ref : Ref → Ref → Bool
is_ref Null Null = true
is_ref Null (Persistent n) = false
is_ref Null (Volatile n) = false
is_ref (Persistent m) Null = false
is_ref (Persistent m) (Persistent n) = nat_eq m n
is_ref (Persistent m) (Volatile n) = false
is_ref (Volatile m) Null = false
is_ref (Volatile m) (Persistent n) = false
is_ref (Volatile m) (Volatile n) = nat_eq m n

abbrev pub is_key : RefKey → RefKey → Bool
is_key (Object r) (Object s) = is_ref r s
is_key (Object r) (Class n) = false
is_key (Class m) (Object s) = false
is_key (Class m) (Class n) = nat_eq m n

abbrev pub key_number : RefKey → ℕ
key_number (Object Null) = 0
key_number (Object (Persistent n)) = n
key_number (Object (Volatile n)) = n
key_number (Class n) = n

-- One of 8,192 buckets, by a multiplication that spreads numbers which lie close together (Knuth, The Art of Computer
-- Programming 3, 6.4, multiplicative hashing).
abbrev pub bucket_of : RefKey → ℕ
bucket_of key = key_number key * 2654435769 % 2 ^ 32 / 2 ^ 19
