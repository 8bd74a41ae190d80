-- A class file's pool has room for fewer than 2^16 entries (JVMS 4.1).
use Rattle.std.proofs.Common.{◌≡◌, ◌<◌, ◌^◌, Ok, length, drop, refl, sym, subst, ltb}
use Rattle.const_pool.specs.declared.entry.Tag.TheVariants.{Class}
use Rattle.const_pool.specs.Pool.{Slots}
use Rattle.const_pool.specs.Reading.{pool_in}
use Rattle.const_pool.proofs.Pools.{pool_stands}
use Rattle.parsing.specs.Places.{Place}
use Rattle.parsing.specs.Results.{placed, unless}
use Rattle.parsing.proofs.Steps.{placed_ok}
use Rattle.class_items.specs.Items.{attributes_at}
use Rattle.class_file.specs.declared.class.ClassFile.{ClassFile}
use Rattle.class_file.specs.declared.refusal.ClassRefusal.TheVariants as refusal
use Rattle.class_file.specs.Refusals.{of_item, of_pool}
use Rattle.class_file.specs.Members.{number, index, fields_at, methods_at}
use Rattle.class_file.specs.Classes.{CanBeRead, class_in, behind_at, head_at, interfaces_at, this_at}
use Rattle.class_file.proofs.SpelledFields.{bind_then, ok_then}

same_pool : (pool : Slots) (file : Place) (c : ClassFile) → behind_at pool file ≡ Ok c → c.pool ≡ pool
unfolding behind_at
same_pool pool file c e =
    bind_then (number 2 file) _ c e (λ access is_access then_access.
    bind_then (this_at pool access.1) _ c then_access (λ this is_this then_this.
    bind_then (index pool Class this.1) _ c then_this (λ super is_super then_super.
    bind_then (interfaces_at pool super.1) _ c then_super (λ interfaces are_interfaces then_interfaces.
    bind_then (fields_at pool interfaces.1) _ c then_interfaces (λ fields are_fields then_fields.
    bind_then (methods_at pool fields.1) _ c then_fields (λ methods are_methods then_methods.
    bind_then (placed of_item (attributes_at pool methods.1)) _ c then_methods (λ attributes are_attributes
    then_attributes.
    bind_then (unless (ltb 0 (length attributes.1.1))
    (refusal.TrailingBytes attributes.1.0)) _ c then_attributes (λ ended is_ended ends.
    ok_then (λ (x : ClassFile). x.pool ≡ pool) _ c ends refl))))))))

read_few : (c : ClassFile) (h : CanBeRead c) → class_in h.bytes ≡ Ok c → length c.pool < 2 ^ 16
unfolding class_in
read_few c h e =
    bind_then (head_at (0, h.bytes)) _ c e (λ head is_head then_head.
    bind_then (placed of_pool (pool_in h.bytes)) _ c then_head (λ pool is_pool ends.
    let stands = pool_stands h.bytes pool h.are_bytes (placed_ok of_pool (pool_in h.bytes) pool is_pool) in
    let same = same_pool pool.0 (pool.1, drop pool.1 h.bytes) c ends in
    subst (λ (slots : Slots). length slots < 2 ^ 16) (sym same) stands.pool.count))

pub pool_few : (c : ClassFile) → CanBeRead c → length c.pool < 2 ^ 16
pool_few c h = read_few c h h.read
