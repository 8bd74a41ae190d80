-- An item that is read is the item that stands there.
use Rattle.std.proofs.Common.{◌≡◌, ℕ, ◌^◌, ◌<◌, cond, List, ◌++◌, length, Ok, Err, sym, subst, arith}
use Rattle.std.specs.Prelude.{All}
use Rattle.std.specs.List.{flat_map}
use Rattle.byteorder.specs.Endian.{big_bytes}
use Rattle.parsing.specs.Bytes.{IsBytes, HasBytes}
use Rattle.parsing.specs.Results.{◌>>=◌, many_from}
use Rattle.parsing.specs.Places as places
use Rattle.parsing.specs.Places.{Place}
use Rattle.parsing.proofs.Steps.{bind_ok, where_ok, ok_is, placed_ok}
use Rattle.parsing.proofs.Fields as fields
use Rattle.parsing.proofs.Fields.{Takes, Takes-then}
use Rattle.parsing.proofs.Many.{many_taken}
use Rattle.const_pool.specs.declared.entry.Tag.{Tag}
use Rattle.const_pool.specs.declared.entry.Tag.TheVariants.{Utf8}
use Rattle.const_pool.specs.Pool.{Slots, Names, entry_at, is_tagged}
use Rattle.class_items.specs.declared.attribute.Attribute.{Attribute}
use Rattle.class_items.specs.declared.refusal.ItemRefusal.{ItemRefusal}
use Rattle.class_items.specs.declared.refusal.ItemRefusal.TheVariants.{BadIndex}
use Rattle.class_items.specs.Items.{of_cut, field_at, number_at, index_at, attribute_at, attributes_at, attribute_bytes}
use Rattle.class_items.specs.Items.{attributes_bytes}

-- ---- fields, numbers and indices

pub field_taken : (n : ℕ) (file : Place) (x : List ℕ × Place) → IsBytes file.1 → field_at n file ≡ Ok x
    → Takes file x.0 x.1 × HasBytes n x.0
field_taken n file x fits e = fields.field_takes n file x fits (placed_ok of_cut (places.field_at n file) x e)

pub number_taken : (n : ℕ) (file : Place) (x : ℕ × Place) → IsBytes file.1 → number_at n file ≡ Ok x
    → Takes file (big_bytes n x.0) x.1 × (x.0 < 256 ^ n)
number_taken n file x fits e = fields.number_takes n file x fits (placed_ok of_cut (places.number_at n file) x e)

pub index_taken : (pool : Slots) (tag : Tag) (file : Place) (x : ℕ × Place) → IsBytes file.1
    → index_at pool tag file ≡ Ok x
    → Takes file (big_bytes 2 x.0) x.1 × (x.0 < 2 ^ 16) × Names pool (x.0, tag)
unfolding index_at
index_taken pool tag file x fits e =
    let a = bind_ok (number_at 2 file) (λ index. cond (is_tagged (entry_at pool index.0) tag) (Ok index) (Err (BadIndex file.0 index.0))) x e in
    let g = where_ok (is_tagged (entry_at pool a.0.0) tag) (BadIndex file.0 a.0.0) a.0 x a.2 in
    let t = number_taken 2 file a.0 fits a.1 in
    subst (λ (y : ℕ × Place). Takes file (big_bytes 2 y.0) y.1 × (y.0 < 2 ^ 16) × Names pool (y.0, tag)) g.1 (t.0, omega (arith, t.1), cc)

-- ---- attributes

abbrev pub IsShort : Attribute → Type 0
IsShort a = length a.content < 2 ^ 32

pub attribute_taken : (pool : Slots) (file : Place) (x : Attribute × Place) → IsBytes file.1
    → attribute_at pool file ≡ Ok x
    → Takes file (attribute_bytes x.0) x.1 × IsShort x.0
unfolding attribute_at
attribute_taken pool file x fits e =
    let a = bind_ok (index_at pool Utf8 file) (λ name. number_at 4 name.1 >>= λ size. field_at size.0 size.1 >>= λ content. Ok (record { name = name.0; content = content.0 }, content.1)) x e in
    let b = bind_ok (number_at 4 a.0.1) (λ size. field_at size.0 size.1 >>= λ content. Ok (record { name = a.0.0; content = content.0 }, content.1)) x a.2 in
    let c = bind_ok (field_at b.0.0 b.0.1) (λ content. Ok (record { name = a.0.0; content = content.0 }, content.1)) x b.2 in
    let p = index_taken pool Utf8 file a.0 fits a.1 in
    let q = number_taken 4 a.0.1 b.0 p.0.rest_fits b.1 in
    let r = field_taken b.0.0 b.0.1 c.0 q.0.rest_fits c.1 in
    let size : Takes a.0.1 (big_bytes 4 (length c.0.0)) b.0.1 = subst (λ (n : ℕ). Takes a.0.1 (big_bytes 4 n) b.0.1) (sym r.1.0) q.0 in
    let rest = Takes-then a.0.1 (big_bytes 4 (length c.0.0)) b.0.1 c.0.0 c.0.1 size r.0 in
    let whole = Takes-then file (big_bytes 2 a.0.0) a.0.1 (big_bytes 4 (length c.0.0) ++ c.0.0) c.0.1 p.0 rest in
    let made : Attribute × Place = (record { name = a.0.0; content = c.0.0 }, c.0.1) in
    subst (λ (y : Attribute × Place). Takes file (attribute_bytes y.0) y.1 × IsShort y.0) (ok_is ItemRefusal made x c.2) (whole, omega (arith, q.1, r.1.0))

-- the attributes that were read, and what their writer needs of them
pub record AttributesTaken (file : Place) (x : List Attribute × Place) : Type 0 where
  pub takes : Takes file (attributes_bytes x.0) x.1
  pub count : length x.0 < 2 ^ 16
  pub sizes : All IsShort x.0

pub attributes_taken : (pool : Slots) (file : Place) (x : List Attribute × Place) → IsBytes file.1
    → attributes_at pool file ≡ Ok x → AttributesTaken file x
unfolding attributes_at
attributes_taken pool file x fits e =
    let a = bind_ok (number_at 2 file) (λ count. many_from (attribute_at pool) count.0 count.1) x e in
    let p = number_taken 2 file a.0 fits a.1 in
    let q = many_taken IsShort attribute_bytes (attribute_at pool) (attribute_taken pool) a.0.0 a.0.1 x p.0.rest_fits a.2 in
    let count : Takes file (big_bytes 2 (length x.0)) a.0.1 = subst (λ (n : ℕ). Takes file (big_bytes 2 n) a.0.1) (sym q.count) p.0 in
    record {
      takes = Takes-then file (big_bytes 2 (length x.0)) a.0.1 (flat_map attribute_bytes x.0) x.1 count q.takes;
      count = omega (arith, p.1, q.count);
      sizes = q.each;
    }
