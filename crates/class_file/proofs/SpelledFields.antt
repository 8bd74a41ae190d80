-- A field that is read is the field that stands there.
use Rattle.std.proofs.Common.{◌≡◌, ℕ, zero, suc, ◌+◌, ◌^◌, not, ◌<◌, List, [], ◌∷◌, ◌++◌, length, Result, Ok, Err, refl, sym}
use Rattle.std.proofs.Common.{ap, subst, arith}
use Rattle.std.specs.Prelude.{All}
use Rattle.std.specs.List.{flat_map}
use Rattle.std.proofs.lemmas.List.Concat.{flat_map-cons}
use Rattle.std.proofs.lemmas.List.Elements.{All-nil, All-cons}
use Rattle.byteorder.specs.Endian.{big_bytes}
use Rattle.const_pool.specs.declared.entry.Tag.{Tag}
use Rattle.const_pool.specs.declared.entry.Tag.TheVariants.{Utf8}
use Rattle.parsing.specs.Bytes.{IsBytes}
use Rattle.const_pool.specs.Pool.{Slots}
use Rattle.parsing.specs.Places.{Place, number_at}
use Rattle.parsing.proofs.Fields.{Takes, Takes-then, takes_none, number_takes}
use Rattle.class_items.specs.declared.attribute.Attribute.{Attribute}
use Rattle.class_items.specs.Kinds.{kind_at}
use Rattle.parsing.specs.Results.{◌>>=◌, placed, unless}
use Rattle.class_items.specs.Items.{index_at, attribute_at, attribute_bytes}
use Rattle.parsing.proofs.Steps.{done, ok_is}
use Rattle.parsing.proofs.Steps.{placed_ok}
use Rattle.parsing.proofs.Many.{AreTaken}
use Rattle.class_items.proofs.Taken.{index_taken, attribute_taken}
use Rattle.class_file.specs.declared.field.Field.{Field}
use Rattle.class_file.specs.declared.refusal.ClassRefusal.{ClassRefusal}
use Rattle.class_file.specs.declared.refusal.ClassRefusal.TheVariants as refusal
use Rattle.class_file.specs.Refusals.{of_cut, of_item}
use Rattle.class_file.specs.Members.{Facts, no_facts, fact_of, with_fact, number, index, has_byte, is_barred, is_field, judged}
use Rattle.class_file.specs.Members.{field_attributes_from, field_at, with_root, fields_from, fields_at, field_bytes}
use Rattle.class_file.specs.Fits.{IsShort, FieldFits}

-- ---- numbers, indices and attributes

pub number_spelled : (n : ℕ) (file : Place) (x : ℕ × Place) → IsBytes file.1 → number n file ≡ Ok x
    → Takes file (big_bytes n x.0) x.1 × (x.0 < 256 ^ n)
number_spelled n file x fits e = number_takes n file x fits (placed_ok of_cut (number_at n file) x e)

pub index_spelled : (pool : Slots) (tag : Tag) (file : Place) (x : ℕ × Place) → IsBytes file.1
    → index pool tag file ≡ Ok x → Takes file (big_bytes 2 x.0) x.1
index_spelled pool tag file x fits e = (index_taken pool tag file x fits (placed_ok of_item (index_at pool tag file) x e)).0

pub attribute_spelled : (pool : Slots) (file : Place) (x : Attribute × Place) → IsBytes file.1
    → placed of_item (attribute_at pool file) ≡ Ok x
    → Takes file (attribute_bytes x.0) x.1 × IsShort x.0
attribute_spelled pool file x fits e = attribute_taken pool file x fits (placed_ok of_item (attribute_at pool file) x e)

-- ---- steps that did not fail

pub bind_then : {A B E P : Type 0} (r : Result A E) (f : A → Result B E) (y : B) → (r >>= f) ≡ Ok y
    → ((x : A) → r ≡ Ok x → f x ≡ Ok y → P) → P
bind_then (Ok x) f y e next = next x refl e
bind_then (Err d) f y e next = absurd cc

pub ok_then : {A : Type 0} (P : A → Type 0) (x y : A) → done ClassRefusal x ≡ done ClassRefusal y → P x → P y
ok_then P x y e p = subst P (ok_is ClassRefusal x y e) p

-- ---- many values, of which each is read as those before it say

module _ {X : Type 0} (P : X → Type 0) (bytes : X → List ℕ) where
  pub none_spelled : (file : Place) → IsBytes file.1 → AreTaken P bytes 0 file ([], file)
  none_spelled file fits = record {
    takes = takes_none file fits;
    count = refl;
    each = All-nil P;
  }

  pub one_more : (count : ℕ) (file : Place) (first : X × Place) (others : List X × Place)
      → Takes file (bytes first.0) first.1 × P first.0
      → AreTaken P bytes count first.1 others
      → AreTaken P bytes (suc count) file (first.0 ∷ others.0, others.1)
  one_more count file first others p q = record {
    takes = subst (λ (text : List ℕ). Takes file text others.1) (sym (flat_map-cons bytes first.0 others.0)) (Takes-then file (bytes first.0) first.1 (flat_map bytes others.0) others.1 p.0 q.takes);
    count = ap suc q.count;
    each = All-cons P first.0 others.0 p.1 q.each;
  }

-- their count, and each of them
pub record Counted {X : Type 0} (P : X → Type 0) (bytes : X → List ℕ) (file : Place) (x : List X × Place) : Type 0 where
  pub takes : Takes file (big_bytes 2 (length x.0) ++ flat_map bytes x.0) x.1
  pub count : length x.0 < 2 ^ 16
  pub each : All P x.0

pub counted : {X : Type 0} (P : X → Type 0) (bytes : X → List ℕ) (file : Place) (count : ℕ × Place) (x : List X × Place)
    → Takes file (big_bytes 2 count.0) count.1 × (count.0 < 256 ^ 2) → AreTaken P bytes count.0 count.1 x
    → Counted P bytes file x
counted P bytes file count x p q =
    let same : Takes file (big_bytes 2 (length x.0)) count.1 = subst (λ (n : ℕ). Takes file (big_bytes 2 n) count.1) (sym q.count) p.0 in
    record {
      takes = Takes-then file (big_bytes 2 (length x.0)) count.1 (flat_map bytes x.0) x.1 same q.takes;
      count = omega (arith, p.1, q.count);
      each = q.each;
    }

-- ---- fields

field_attributes_spelled : (pool : Slots) (count : ℕ) (facts : Facts) (file : Place) (x : (List Attribute × Facts) × Place) → IsBytes file.1
    → field_attributes_from pool count facts file ≡ Ok x
    → AreTaken IsShort attribute_bytes count file (x.0.0, x.1)
unfolding field_attributes_from
field_attributes_spelled pool zero facts file x fits e =
    ok_then (λ y. AreTaken IsShort attribute_bytes 0 file (y.0.0, y.1)) (([], facts), file) x e (none_spelled IsShort attribute_bytes file fits)
field_attributes_spelled pool (suc count) facts file x fits e =
    bind_then (placed of_item (attribute_at pool file)) _ x e (λ a is_a then_a.
    bind_then (fact_of pool file.0 a.0) _ x then_a (λ fact is_fact then_fact.
    bind_then (field_attributes_from pool count (with_fact facts fact) a.1) _ x then_fact (λ others is_others ends.
    let p = attribute_spelled pool file a fits is_a in
    let q = field_attributes_spelled pool count (with_fact facts fact) a.1 others p.0.rest_fits is_others in
    ok_then (λ y. AreTaken IsShort attribute_bytes (suc count) file (y.0.0, y.1)) ((a.0 ∷ others.0.0, others.0.1), others.1) x ends
    (one_more IsShort attribute_bytes count file a (others.0.0, others.1) p q))))

abbrev FieldTaken : Place → Field × Place → Type 0
FieldTaken file x = Takes file (field_bytes x.0) x.1 × FieldFits x.0

-- the numbers before the attributes of a field or a method
pub member_head : (file access name descriptor after : Place) (a n d : ℕ) (text : List ℕ)
    → Takes file (big_bytes 2 a) access → Takes access (big_bytes 2 n) name
    → Takes name (big_bytes 2 d) descriptor → Takes descriptor text after
    → Takes file (big_bytes 2 a ++ big_bytes 2 n ++ big_bytes 2 d ++ text) after
member_head file access name descriptor after a n d text p q r s =
    Takes-then file (big_bytes 2 a) access (big_bytes 2 n ++ big_bytes 2 d ++ text) after p
    (Takes-then access (big_bytes 2 n) name (big_bytes 2 d ++ text) after q (Takes-then name (big_bytes 2 d) descriptor text after r s))

field_spelled : (pool : Slots) (roots : List ℕ) (field : ℕ) (file : Place) (x : Field × Place)
    → IsBytes file.1 → field_at pool roots field file ≡ Ok x → FieldTaken file x
unfolding field_at
field_spelled pool roots field file x fits e =
    bind_then (number 2 file) _ x e (λ access is_access then_access.
    bind_then (index pool Utf8 access.1) _ x then_access (λ name is_name then_name.
    bind_then (unless (has_byte is_barred pool name.0) (refusal.BadIndex access.1.0 name.0)) _ x then_name (λ spelled is_spelled then_spelled.
    bind_then (index pool Utf8 name.1) _ x then_spelled (λ descriptor is_descriptor then_descriptor.
    bind_then (unless (not (is_field (kind_at pool descriptor.0))) (refusal.BadDescriptor descriptor.0)) _ x then_descriptor (λ typed is_typed then_typed.
    bind_then (number 2 descriptor.1) _ x then_typed (λ count is_count then_count.
    bind_then (field_attributes_from pool count.0 no_facts count.1) _ x then_count (λ attributes is_attributes then_attributes.
    bind_then (judged pool roots field access.0 name.0 descriptor.0 attributes.0.1) _ x then_attributes (λ constant is_constant ends.
    let p = number_spelled 2 file access fits is_access in
    let q = index_spelled pool Utf8 access.1 name p.0.rest_fits is_name in
    let r = index_spelled pool Utf8 name.1 descriptor q.rest_fits is_descriptor in
    let s = number_spelled 2 descriptor.1 count r.rest_fits is_count in
    let t = field_attributes_spelled pool count.0 no_facts count.1 attributes s.0.rest_fits is_attributes in
    let u = counted IsShort attribute_bytes descriptor.1 count (attributes.0.0, attributes.1) s t in
    let v = member_head file access.1 name.1 descriptor.1 attributes.1 access.0 name.0 descriptor.0 (big_bytes 2 (length attributes.0.0) ++ flat_map attribute_bytes attributes.0.0) p.0 q r u.takes in
    ok_then (FieldTaken file) _ x ends (v, record { count = u.count; contents = u.each })))))))))

pub fields_spelled : (pool : Slots) (count : ℕ) (roots : List ℕ) (field : ℕ) (file : Place) (x : List Field × Place) → IsBytes file.1
    → fields_from pool roots field count file ≡ Ok x → AreTaken FieldFits field_bytes count file x
unfolding fields_from
fields_spelled pool zero roots field file x fits e = ok_then (AreTaken FieldFits field_bytes 0 file) ([], file) x e (none_spelled FieldFits field_bytes file fits)
fields_spelled pool (suc count) roots field file x fits e =
    bind_then (field_at pool roots field file) _ x e (λ first is_first then_first.
    bind_then (fields_from pool (with_root roots first.0) (field + 1) count first.1) _ x then_first (λ others is_others ends.
    let p = field_spelled pool roots field file first fits is_first in
    let q = fields_spelled pool count (with_root roots first.0) (field + 1) first.1 others p.0.rest_fits is_others in
    ok_then (AreTaken FieldFits field_bytes (suc count) file) (first.0 ∷ others.0, others.1) x ends (one_more FieldFits field_bytes count file first others p q)))

pub all_fields_spelled : (pool : Slots) (file : Place) (x : List Field × Place) → IsBytes file.1
    → fields_at pool file ≡ Ok x → Counted FieldFits field_bytes file x
unfolding fields_at
all_fields_spelled pool file x fits e =
    bind_then (number 2 file) _ x e (λ count is_count ends.
    let p = number_spelled 2 file count fits is_count in
    counted FieldFits field_bytes file count x p (fields_spelled pool count.0 [] 0 count.1 x p.0.rest_fits ends))
