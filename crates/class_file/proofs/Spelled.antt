-- A class file that is read is spelled so, each byte of it.
use Rattle.std.proofs.Common.{◌≡◌, ℕ, ◌≤◌, not, ltb, false, ◌&&◌, List, [], ◌++◌, length, drop, Ok, refl, sym, ap, ◌∙◌}
use Rattle.std.proofs.Common.{append_assoc, arith}
use Rattle.std.specs.Prelude.{◌==◌}
use Rattle.std.specs.List.{flat_map}
use Rattle.std.proofs.lemmas.Bool.{ltb-false}
use Rattle.std.proofs.lemmas.Bool.Decides.{nat_tests}
use Rattle.std.proofs.lemmas.List.{append-nil, nil_from_length, drop_at}
use Rattle.byteorder.specs.Endian.{big_bytes}
use Rattle.const_pool.specs.declared.entry.Tag.TheVariants.{Class}
use Rattle.parsing.specs.Bytes.{IsBytes}
use Rattle.const_pool.specs.Pool.{Slots, spelling, class_name_at}
use Rattle.parsing.specs.Places.{Place}
use Rattle.const_pool.specs.Reading.{pool_in}
use Rattle.parsing.proofs.Fields.{Takes, Takes-then}
use Rattle.parsing.proofs.Numbers.{IsBytes-drop}
use Rattle.const_pool.proofs.Pools.{pool_stands}
use Rattle.parsing.specs.Results.{placed, unless}
use Rattle.class_items.specs.Items.{attributes_at, attributes_bytes}
use Rattle.parsing.proofs.Steps.{unless_ok}
use Rattle.parsing.proofs.Steps.{placed_ok}
use Rattle.parsing.proofs.Many.{many_taken}
use Rattle.class_items.proofs.Taken.{attributes_taken}
use Rattle.class_file.specs.declared.class.ClassFile.{ClassFile}
use Rattle.class_file.specs.declared.refusal.ClassRefusal.TheVariants as refusal
use Rattle.class_file.specs.Refusals.{of_item, of_pool}
use Rattle.class_file.specs.Members.{number, index, fields_at, methods_at, field_bytes, method_bytes}
use Rattle.class_file.specs.Classes.{magic, head_at, is_misnamed, this_at, interfaces_at, behind_at, class_in, head_bytes}
use Rattle.class_file.specs.Classes.{class_bytes}
use Rattle.class_file.specs.Fits.{Fits}
use Rattle.class_file.proofs.SpelledFields.{bind_then, ok_then, number_spelled, index_spelled, member_head, Counted, counted}
use Rattle.class_file.proofs.SpelledFields.{all_fields_spelled}
use Rattle.class_file.proofs.SpelledMethods.{all_methods_spelled}

-- ---- the head

this_spelled : (pool : Slots) (file : Place) (x : ℕ × Place) → IsBytes file.1 → this_at pool file ≡ Ok x
    → Takes file (big_bytes 2 x.0) x.1
unfolding this_at
this_spelled pool file x fits e =
    bind_then (index pool Class file) _ x e (λ this is_this then_this.
    bind_then (unless (is_misnamed (class_name_at pool this.0)) (refusal.BadIndex file.0 this.0)) _ x then_this (λ named is_named ends.
    ok_then (λ y. Takes file (big_bytes 2 y.0) y.1) this x ends (index_spelled pool Class file this fits is_this)))

interfaces_spelled : (pool : Slots) (file : Place) (x : List ℕ × Place) → IsBytes file.1
    → interfaces_at pool file ≡ Ok x → Counted (λ i. Unit {0}) (big_bytes 2) file x
unfolding interfaces_at
interfaces_spelled pool file x fits e =
    bind_then (number 2 file) _ x e (λ count is_count ends.
    let p = number_spelled 2 file count fits is_count in
    let one : (left : Place) (y : ℕ × Place) → IsBytes left.1 → index pool Class left ≡ Ok y → Takes left (big_bytes 2 y.0)
    y.1 × Unit {0} = λ left y are_bytes given. (index_spelled pool Class left y are_bytes given, tt) in
    counted (λ i. Unit {0}) (big_bytes 2) file count x p (many_taken (λ i. Unit {0}) (big_bytes 2) (index pool Class) one count.0 count.1 x p.0.rest_fits ends))

is_equal : (a b : ℕ) → not (a == b) ≡ false → a ≡ b
is_equal a b e = grind (arith, nat_tests)

are_equal : (a b x y : ℕ) → not (a == x && b == y) ≡ false → (a ≡ x) × (b ≡ y)
are_equal a b x y e = let p : a ≡ x = grind (arith, nat_tests) in let q : b ≡ y = grind (arith, nat_tests) in (p, q)

head_stands : (bytes : List ℕ) (first minor major : ℕ) (p q r : Place) → first ≡ magic → minor ≡ 0
    → major ≡ 52 → Takes (0, bytes) (big_bytes 4 first) p → Takes p (big_bytes 2 minor) q
    → Takes q (big_bytes 2 major) r → bytes ≡ head_bytes ++ drop 8 bytes
head_stands bytes first minor major p q r is_magic is_minor is_major s t u =
    let whole = Takes-then (0, bytes) (big_bytes 4 first) p (big_bytes 2 minor ++ big_bytes 2 major) r s (Takes-then p (big_bytes 2 minor) q (big_bytes 2 major) r t u) in
    let text : big_bytes 4 first ++ (big_bytes 2 minor ++ big_bytes 2 major) ≡ head_bytes = rw (is_magic, is_minor, is_major) refl in
    let parts : bytes ≡ head_bytes ++ r.1 = whole.parts ∙ ap (λ (front : List ℕ). front ++ r.1) text in
    let rest : drop 8 bytes ≡ r.1 = ap (drop 8) parts ∙ drop_at head_bytes r.1 8 refl in
    parts ∙ ap (λ (t : List ℕ). head_bytes ++ t) (sym rest)

head_spelled : (bytes : List ℕ) (x : Place) → IsBytes bytes → head_at (0, bytes) ≡ Ok x
    → bytes ≡ head_bytes ++ drop 8 bytes
unfolding head_at
head_spelled bytes x fits e =
    bind_then (number 4 (0, bytes)) _ x e (λ first is_first then_first.
    bind_then (unless (not (first.0 == magic)) refusal.BadMagic) _ x then_first (λ right is_right then_right.
    bind_then (number 2 first.1) _ x then_right (λ minor is_minor then_minor.
    bind_then (number 2 minor.1) _ x then_minor (λ major is_major then_major.
    bind_then (unless (not (major.0 == 52 && minor.0 == 0)) (refusal.BadVersion major.0 minor.0)) _ x then_major (λ known is_known ends.
    let p = number_spelled 4 (0, bytes) first fits is_first in
    let q = number_spelled 2 first.1 minor p.0.rest_fits is_minor in
    let r = number_spelled 2 minor.1 major q.0.rest_fits is_major in
    let begins = is_equal first.0 magic (unless_ok (not (first.0 == magic)) refusal.BadMagic tt right is_right).0 in
    let version = are_equal major.0 minor.0 52 0 (unless_ok (not (major.0 == 52 && minor.0 == 0)) (refusal.BadVersion major.0 minor.0) tt known is_known).0 in
    head_stands bytes first.0 minor.0 major.0 first.1 minor.1 major.1 begins version.1 version.0 p.0 q.0 r.0)))))

-- ---- what stands behind the pool

abbrev behind_bytes : ClassFile → List ℕ
behind_bytes c =
    big_bytes 2 c.access ++ big_bytes 2 c.this_class ++ big_bytes 2 c.super_class
    ++ ((big_bytes 2 (length c.interfaces) ++ flat_map (big_bytes 2) c.interfaces)
    ++ ((big_bytes 2 (length c.fields) ++ flat_map field_bytes c.fields)
    ++ ((big_bytes 2 (length c.methods) ++ flat_map method_bytes c.methods)
    ++ attributes_bytes c.attributes)))

record BehindIsSpelled (pool : Slots) (file : Place) (c : ClassFile) : Type 0 where
  bytes : file.1 ≡ behind_bytes c
  same_pool : c.pool ≡ pool
  fits : Fits c

-- all of the file was taken
all_taken : (file : Place) (text : List ℕ) (after : Place) → Takes file text after → length after.1 ≤ 0
    → file.1 ≡ text
all_taken file text after t ended =
    let none : after.1 ≡ [] = nil_from_length after.1 (omega arith) in
    t.parts ∙ ap (λ (rest : List ℕ). text ++ rest) none ∙ append-nil text

behind_spelled : (pool : Slots) (file : Place) (c : ClassFile) → IsBytes file.1 → behind_at pool file ≡ Ok c
    → BehindIsSpelled pool file c
unfolding behind_at
behind_spelled pool file c fits e =
    bind_then (number 2 file) _ c e (λ access is_access then_access.
    bind_then (this_at pool access.1) _ c then_access (λ this is_this then_this.
    bind_then (index pool Class this.1) _ c then_this (λ super is_super then_super.
    bind_then (interfaces_at pool super.1) _ c then_super (λ interfaces are_interfaces then_interfaces.
    bind_then (fields_at pool interfaces.1) _ c then_interfaces (λ fields are_fields then_fields.
    bind_then (methods_at pool fields.1) _ c then_fields (λ methods are_methods then_methods.
    bind_then (placed of_item (attributes_at pool methods.1)) _ c then_methods (λ attributes are_attributes then_attributes.
    bind_then (unless (ltb 0 (length attributes.1.1)) (refusal.TrailingBytes attributes.1.0)) _ c then_attributes (λ ended is_ended ends.
    let p = number_spelled 2 file access fits is_access in
    let q = this_spelled pool access.1 this p.0.rest_fits is_this in
    let r = index_spelled pool Class this.1 super q.rest_fits is_super in
    let i = interfaces_spelled pool super.1 interfaces r.rest_fits are_interfaces in
    let f = all_fields_spelled pool interfaces.1 fields i.takes.rest_fits are_fields in
    let m = all_methods_spelled pool fields.1 methods f.takes.rest_fits are_methods in
    let a = attributes_taken pool methods.1 attributes m.takes.rest_fits (placed_ok of_item (attributes_at pool methods.1) attributes are_attributes) in
    let to_methods = Takes-then fields.1 (big_bytes 2 (length methods.0) ++ flat_map method_bytes methods.0) methods.1 (attributes_bytes attributes.0) attributes.1 m.takes a.takes in
    let to_fields = Takes-then interfaces.1 (big_bytes 2 (length fields.0) ++ flat_map field_bytes fields.0) fields.1 _ attributes.1 f.takes to_methods in
    let to_interfaces = Takes-then super.1 (big_bytes 2 (length interfaces.0) ++ flat_map (big_bytes 2) interfaces.0) interfaces.1 _ attributes.1 i.takes to_fields in
    let whole = member_head file access.1 this.1 super.1 attributes.1 access.0 this.0 super.0 _ p.0 q r to_interfaces in
    let left : length attributes.1.1 ≤ 0 = ltb-false 0 (length attributes.1.1) (unless_ok (ltb 0 (length attributes.1.1)) (refusal.TrailingBytes attributes.1.0) tt ended is_ended).0 in
    ok_then (BehindIsSpelled pool file) _ c ends (record {
      bytes = all_taken file _ attributes.1 whole left;
      same_pool = refl;
      fits = record {
        interface_count = i.count;
        field_count = f.count;
        fields = f.each;
        method_count = m.count;
        methods = m.each;
        attribute_count = a.count;
        contents = a.sizes;
      };
    })))))))))

-- ---- the file

pub in_parts : (c : ClassFile) → class_bytes c ≡ head_bytes ++ (spelling c.pool ++ behind_bytes c)
in_parts c = simp append_assoc

pub class_spelled : (bytes : List ℕ) (c : ClassFile) → IsBytes bytes → class_in bytes ≡ Ok c
    → (bytes ≡ class_bytes c) × Fits c
unfolding class_in
class_spelled bytes c fits e =
    bind_then (head_at (0, bytes)) _ c e (λ head is_head then_head.
    bind_then (placed of_pool (pool_in bytes)) _ c then_head (λ pool is_pool ends.
    let h = head_spelled bytes head fits is_head in
    let s = pool_stands bytes pool fits (placed_ok of_pool (pool_in bytes) pool is_pool) in
    let b = behind_spelled pool.0 (pool.1, drop pool.1 bytes) c (IsBytes-drop pool.1 bytes fits) ends in
    let text : drop 8 bytes ≡ spelling c.pool ++ behind_bytes c =
    s.parts ∙ ap (λ (rest : List ℕ). spelling pool.0 ++ rest) b.bytes ∙ ap (λ (p : Slots). spelling p ++ behind_bytes c) (sym b.same_pool) in
    (h ∙ ap (λ (rest : List ℕ). head_bytes ++ rest) text ∙ sym (in_parts c), b.fits)))
