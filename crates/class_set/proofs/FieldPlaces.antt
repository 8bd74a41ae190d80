-- The slots and the numbers of fields.
use Rattle.std.proofs.Common.{◌≡◌, ℕ, zero, suc, ◌+◌, ◌-◌, ◌*◌, ◌<◌, ◌≤◌, Bool, true, false, ◌&&◌, nat_lt, List, [], ◌∷◌}
use Rattle.std.proofs.Common.{Option, Some, None, map, length, filter, take, slice_index_or, refl, ap, sym, ◌∙◌, arith, subst}
use Rattle.std.proofs.Common.{reverse, if◌then◌else◌}
use Rattle.std.specs.Prelude.{All, slice_get, sum_by}
use Rattle.std.specs.List.{flat_map}
use Rattle.std.specs.Str.{bytes_eq}
use Rattle.std.proofs.lemmas.Bool.{false≢true}
use Rattle.std.proofs.lemmas.Bool.Decides.{nat_tests}
use Rattle.std.proofs.lemmas.List.{length-map, length-append, length-reverse}
use Rattle.std.proofs.lemmas.List.Elements.{All-head, All-tail}
use Rattle.std.proofs.lemmas.List.Filters.{length-filter_both}
use Rattle.std.proofs.lemmas.List.Sums.{sum_by-cons}
use Rattle.std.proofs.lemmas.Slice.Eq.{bytes_eq-Decides}
use Rattle.ap_base.specs.declared.kind.Kind.{Kind}
use Rattle.const_pool.specs.Pool.{Slots}
use Rattle.class_file.specs.declared.class.ClassFile.{ClassFile}
use Rattle.class_file.specs.declared.field.Field.{Field as FileField}
use Rattle.plain_model.specs.BuiltIn.{built_in_count}
use Rattle.built_in_table.specs.Members.{BuiltInClass, MemberFacts, built_in_at, built_in_members, with_methods}
use Rattle.class_set.specs.declared.members.Found.{Found}
use Rattle.class_set.specs.Members.{count_statics, field_facts, first_static, is_of_instance, is_static_member, kind_of}
use Rattle.class_set.specs.Members.{layout_above, layout_field, layout_of_fields, layout_of_file, own_fields, own_layout}
use Rattle.class_set.specs.Members.{super_number, superclasses_of, supers_of}
use Rattle.class_set.specs.Lookups.{field_at, find_member, first_own_slot, first_own_static, is_named, member_from, slot_for}
use Rattle.class_set.specs.Tables.{IsSmall, found_of, placed_field}
use Rattle.class_set.proofs.Chains.{chain_length}

-- ---- what is found

pub both_true : (a b : Bool) → (a && b) ≡ true → (a ≡ true) × (b ≡ true)
both_true true b h = (refl, h)
both_true false b h = absurd (false≢true h)

found_named : (n : ℕ) (ms : List MemberFacts) (name descriptor : List ℕ) (r : ℕ × MemberFacts) → member_from n ms name descriptor ≡ Some r
    → r.1.descriptor ≡ descriptor
found_named n [] name descriptor r h = absurd (cc)
found_named n (m ∷ ms) name descriptor r h =
    elim (is_named name descriptor m) as (λ b. is_named name descriptor m ≡ b → (if b then Some (n, m) else member_from (n + 1) ms name descriptor) ≡ Some r
    → r.1.descriptor ≡ descriptor) [
      | true ↦ λ e f. (let same : (n, m) ≡ r = cc in
          subst (λ (x : ℕ × MemberFacts). x.1.descriptor ≡ descriptor) same
          ((bytes_eq-Decides m.descriptor descriptor).0 (both_true (bytes_eq m.name name) (bytes_eq m.descriptor descriptor) e).1))
      | false ↦ λ e f. found_named (n + 1) ms name descriptor r f
    ] refl h

pub record IsFound (o : Option (ℕ × MemberFacts)) (f : Found) (descriptor : List ℕ) : Type 0 where
  pub member : MemberFacts
  pub at : o ≡ Some (f.place, member)
  pub static : f.is_static ≡ member.is_static
  pub of : member.descriptor ≡ descriptor

is_found : (o : Option (ℕ × MemberFacts)) (f : Found) (descriptor : List ℕ) → ((r : ℕ × MemberFacts) → o ≡ Some r → r.1.descriptor ≡ descriptor)
    → Some f ≡ found_of o → IsFound o f descriptor
is_found None f descriptor named h = absurd (cc)
is_found (Some r) f descriptor named h =
    let same : f ≡ record { place = r.0; is_static = r.1.is_static } = cc in
    record {
      member = r.1;
      at = ap (λ p. Some (p, r.1)) (sym (ap (λ (x : Found). x.place) same));
      static = ap (λ (x : Found). x.is_static) same;
      of = named r refl;
    }

pub found_member : (ms : List MemberFacts) (name descriptor : List ℕ) (f : Found) → Some f ≡ found_of (find_member ms name descriptor)
    → IsFound (find_member ms name descriptor) f descriptor
found_member ms name descriptor f h =
    is_found (find_member ms name descriptor) f descriptor (λ r e. found_named 0 ms name descriptor r e) h

pub placed_is : (class : ℕ) (o : Option (ℕ × MemberFacts)) (f : Found) (descriptor : List ℕ) (kind : Kind) → IsFound o f descriptor
    → kind ≡ kind_of descriptor
    → Some (record { class = class; is_static = f.is_static; at = f.place; kind = kind }) ≡ placed_field class o
placed_is class o f descriptor kind h k = rw (h.at, h.static, k, ← h.of) refl

pub field_is : (files : List ClassFile) (class at : ℕ) (o : Option (ℕ × MemberFacts)) (f : Found) (descriptor : List ℕ) (kind : Kind)
    → IsFound o f descriptor → kind ≡ kind_of descriptor → at ≡ slot_for files class f.place f.is_static
    → Some (record { class = class; is_static = f.is_static; at = at; kind = kind }) ≡ field_at files class o
field_is files class at o f descriptor kind h k e = rw (h.at, e, h.static, k, ← h.of) refl

pub none_found : (o : Option (ℕ × MemberFacts)) → None ≡ found_of o → o ≡ None
none_found None h = refl
none_found (Some r) h = absurd (cc)

-- ---- the fields of a file's class

pub own_of_file : (files : List ClassFile) (n : ℕ) (c : ClassFile) → slice_get files n ≡ Some c → own_fields files n ≡ map (field_facts c.pool) c.fields
own_of_file files n c e = ap (λ (o : Option ClassFile). elim o as (λ x. List MemberFacts)
    [ None ↦ (built_in_at (n - length files)).fields | Some d ↦ map (field_facts d.pool) d.fields ]) e

statics_before : (pool : Slots) (fields : List FileField) (place : ℕ)
    → count_statics (take place (map (field_facts pool) fields)) ≡ length (filter (λ (f : FileField). is_static_member f.access) (take place fields))
statics_before pool fields zero = refl
statics_before pool [] (suc place) = refl
statics_before pool (f ∷ fs) (suc place) =
    elim (is_static_member f.access) as (λ b. length (if b then field_facts pool f ∷ filter (λ (m : MemberFacts). m.is_static) (take place (map (field_facts pool) fs))
    else filter (λ (m : MemberFacts). m.is_static) (take place (map (field_facts pool) fs)))
    ≡ length (if b then f ∷ filter (λ (g : FileField). is_static_member g.access) (take place fs) else filter (λ (g : FileField). is_static_member g.access) (take place fs)))
    [ true ↦ ap suc (statics_before pool fs place) | false ↦ statics_before pool fs place ]

instances_and_statics : (ms : List MemberFacts) → count_statics ms + length (filter is_of_instance ms) ≡ length ms
instances_and_statics ms = length-filter_both (λ (m : MemberFacts). m.is_static) is_of_instance (λ m. refl) ms

length-taken : (ms : List MemberFacts) (place : ℕ) → place ≤ length ms → length (take place ms) ≡ place
length-taken ms zero l = refl
length-taken [] (suc place) l = absurd (omega (arith, l))
length-taken (m ∷ ms) (suc place) l = ap suc (length-taken ms place (omega (arith, l)))

pub taken_short : {X : Type 0} (xs : List X) (n : ℕ) → length (take n xs) ≤ n
taken_short xs zero = omega arith
taken_short [] (suc n) = omega arith
taken_short (x ∷ xs) (suc n) = omega (arith, taken_short xs n)

-- the number of a static field at a place
pub static_slot : (files : List ClassFile) (n place : ℕ) (c : ClassFile) → slice_get files n ≡ Some c
    → first_static files n + length (filter (λ (f : FileField). is_static_member f.access) (take place c.fields)) ≡ slot_for files n place true
static_slot files n place c e =
    let first : first_own_static files n ≡ first_static files n =
    ap (λ (o : Option ClassFile). elim o as (λ x. ℕ) [ None ↦ 0 | Some d ↦ first_static files n ]) e in
    let count : count_statics (take place (own_fields files n)) ≡ length (filter (λ (f : FileField). is_static_member f.access) (take place c.fields)) =
    ap (λ ms. count_statics (take place ms)) (own_of_file files n c e) ∙ statics_before c.pool c.fields place in
    omega (arith, first, count)

-- the slot of an instance field at a place
pub instance_slot : (files : List ClassFile) (n place first statics : ℕ) (c : ClassFile) → slice_get files n ≡ Some c → place ≤ length c.fields
    → first ≡ first_own_slot files n → statics ≡ length (filter (λ (f : FileField). is_static_member f.access) (take place c.fields))
    → first + (place - statics) ≡ slot_for files n place false
instance_slot files n place first statics c e l f s =
    let ms = take place (own_fields files n) in
    let own = own_of_file files n c e in
    let size : length ms ≡ place = length-taken (own_fields files n) place (omega (arith, l, ap length own, length-map c.fields (field_facts c.pool))) in
    let count : count_statics ms ≡ statics =
    ap (λ xs. count_statics (take place xs)) own ∙ statics_before c.pool c.fields place ∙ sym s in
    omega (arith, f, size, count, instances_and_statics ms)

-- ---- the first slot

whole : {X : Type 0} (xs : List X) → take (length xs) xs ≡ xs
whole [] = refl
whole (x ∷ xs) = ap (λ ys. x ∷ ys) (whole xs)

pub first_is : (files : List ClassFile) (n shape statics : ℕ) (c : ClassFile) → slice_get files n ≡ Some c
    → shape ≡ length (layout_of_file files c) → statics ≡ length (filter (λ (f : FileField). is_static_member f.access) c.fields)
    → shape ≡ first_own_slot files n + (length c.fields - statics)
first_is files n shape statics c e s t =
    let ms = map (field_facts c.pool) c.fields in
    let first : first_own_slot files n ≡ length (layout_above files (super_number files c)) =
    ap (λ (o : Option ClassFile). elim o as (λ x. ℕ) [ None ↦ 0 | Some d ↦ length (layout_above files (super_number files d)) ]) e in
    let parts = length-append (layout_above files (super_number files c)) (layout_of_fields ms) in
    let own : length (layout_of_fields ms) ≡ length (filter is_of_instance ms) = length-map (filter is_of_instance ms) layout_field in
    let count : count_statics ms ≡ statics =
    ap count_statics (sym (whole ms)) ∙ ap (λ k. count_statics (take k ms)) (length-map c.fields (field_facts c.pool))
    ∙ statics_before c.pool c.fields (length c.fields) ∙ ap (λ fs. length (filter (λ (f : FileField). is_static_member f.access) fs)) (whole c.fields) ∙ sym t in
    omega (arith, first, parts, own, count, s, instances_and_statics ms, length-map c.fields (field_facts c.pool))

-- ---- bounds

pub few_filtered : (ms : List MemberFacts) → length (filter is_of_instance ms) ≤ length ms
few_filtered ms = omega (arith, instances_and_statics ms)

fields_short : List BuiltInClass → Bool
fields_short [] = true
fields_short (c ∷ cs) = nat_lt (length c.fields) 65536 && fields_short cs

built_ins_short : fields_short built_in_members ≡ true
unfolding fields_short built_in_members
built_ins_short = refl

short_at : (cs : List BuiltInClass) (k : ℕ) → fields_short cs ≡ true → length (slice_index_or cs k (with_methods [])).fields < 65536
unfolding fields_short
short_at [] k h = omega arith
short_at (c ∷ cs) zero h =
    let l : nat_lt (length c.fields) 65536 ≡ true = (both_true (nat_lt (length c.fields) 65536) (fields_short cs) h).0 in
    grind (arith, nat_tests)
short_at (c ∷ cs) (suc k) h = short_at cs k (both_true (nat_lt (length c.fields) 65536) (fields_short cs) h).1

file_short : (files : List ClassFile) (n first : ℕ) → All IsSmall files
    → length (elim (slice_get files n) as (λ x. List MemberFacts) [ None ↦ (built_in_at (first)).fields | Some c ↦ map (field_facts c.pool) c.fields ]) < 65536
file_short [] n first small = short_at built_in_members first built_ins_short
file_short (c ∷ cs) zero first small = omega (arith, length-map c.fields (field_facts c.pool), (All-head IsSmall c cs small).fields)
file_short (c ∷ cs) (suc n) first small = file_short cs n first (All-tail IsSmall c cs small)

pub own_short : (files : List ClassFile) (n : ℕ) → All IsSmall files → length (own_fields files n) < 65536
own_short files n small = file_short files n (n - length files) small

layers_short : (files : List ClassFile) (ns : List ℕ) → All IsSmall files → length (flat_map (own_layout files) ns) ≤ 65536 * length ns
layers_short files [] small = omega arith
layers_short files (n ∷ ns) small =
    omega (
      arith,
      length-append (own_layout files n) (flat_map (own_layout files) ns),
      layers_short files ns small,
      length-map (filter is_of_instance (own_fields files n)) layout_field,
      few_filtered (own_fields files n),
      own_short files n small,
    )

pub above_short : (files : List ClassFile) (o : Option ℕ) → All IsSmall files → length files ≤ 4096 → length (layout_above files o) ≤ 65536 * 4125
above_short files None small few = omega arith
above_short files (Some s) small few =
    let chain = superclasses_of files s in
    omega (arith, few, layers_short files (reverse chain) small, length-reverse chain, chain_length (supers_of files) (length files + built_in_count) s)

pub first_short : (files : List ClassFile) (n : ℕ) → All IsSmall files → length files ≤ 4096 → first_own_slot files n ≤ 65536 * 4125
first_short files n small few =
    elim (slice_get files n) as (λ o. (elim o as (λ x. ℕ) [ None ↦ 0 | Some c ↦ length (layout_above files (super_number files c)) ]) ≤ 65536 * 4125)
    [ None ↦ omega arith | Some c ↦ above_short files (super_number files c) small few ]

statics_short : (files : List ClassFile) (n : ℕ) → All IsSmall files
    → sum_by (λ (c : ClassFile). count_statics (map (field_facts c.pool) c.fields)) (take n files) ≤ 65536 * n
statics_short files zero small = omega arith
statics_short [] (suc n) small = omega arith
statics_short (c ∷ cs) (suc n) small =
    let ms = map (field_facts c.pool) c.fields in
    let g = λ (d : ClassFile). count_statics (map (field_facts d.pool) d.fields) in
    let step = sum_by-cons g c (take n cs) in
    omega (arith, step, statics_short cs n (All-tail IsSmall c cs small), instances_and_statics ms, length-map c.fields (field_facts c.pool), (All-head IsSmall c cs small).fields)

pub first_static_short : (files : List ClassFile) (n : ℕ) → All IsSmall files → first_static files n ≤ 1 + 65536 * n
first_static_short files n small = omega (arith, statics_short files n small)
