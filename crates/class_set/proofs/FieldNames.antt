-- The names of fields are of bytes, and their kinds are those of fields.
use Rattle.std.proofs.Common.{◌≡◌, ℕ, zero, suc, ◌-◌, ◌<◌, Bool, true, ◌&&◌, nat_lt, List, [], ◌∷◌, Option, Some, None, map}
use Rattle.std.proofs.Common.{filter, length, slice_index_or, refl, subst, reverse, arith}
use Rattle.std.specs.Prelude.{All, slice_get}
use Rattle.std.specs.List.{flat_map}
use Rattle.std.proofs.lemmas.Bool.Decides.{nat_tests}
use Rattle.std.proofs.lemmas.List.Elements.{All-append, All-cons, All-filter, All-head, All-map, All-nil, All-tail, All-weaker}
use Rattle.ap_base.specs.declared.kind.Kind.{Kind}
use Rattle.ap_base.specs.declared.kind.Kind.TheVariants.{Text}
use Rattle.class_file.specs.declared.class.ClassFile.{ClassFile}
use Rattle.class_file.specs.Classes.{CanBeRead}
use Rattle.plain_model.specs.Consistent.{IsFieldKind}
use Rattle.image_meaning.specs.Entries.{AreBytes, IsField}
use Rattle.built_in_table.specs.Members.{BuiltInClass, MemberFacts, built_in_at, built_in_members, with_methods}
use Rattle.class_set.specs.Members.{field_facts, is_of_instance, kind_of, layout_above, layout_field, layout_of_fields}
use Rattle.class_set.specs.Members.{layout_of_file, own_fields, own_layout, super_number, superclasses_of}
use Rattle.class_set.proofs.FieldPlaces.{both_true}
use Rattle.class_set.proofs.FieldsRead.{IsSound, class_sound}
use Rattle.class_set.proofs.Program.{field_kind}
use Rattle.class_set.proofs.TextBytes.{text_has, texts_of_bytes}

-- ---- by a test

unfoldable pub bytes_fit : List ℕ → Bool
bytes_fit [] = true
bytes_fit (b ∷ bs) = nat_lt b 256 && bytes_fit bs

pub fit_bytes : (bs : List ℕ) → bytes_fit bs ≡ true → AreBytes bs
unfolding bytes_fit
fit_bytes [] h = tt
fit_bytes (b ∷ bs) h =
    let both = both_true (nat_lt b 256) (bytes_fit bs) h in
    (byte both.0, fit_bytes bs both.1)
  where
    byte : nat_lt b 256 ≡ true → b < 256
    byte test = grind (arith, nat_tests)

abbrev HaveByteNames : List MemberFacts → Type 0
HaveByteNames ms = All (λ (m : MemberFacts). AreBytes m.name) ms

members_fit : List MemberFacts → Bool
members_fit [] = true
members_fit (m ∷ ms) = bytes_fit m.name && members_fit ms

fit_members : (ms : List MemberFacts) → members_fit ms ≡ true → HaveByteNames ms
unfolding members_fit
fit_members [] h = All-nil (λ (m : MemberFacts). AreBytes m.name)
fit_members (m ∷ ms) h =
    let both = both_true (bytes_fit m.name) (members_fit ms) h in
    All-cons (λ (n : MemberFacts). AreBytes n.name) m ms (fit_bytes m.name both.0) (fit_members ms both.1)

classes_fit : List BuiltInClass → Bool
classes_fit [] = true
classes_fit (c ∷ cs) = members_fit c.fields && classes_fit cs

built_ins_fit : classes_fit built_in_members ≡ true
unfolding classes_fit members_fit bytes_fit built_in_members
built_ins_fit = refl

fit_at : (cs : List BuiltInClass) (k : ℕ) → classes_fit cs ≡ true → members_fit (slice_index_or cs k (with_methods [])).fields ≡ true
unfolding classes_fit members_fit
fit_at [] k h = refl
fit_at (c ∷ cs) zero h = (both_true (members_fit c.fields) (classes_fit cs) h).0
fit_at (c ∷ cs) (suc k) h = fit_at cs k (both_true (members_fit c.fields) (classes_fit cs) h).1

-- ---- own fields

fields_named : (c : ClassFile) → IsSound c → HaveByteNames (map (field_facts c.pool) c.fields)
fields_named c h =
    All-map (λ (m : MemberFacts). AreBytes m.name) (field_facts c.pool) c.fields
    (λ k d l. text_has AreBytes c.pool tt (texts_of_bytes c.pool h.texts) (slice_index_or c.fields k d).name)

file_named : (files : List ClassFile) (n first : ℕ) → All CanBeRead files
    → HaveByteNames (elim (slice_get files n) as (λ x. List MemberFacts) [ None ↦ (built_in_at first).fields | Some c ↦ map (field_facts c.pool) c.fields ])
file_named [] n first h = fit_members (built_in_at first).fields (fit_at built_in_members first built_ins_fit)
file_named (c ∷ cs) zero first h = fields_named c (class_sound c (All-head CanBeRead c cs h))
file_named (c ∷ cs) (suc n) first h = file_named cs n first (All-tail CanBeRead c cs h)

own_named : (files : List ClassFile) (n : ℕ) → All CanBeRead files → HaveByteNames (own_fields files n)
own_named files n h = file_named files n (n - length files) h

-- ---- layouts

no_text : (k : Kind) → IsFieldKind k → k ≡ Text → ⊥
no_text k h e = subst IsFieldKind e h

member_field : (m : MemberFacts) → AreBytes m.name → IsField (layout_field m)
member_field m h = record { name = h; kind = no_text (kind_of m.descriptor) (field_kind m.descriptor); kept = refl }

members_fields : (ms : List MemberFacts) → HaveByteNames ms → All IsField (layout_of_fields ms)
members_fields ms h =
    All-map IsField layout_field (filter is_of_instance ms)
    (All-weaker (λ (m : MemberFacts). AreBytes m.name) (λ (m : MemberFacts). IsField (layout_field m)) member_field (filter is_of_instance ms)
    (All-filter is_of_instance (λ (m : MemberFacts). AreBytes m.name) ms h))

layers_fields : (files : List ClassFile) (ns : List ℕ) → All CanBeRead files → All IsField (flat_map (own_layout files) ns)
layers_fields files [] h = All-nil IsField
layers_fields files (n ∷ ns) h =
    All-append IsField (own_layout files n) (flat_map (own_layout files) ns) (members_fields (own_fields files n) (own_named files n h))
    (layers_fields files ns h)

above_fields : (files : List ClassFile) (o : Option ℕ) → All CanBeRead files → All IsField (layout_above files o)
above_fields files None h = All-nil IsField
above_fields files (Some s) h = layers_fields files (reverse (superclasses_of files s)) h

pub file_fields : (files : List ClassFile) (c : ClassFile) → All CanBeRead files → IsSound c → All IsField (layout_of_file files c)
file_fields files c h sound =
    All-append IsField (layout_above files (super_number files c)) (layout_of_fields (map (field_facts c.pool) c.fields))
    (above_fields files (super_number files c) h) (members_fields (map (field_facts c.pool) c.fields) (fields_named c sound))
