-- The fields of the built-in classes: those of one class are all static, or none is.
use Rattle.std.proofs.Common.{◌≡◌, ℕ, zero, suc, ◌+◌, ◌-◌, ◌<◌, ◌≤◌, Bool, true, false, not, ◌&&◌, ◌||◌, List, [], ◌∷◌, Option}
use Rattle.std.proofs.Common.{Some, None, map, length, filter, take, slice_index_or, refl, ap, sym, ◌∙◌, arith, subst}
use Rattle.std.proofs.Common.{if◌then◌else◌, inl, inr}
use Rattle.std.specs.Prelude.{slice_get}
use Rattle.std.specs.List.{list_all}
use Rattle.std.proofs.lemmas.Bool.{false≢true, or_cases}
use Rattle.std.proofs.lemmas.Option.{slice_get_past}
use Rattle.class_file.specs.declared.class.ClassFile.{ClassFile}
use Rattle.built_in_table.specs.declared.built_in.BuiltIn.{BuiltIn as Row}
use Rattle.built_in_table.specs.Members.{BuiltInClass, MemberFacts, built_in_at, built_in_members, with_methods}
use Rattle.built_in_table.specs.Rows.{member_facts, row_members}
use Rattle.class_set.specs.Members.{field_facts, is_of_instance, kind_of, own_fields}
use Rattle.class_set.specs.Lookups.{field_at, find_member, first_own_slot, first_own_static, is_named, member_from, slot_for}
use Rattle.class_set.specs.Tables.{placed_field}
use Rattle.class_set.proofs.FieldPlaces.{both_true}

abbrev alike : List MemberFacts → Bool
alike ms = list_all (λ (m : MemberFacts). m.is_static) ms || list_all is_of_instance ms

all_alike : List BuiltInClass → Bool
all_alike [] = true
all_alike (c ∷ cs) = alike c.fields && all_alike cs

built_ins_alike : all_alike built_in_members ≡ true
unfolding all_alike built_in_members
built_ins_alike = refl

alike_at : (cs : List BuiltInClass) (k : ℕ) → all_alike cs ≡ true → alike (slice_index_or cs k (with_methods [])).fields ≡ true
unfolding all_alike
alike_at [] k h = refl
alike_at (c ∷ cs) zero h = (both_true (alike c.fields) (all_alike cs) h).0
alike_at (c ∷ cs) (suc k) h = alike_at cs k (both_true (alike c.fields) (all_alike cs) h).1

pub record IsIn (p : MemberFacts → Bool) (n : ℕ) (ms : List MemberFacts) (r : ℕ × MemberFacts) : Type 0 where
  pub from : n ≤ r.0
  pub to : r.0 < n + length ms
  pub passes : p r.1 ≡ true

pub found_in : (p : MemberFacts → Bool) (n : ℕ) (ms : List MemberFacts) (name descriptor : List ℕ) (r : ℕ × MemberFacts) → list_all p ms ≡ true
    → member_from n ms name descriptor ≡ Some r → IsIn p n ms r
found_in p n [] name descriptor r all h = absurd (cc)
found_in p n (m ∷ ms) name descriptor r all h =
    let both = both_true (p m) (list_all p ms) all in
    elim (is_named name descriptor m) as (λ b. (if b then Some (n, m) else member_from (n + 1) ms name descriptor) ≡ Some r → IsIn p n (m ∷ ms) r) [
      | true ↦ λ f. (let same : (n, m) ≡ r = cc in
          subst (IsIn p n (m ∷ ms)) same (record { from = omega arith; to = omega arith; passes = both.0 }))
      | false ↦ λ f. (let rest = found_in p (n + 1) ms name descriptor r both.1 f in
          record { from = omega (arith, rest.from); to = omega (arith, rest.to); passes = rest.passes })
    ] h

all_pass : (p : MemberFacts → Bool) (ms : List MemberFacts) (place : ℕ) → list_all p ms ≡ true → place ≤ length ms
    → length (filter p (take place ms)) ≡ place
all_pass p ms zero all l = refl
all_pass p [] (suc place) all l = absurd (omega (arith, l))
all_pass p (m ∷ ms) (suc place) all l =
    let both = both_true (p m) (list_all p ms) all in
    ap (λ b. length (if b then m ∷ filter p (take place ms) else filter p (take place ms))) both.0
    ∙ ap suc (all_pass p ms place both.1 (omega (arith, l)))

not_true : (b : Bool) → not b ≡ true → b ≡ false
not_true true h = absurd (false≢true h)
not_true false h = refl

first_none : (files : List ClassFile) (n : ℕ) → slice_get files n ≡ None → (first_own_slot files n ≡ 0) × (first_own_static files n ≡ 0)
first_none files n e = (rw (e, first_own_slot) refl, rw (e, first_own_static) refl)

static_placed : (files : List ClassFile) (n place : ℕ) → slice_get files n ≡ None → list_all (λ (m : MemberFacts). m.is_static) (own_fields files n) ≡ true
    → place ≤ length (own_fields files n) → place ≡ slot_for files n place true
static_placed files n place e all l =
    omega (arith, (first_none files n e).1, all_pass (λ (m : MemberFacts). m.is_static) (own_fields files n) place all l)

instance_placed : (files : List ClassFile) (n place : ℕ) → slice_get files n ≡ None → list_all is_of_instance (own_fields files n) ≡ true
    → place ≤ length (own_fields files n) → place ≡ slot_for files n place false
instance_placed files n place e all l =
    omega (arith, (first_none files n e).0, all_pass is_of_instance (own_fields files n) place all l)

placed : (files : List ClassFile) (n : ℕ) (name descriptor : List ℕ) (r : ℕ × MemberFacts) → slice_get files n ≡ None → alike (own_fields files n) ≡ true
    → find_member (own_fields files n) name descriptor ≡ Some r → r.0 ≡ slot_for files n r.0 r.1.is_static
placed files n name descriptor r e h f =
    let ms = own_fields files n in
    elim (or_cases (list_all (λ (m : MemberFacts). m.is_static) ms) (list_all is_of_instance ms) h) [
      | inl all ↦ (let i = found_in (λ (m : MemberFacts). m.is_static) 0 ms name descriptor r all f in
          static_placed files n r.0 e all (omega (arith, i.to)) ∙ ap (slot_for files n r.0) (sym i.passes))
      | inr all ↦ (let i = found_in is_of_instance 0 ms name descriptor r all f in
          instance_placed files n r.0 e all (omega (arith, i.to)) ∙ ap (slot_for files n r.0) (sym (not_true r.1.is_static i.passes)))
    ]

same_field : (files : List ClassFile) (n : ℕ) (o : Option (ℕ × MemberFacts)) → ((r : ℕ × MemberFacts) → o ≡ Some r → r.0 ≡ slot_for files n r.0 r.1.is_static)
    → placed_field n o ≡ field_at files n o
same_field files n None h = refl
same_field files n (Some r) h =
    ap (λ at. Some (record { class = n; is_static = r.1.is_static; at = at; kind = kind_of r.1.descriptor })) (h r refl)

-- a row of the table stands behind the files
pub own_of_row : (files : List ClassFile) (n : ℕ) (rows : List Row) (row : Row) → map row_members rows ≡ built_in_members → length files ≤ n
    → slice_get rows (n - length files) ≡ Some row → own_fields files n ≡ map member_facts row.fields.now
own_of_row files n rows row same past at =
    ap (λ (o : Option ClassFile). elim o as (λ x. List MemberFacts)
    [ None ↦ (built_in_at (n - length files)).fields | Some c ↦ map (field_facts c.pool) c.fields ]) (slice_get_past files n past)
    ∙ ap (λ cs. (slice_index_or cs (n - length files) (with_methods [])).fields) (sym same)
    ∙ row_fields rows (n - length files) row at
  where
    row_fields : (rows : List Row) (k : ℕ) (row : Row) → slice_get rows k ≡ Some row
        → (slice_index_or (map row_members rows) k (with_methods [])).fields ≡ map member_facts row.fields.now
    row_fields [] k row h = absurd (cc)
    row_fields (r ∷ rs) zero row h = (let same : r ≡ row = cc in ap (λ (x : Row). map member_facts x.fields.now) same)
    row_fields (r ∷ rs) (suc k) row h = row_fields rs k row h

pub own_behind : (files : List ClassFile) (n : ℕ) → length files ≤ n → own_fields files n ≡ (built_in_at (n - length files)).fields
own_behind files n past = ap (λ (o : Option ClassFile). elim o as (λ x. List MemberFacts)
    [ None ↦ (built_in_at (n - length files)).fields | Some c ↦ map (field_facts c.pool) c.fields ]) (slice_get_past files n past)

pub built_in_is : (files : List ClassFile) (n : ℕ) (name descriptor : List ℕ) → length files ≤ n
    → placed_field n (find_member (own_fields files n) name descriptor) ≡ field_at files n (find_member (own_fields files n) name descriptor)
built_in_is files n name descriptor past =
    let none = slice_get_past files n past in
    let same : alike (own_fields files n) ≡ true = ap alike (own_behind files n past) ∙ alike_at built_in_members (n - length files) built_ins_alike in
    same_field files n (find_member (own_fields files n) name descriptor) (λ r f. placed files n name descriptor r none same f)
