-- The slots and the numbers that are found for fields are those of the fields with their names and kinds.
use Rattle.std.proofs.Common.{◌≡◌, ℕ, zero, suc, ◌+◌, ◌-◌, ◌<◌, ◌≤◌, Bool, true, false, ◌&&◌, ◌||◌, ◌==◌, not, List, [], ◌∷◌}
use Rattle.std.proofs.Common.{◌++◌, Option, Some, None, map, filter, take, length, slice_index_or, refl, ap, sym, ◌∙◌, arith}
use Rattle.std.proofs.Common.{subst, append_assoc, if◌then◌else◌, inl, inr}
use Rattle.std.specs.Prelude.{codes, slice_get, sum_by, ◌⊎◌}
use Rattle.std.specs.List.{list_all}
use Rattle.std.specs.Option.{option_map}
use Rattle.std.specs.Str.{bytes_eq}
use Rattle.std.proofs.lemmas.Bool.{cases_lt, eqb-true, false≢true}
use Rattle.std.proofs.lemmas.List.{get_or-append_right, get_or_past}
use Rattle.std.proofs.lemmas.List.Sums.{sum_by-cons}
use Rattle.std.proofs.lemmas.Option.{get_or_from_slice_get, slice_get-map, slice_get_past, slice_get_within}
use Rattle.std.proofs.lemmas.Slice.Eq.{bytes_eq-Decides}
use Rattle.const_pool.specs.Pool.{Slots}
use Rattle.graph_model.specs.declared.types.Field.{Field}
use Rattle.graph_walks.specs.Order.{walk}
use Rattle.graph_walks.proofs.Lists.{cons_head, cons_tail}
use Rattle.class_file.specs.declared.class.ClassFile.{ClassFile}
use Rattle.class_file.specs.declared.field.Field.{Field as FileField}
use Rattle.plain_model.specs.Classes.{ClassFacts, no_class}
use Rattle.plain_model.specs.BuiltIn.{built_in_classes}
use Rattle.plain_model.specs.Facts.{StaticFacts, class_at}
use Rattle.run_types.specs.declared.resolved.FieldAt.{FieldAt}
use Rattle.built_in_table.specs.Members.{BuiltInClass, MemberFacts, built_in_at, built_in_members, with_methods}
use Rattle.class_links.specs.Names.{name_of}
use Rattle.class_set.specs.Linked.{Linked}
use Rattle.class_set.specs.Members.{count_statics, field_facts, first_static, is_of_instance, is_static_member, kind_of}
use Rattle.class_set.specs.Members.{layout_above, layout_field, layout_of_fields, own_fields, super_number, text_at}
use Rattle.class_set.specs.Facts.{class_facts, facts_of, named_classes, static_facts, statics_from, statics_of_fields}
use Rattle.class_set.specs.Lookups.{class_edges, field_at, find_field, find_member, first_own_slot, first_own_static}
use Rattle.class_set.specs.Lookups.{first_some, is_named, member_from, own_field, slot_for}
use Rattle.class_set.specs.FoundFields.{IsFieldFound, IsStaticNumber, IsStream}
use Rattle.class_set.proofs.BuiltInFields.{found_in, own_behind}
use Rattle.class_set.proofs.Declared.{members_counted}
use Rattle.class_set.proofs.FieldPlaces.{both_true, own_of_file}
use Rattle.class_set.proofs.Named.{named_at}
use Rattle.class_set.proofs.StaticFields.{fields_counted}
use Rattle.class_set.proofs.Supertypes.{program_counted}

-- ---- lists

at_right : {X : Type 0} (xs ys : List X) (m : ℕ) → slice_get (xs ++ ys) (length xs + m) ≡ slice_get ys m
at_right [] ys m = ap (slice_get ys) (omega arith)
at_right (x ∷ xs) ys m = ap (slice_get (x ∷ xs ++ ys)) (next (length xs)) ∙ at_right xs ys m
  where
    next : (n : ℕ) → suc n + m ≡ suc (n + m)
    next n = omega arith

at_left : {X : Type 0} (xs ys : List X) (j : ℕ) (x : X) → slice_get xs j ≡ Some x → slice_get (xs ++ ys) j ≡ Some x
at_left [] ys j x h = absurd (cc)
at_left (y ∷ xs) ys zero x h = h
at_left (y ∷ xs) ys (suc j) x h = at_left xs ys j x h

-- what passes the test stands behind those before it that do
kept_at : (p : MemberFacts → Bool) (ms : List MemberFacts) (j : ℕ) (m : MemberFacts) → slice_get ms j ≡ Some m → p m ≡ true
    → slice_get (filter p ms) (length (filter p (take j ms))) ≡ Some m
kept_at p [] j m h e = absurd (cc)
kept_at p (n ∷ ns) zero m h e =
    let same : n ≡ m = cc in
    ap (λ b. slice_get (if b then n ∷ filter p ns else filter p ns) 0) (ap p same ∙ e) ∙ ap (λ x. Some x) same
kept_at p (n ∷ ns) (suc j) m h e =
    elim (p n) as (λ b. slice_get (if b then n ∷ filter p ns else filter p ns) (length (if b then n ∷ filter p (take j ns) else filter p (take j ns))) ≡ Some m)
    [ true ↦ kept_at p ns j m h e | false ↦ kept_at p ns j m h e ]

-- ---- members that are found

record IsMember (n : ℕ) (ms : List MemberFacts) (name descriptor : List ℕ) (r : ℕ × MemberFacts) : Type 0 where
  j : ℕ
  at : r.0 ≡ n + j
  there : slice_get ms j ≡ Some r.1
  called : r.1.name ≡ name
  typed : r.1.descriptor ≡ descriptor

member_is : (n : ℕ) (ms : List MemberFacts) (name descriptor : List ℕ) (r : ℕ × MemberFacts) → member_from n ms name descriptor ≡ Some r
    → IsMember n ms name descriptor r
member_is n [] name descriptor r h = absurd (cc)
member_is n (m ∷ ms) name descriptor r h =
    elim (is_named name descriptor m) as (λ b. is_named name descriptor m ≡ b
    → (if b then Some (n, m) else member_from (n + 1) ms name descriptor) ≡ Some r → IsMember n (m ∷ ms) name descriptor r) [
      | true ↦ λ e f. (let same : (n, m) ≡ r = cc in
          subst (IsMember n (m ∷ ms) name descriptor) same (here (both_true (bytes_eq m.name name) (bytes_eq m.descriptor descriptor) e)))
      | false ↦ λ e f. behind (member_is (n + 1) ms name descriptor r f)
    ] refl h
  where
    here : (bytes_eq m.name name ≡ true) × (bytes_eq m.descriptor descriptor ≡ true) → IsMember n (m ∷ ms) name descriptor (n, m)
    here both = record {
      j = 0;
      at = omega arith;
      there = refl;
      called = (bytes_eq-Decides m.name name).0 both.0;
      typed = (bytes_eq-Decides m.descriptor descriptor).0 both.1;
    }

    behind : IsMember (n + 1) ms name descriptor r → IsMember n (m ∷ ms) name descriptor r
    behind h = record { j = suc h.j; at = omega (arith, h.at); there = h.there; called = h.called; typed = h.typed }

first_from : {B : Type 0} (f : ℕ → Option B) (xs : List ℕ) (y : B) → first_some f xs ≡ Some y → (k : ℕ) × (f k ≡ Some y)
first_from f [] y h = absurd (cc)
first_from f (x ∷ xs) y h =
    elim (f x) as (λ o. f x ≡ o → (elim o [ None ↦ first_some f xs | Some z ↦ Some z ]) ≡ Some y → (k : ℕ) × (f k ≡ Some y)) [
      | None ↦ λ e g. first_from f xs y g
      | Some z ↦ λ e g. (x, e ∙ g)
    ] refl h

abbrev field_of_found : List ClassFile → ℕ → ℕ × MemberFacts → FieldAt
field_of_found files k r = record {
  class = k;
  is_static = r.1.is_static;
  at = slot_for files k r.0 r.1.is_static;
  kind = kind_of r.1.descriptor;
}

record IsOwn (files : List ClassFile) (k : ℕ) (name descriptor : List ℕ) (f : FieldAt) : Type 0 where
  found : ℕ × MemberFacts
  member : IsMember 0 (own_fields files k) name descriptor found
  from : find_member (own_fields files k) name descriptor ≡ Some found
  is : field_of_found files k found ≡ f

own_is : (files : List ClassFile) (k : ℕ) (name descriptor : List ℕ) (f : FieldAt) → own_field files name descriptor k ≡ Some f
    → IsOwn files k name descriptor f
own_is files k name descriptor f h =
    elim (find_member (own_fields files k) name descriptor) as (λ o. find_member (own_fields files k) name descriptor ≡ o
    → field_at files k o ≡ Some f → IsOwn files k name descriptor f) [
      | None ↦ λ e g. absurd (none_some g)
      | Some r ↦ λ e g. record {
        found = r;
        member = member_is 0 (own_fields files k) name descriptor r e;
        from = e;
        is = some_same g;
      }
    ] refl h
  where
    none_some : None ≡ Some f → ⊥
    none_some g = absurd (cc)

    some_same : {g : FieldAt} → Some g ≡ Some f → g ≡ f
    some_same e = cc

-- ---- the class of a file

file_class : (set : Linked) (k : ℕ) (c : ClassFile) → slice_get set.files k ≡ Some c → class_at (facts_of set) k ≡ class_facts set.files c
file_class set k c e =
    let files = set.files in
    let l = slice_get_within files k c e in
    named_at set k (omega (arith, l))
    ∙ get_or_from_slice_get (named_classes files) k (class_facts files c) no_class
    (at_left (map (class_facts files) files) (built_in_classes (length files)) k (class_facts files c)
    (slice_get-map (class_facts files) files k ∙ ap (option_map (class_facts files)) e))

file_slot : (set : Linked) (k : ℕ) (c : ClassFile) (place : ℕ) (m : MemberFacts) → slice_get set.files k ≡ Some c
    → slice_get (own_fields set.files k) place ≡ Some m → m.is_static ≡ false
    → slice_get (class_at (facts_of set) k).shape.fields (slot_for set.files k place false) ≡ Some (layout_field m)
file_slot set k c place m e at s =
    let files = set.files in
    let ms = map (field_facts c.pool) c.fields in
    let own = own_of_file files k c e in
    let above = layout_above files (super_number files c) in
    let first : first_own_slot files k ≡ length above =
    ap (λ (o : Option ClassFile). elim o as (λ x. ℕ) [ None ↦ 0 | Some d ↦ length (layout_above files (super_number files d)) ]) e in
    let there : slice_get ms place ≡ Some m = ap (λ xs. slice_get xs place) (sym own) ∙ at in
    ap (λ (d : ClassFacts). slice_get d.shape.fields (slot_for files k place false)) (file_class set k c e)
    ∙ ap (λ n. slice_get (above ++ layout_of_fields ms) (n + length (filter is_of_instance (take place (own_fields files k))))) first
    ∙ ap (λ xs. slice_get (above ++ layout_of_fields ms) (length above + length (filter is_of_instance (take place xs)))) own
    ∙ at_right above (layout_of_fields ms) (length (filter is_of_instance (take place ms)))
    ∙ slice_get-map layout_field (filter is_of_instance ms) (length (filter is_of_instance (take place ms)))
    ∙ ap (option_map layout_field) (kept_at is_of_instance ms place m there (ap not s))

-- ---- the static fields of a file's class

abbrev counted : ClassFile → ℕ
counted c = count_statics (map (field_facts c.pool) c.fields)

static_there : (all : List ClassFile) (n : ℕ) (c : ClassFile) (fs : List FileField) (place : ℕ) (f : FileField) → slice_get fs place ≡ Some f
    → is_static_member f.access ≡ true
    → slice_get (statics_of_fields all n c fs) (count_statics (take place (map (field_facts c.pool) fs))) ≡ Some (static_facts all n c f)
static_there all n c [] place f h e = absurd (cc)
static_there all n c (g ∷ gs) zero f h e =
    let same : g ≡ f = cc in
    ap (λ b. slice_get (if b then static_facts all n c g ∷ statics_of_fields all n c gs else statics_of_fields all n c gs) 0)
    (ap (λ (x : FileField). is_static_member x.access) same ∙ e)
    ∙ ap (λ (x : FileField). Some (static_facts all n c x)) same
static_there all n c (g ∷ gs) (suc place) f h e =
    let ms = take place (map (field_facts c.pool) gs) in
    elim (is_static_member g.access) as (λ b.
    slice_get (if b then static_facts all n c g ∷ statics_of_fields all n c gs else statics_of_fields all n c gs)
    (length (if b then field_facts c.pool g ∷ filter (λ (m : MemberFacts). m.is_static) ms else filter (λ (m : MemberFacts). m.is_static) ms))
    ≡ Some (static_facts all n c f)) [
      | true ↦ static_there all n c gs place f h e
      | false ↦ static_there all n c gs place f h e
    ]

statics_there : (all : List ClassFile) (n : ℕ) (cs : List ClassFile) (k j : ℕ) (c : ClassFile) (s : StaticFacts) → slice_get cs k ≡ Some c
    → slice_get (statics_of_fields all (n + k) c c.fields) j ≡ Some s → slice_get (statics_from all n cs) (sum_by counted (take k cs) + j) ≡ Some s
statics_there all n [] k j c s h e = absurd (cc)
statics_there all n (d ∷ ds) zero j c s h e =
    let same : d ≡ c = cc in
    let first : n + 0 ≡ n = omega arith in
    let none : 0 + j ≡ j = omega arith in
    let there : slice_get (statics_of_fields all n d d.fields) j ≡ Some s =
    ap (λ (x : ClassFile). slice_get (statics_of_fields all n x x.fields) j) same
    ∙ ap (λ i. slice_get (statics_of_fields all i c c.fields) j) (sym first) ∙ e in
    ap (slice_get (statics_from all n (d ∷ ds))) none ∙ at_left (statics_of_fields all n d d.fields) (statics_from all (suc n) ds) j s there
statics_there all n (d ∷ ds) (suc k) j c s h e =
    let own = statics_of_fields all n d d.fields in
    let next : n + suc k ≡ suc n + k = omega arith in
    let size : length own ≡ counted d = fields_counted all n d d.fields in
    let sum : sum_by counted (d ∷ take k ds) ≡ counted d + sum_by counted (take k ds) = sum_by-cons counted d (take k ds) in
    let index : sum_by counted (d ∷ take k ds) + j ≡ length own + (sum_by counted (take k ds) + j) = omega (arith, size, sum) in
    ap (slice_get (own ++ statics_from all (suc n) ds)) index
    ∙ at_right own (statics_from all (suc n) ds) (sum_by counted (take k ds) + j)
    ∙ statics_there all (suc n) ds k j c s h (ap (λ i. slice_get (statics_of_fields all i c c.fields) j) (sym next) ∙ e)

record IsMapped (pool : Slots) (fs : List FileField) (place : ℕ) (m : MemberFacts) : Type 0 where
  field : FileField
  there : slice_get fs place ≡ Some field
  facts : field_facts pool field ≡ m

unmapped : (pool : Slots) (fs : List FileField) (place : ℕ) (m : MemberFacts) → slice_get (map (field_facts pool) fs) place ≡ Some m
    → IsMapped pool fs place m
unmapped pool [] place m h = absurd (cc)
unmapped pool (f ∷ fs) zero m h = record { field = f; there = refl; facts = cc }
unmapped pool (f ∷ fs) (suc place) m h =
    let rest = unmapped pool fs place m h in
    record { field = rest.field; there = rest.there; facts = rest.facts }

file_static : (set : Linked) (k : ℕ) (c : ClassFile) (place : ℕ) (m : MemberFacts) (name : List ℕ) → slice_get set.files k ≡ Some c
    → slice_get (own_fields set.files k) place ≡ Some m → m.is_static ≡ true → m.name ≡ name
    → IsStaticNumber (facts_of set) name (record { class = k; is_static = true; at = slot_for set.files k place true; kind = kind_of m.descriptor })
file_static set k c place m name e at s called =
    let files = set.files in
    let ms = map (field_facts c.pool) c.fields in
    let own = own_of_file files k c e in
    let from = unmapped c.pool c.fields place m (ap (λ xs. slice_get xs place) (sym own) ∙ at) in
    let f = from.field in
    let static : is_static_member f.access ≡ true = ap (λ (x : MemberFacts). x.is_static) from.facts ∙ s in
    let first : first_own_static files k ≡ first_static files k =
    ap (λ (o : Option ClassFile). elim o as (λ x. ℕ) [ None ↦ 0 | Some d ↦ first_static files k ]) e in
    let count : count_statics (take place (own_fields files k)) ≡ count_statics (take place ms) = ap (λ xs. count_statics (take place xs)) own in
    let index : slot_for files k place true - 1 ≡ sum_by counted (take k files) + count_statics (take place ms) = omega (arith, first, count) in
    let zeroth : 0 + k ≡ k = omega arith in
    let there : slice_get (statics_of_fields files (0 + k) c c.fields) (count_statics (take place ms)) ≡ Some (static_facts files k c f) =
    ap (λ i. slice_get (statics_of_fields files i c c.fields) (count_statics (take place ms))) zeroth
    ∙ static_there files k c c.fields place f from.there static in
    record {
      numbered = omega (arith, first);
      field = static_facts files k c f;
      there = ap (slice_get (statics_from files 0 files)) index
          ∙ statics_there files 0 files k (count_statics (take place ms)) c (static_facts files k c f) e there;
      class = refl;
      named = append_assoc (name_of c) (46 ∷ []) (text_at c.pool f.name)
          ∙ ap (λ n. name_of c ++ 46 ∷ n) (ap (λ (x : MemberFacts). x.name) from.facts ∙ called)
          ∙ ap (λ (d : ClassFacts). d.shape.name ++ 46 ∷ name) (sym (file_class set k c e));
      kind = ap (λ (x : MemberFacts). kind_of x.descriptor) from.facts;
    }

-- ---- the built-in classes

-- the layout of each that has fields of its own
owned : List ClassFacts → List BuiltInClass → List (List Field)
owned [] bs = []
owned (c ∷ cs) [] = []
owned (c ∷ cs) (b ∷ bs) = (elim b.fields as (λ x. List Field) [ [] ↦ [] | m ∷ ms ↦ c.shape.fields ]) ∷ owned cs bs

abbrev own_layouts : List BuiltInClass → List (List Field)
own_layouts bs = map (λ (b : BuiltInClass). layout_of_fields b.fields) bs

built_ins_owned : (first : ℕ) → owned (built_in_classes first) built_in_members ≡ own_layouts built_in_members
unfolding owned built_in_members
built_ins_owned first = refl

some_own : (ms : List MemberFacts) (fields : List Field) → 0 < length ms
    → (elim ms as (λ x. List Field) [ [] ↦ [] | m ∷ more ↦ fields ]) ≡ layout_of_fields ms → fields ≡ layout_of_fields ms
some_own [] fields l h = absurd (omega (arith, l))
some_own (m ∷ ms) fields l h = h

owned_at : (cs : List ClassFacts) (bs : List BuiltInClass) (j : ℕ) → owned cs bs ≡ own_layouts bs → j < length bs
    → 0 < length (slice_index_or bs j (with_methods [])).fields
    → (slice_index_or cs j no_class).shape.fields ≡ layout_of_fields (slice_index_or bs j (with_methods [])).fields
unfolding owned
owned_at cs [] j h l m = absurd (omega (arith, l))
owned_at [] (b ∷ bs) j h l m = absurd (cc)
owned_at (c ∷ cs) (b ∷ bs) zero h l m = some_own b.fields c.shape.fields m (cons_head _ _ _ _ h)
owned_at (c ∷ cs) (b ∷ bs) (suc j) h l m = owned_at cs bs j (cons_tail _ _ _ _ h) (omega (arith, l)) m

some_there : (ms : List MemberFacts) (place : ℕ) (m : MemberFacts) → slice_get ms place ≡ Some m → 0 < length ms
some_there ms place m h = omega (arith, slice_get_within ms place m h)

-- which has its number
built_in_near : (files : List ClassFile) (k place : ℕ) (m : MemberFacts) → length files ≤ k → slice_get (own_fields files k) place ≡ Some m
    → k < length files + 28
built_in_near files k place m past at = elim (cases_lt (k - length files) 28) [
  | inl l ↦ omega (arith, l, past)
  | inr far ↦ absurd (none_some (sym (ap (λ ms. slice_get ms place)
      (own_behind files k past ∙ ap (λ (b : BuiltInClass). b.fields)
      (get_or_past built_in_members (k - length files) (with_methods []) (omega (arith, far, members_counted))))) ∙ at))
]
  where
    none_some : None ≡ Some m → ⊥
    none_some e = absurd (cc)

built_in_class : (set : Linked) (k : ℕ) → length set.files ≤ k → k < length set.files + 28
    → class_at (facts_of set) k ≡ slice_index_or (built_in_classes (length set.files)) (k - length set.files) no_class
built_in_class set k past l =
    named_at set k l
    ∙ get_or-append_right (map (class_facts set.files) set.files) (built_in_classes (length set.files)) (length set.files) k no_class
    (program_counted set.files set.files) past

first_none : (files : List ClassFile) (k : ℕ) → slice_get files k ≡ None → (first_own_slot files k ≡ 0) × (first_own_static files k ≡ 0)
first_none files k e = (rw (e, first_own_slot) refl, rw (e, first_own_static) refl)

built_in_slot : (set : Linked) (k place : ℕ) (m : MemberFacts) → length set.files ≤ k → slice_get (own_fields set.files k) place ≡ Some m
    → m.is_static ≡ false
    → slice_get (class_at (facts_of set) k).shape.fields (slot_for set.files k place false) ≡ Some (layout_field m)
built_in_slot set k place m past at s =
    let files = set.files in
    let j = k - length files in
    let ms = (built_in_at j).fields in
    let own : own_fields files k ≡ ms = own_behind files k past in
    let near = built_in_near files k place m past at in
    let there : slice_get ms place ≡ Some m = ap (λ xs. slice_get xs place) (sym own) ∙ at in
    let before = length (filter is_of_instance (take place ms)) in
    let first = (first_none files k (slice_get_past files k past)).0 in
    let index : slot_for files k place false ≡ before =
    omega (arith, first, ap (λ xs. length (filter is_of_instance (take place xs))) own) in
    ap (λ (d : ClassFacts). slice_get d.shape.fields (slot_for files k place false)) (built_in_class set k past near)
    ∙ ap (λ fields. slice_get fields (slot_for files k place false))
    (owned_at (built_in_classes (length files)) built_in_members j (built_ins_owned (length files)) (omega (arith, near, past, members_counted))
    (some_there ms place m there))
    ∙ ap (slice_get (layout_of_fields ms)) index
    ∙ slice_get-map layout_field (filter is_of_instance ms) before
    ∙ ap (option_map layout_field) (kept_at is_of_instance ms place m there (ap not s))

-- System alone has a static field
none_static : ℕ → List BuiltInClass → Bool
none_static n [] = true
none_static n (b ∷ bs) = (n == 24 || list_all is_of_instance b.fields) && none_static (suc n) bs

built_ins_static : none_static 0 built_in_members ≡ true
unfolding none_static built_in_members
built_ins_static = refl

static_only : (n : ℕ) (bs : List BuiltInClass) (j : ℕ) → none_static n bs ≡ true
    → (n + j ≡ 24) ⊎ (list_all is_of_instance (slice_index_or bs j (with_methods [])).fields ≡ true)
unfolding none_static
static_only n [] j h = inr refl
static_only n (b ∷ bs) zero h =
    here (n == 24) (list_all is_of_instance b.fields) refl (both_true (n == 24 || list_all is_of_instance b.fields) (none_static (suc n) bs) h).0
  where
    here : (x y : Bool) → (n == 24) ≡ x → (x || y) ≡ true → (n + 0 ≡ 24) ⊎ (y ≡ true)
    here true y e f = inl (let same : n ≡ 24 = eqb-true n 24 e in omega (arith, same))
    here false y e f = inr f
static_only n (b ∷ bs) (suc j) h =
    elim (static_only (suc n) bs j (both_true (n == 24 || list_all is_of_instance b.fields) (none_static (suc n) bs) h).1) [
      | inl e ↦ inl (omega (arith, e))
      | inr e ↦ inr e
    ]

system_field : (built_in_at 24).fields ≡ record { name = codes "out"; descriptor = codes "Ljava/io/PrintStream;"; is_static = true } ∷ []
unfolding built_in_members
system_field = refl

only_one : (x m : MemberFacts) (place : ℕ) → slice_get (x ∷ []) place ≡ Some m → (place ≡ 0) × (x ≡ m)
only_one x m zero h = (refl, cc)
only_one x m (suc place) h = absurd (cc)

instance_not_static : (m : MemberFacts) → is_of_instance m ≡ true → m.is_static ≡ true → ⊥
instance_not_static m i s = false≢true (sym (ap not s) ∙ i)

system_static : (set : Linked) (k : ℕ) (r : ℕ × MemberFacts) (name : List ℕ) → length set.files ≤ k → k - length set.files ≡ 24
    → slice_get (own_fields set.files k) r.0 ≡ Some r.1 → r.1.name ≡ name
    → IsStream (facts_of set) name (record { class = k; is_static = true; at = slot_for set.files k r.0 true; kind = kind_of r.1.descriptor })
system_static set k r name past at there called =
    let files = set.files in
    let own : own_fields files k ≡ (built_in_at 24).fields = own_behind files k past ∙ ap (λ j. (built_in_at j).fields) at in
    let one = only_one _ r.1 r.0 (ap (λ ms. slice_get ms r.0) (sym (own ∙ system_field)) ∙ there) in
    let first = (first_none files k (slice_get_past files k past)).1 in
    let count : count_statics (take r.0 (own_fields files k)) ≡ 0 = ap (λ n. count_statics (take n (own_fields files k))) one.0 in
    record {
      number = omega (arith, first, count);
      class = omega (arith, at, past, program_counted files files);
      named = sym called ∙ ap (λ (m : MemberFacts). m.name) (sym one.1);
    }

built_in_static : (set : Linked) (k : ℕ) (r : ℕ × MemberFacts) (name descriptor : List ℕ) → length set.files ≤ k
    → find_member (own_fields set.files k) name descriptor ≡ Some r → slice_get (own_fields set.files k) r.0 ≡ Some r.1 → r.1.is_static ≡ true
    → r.1.name ≡ name
    → IsStream (facts_of set) name (record { class = k; is_static = true; at = slot_for set.files k r.0 true; kind = kind_of r.1.descriptor })
built_in_static set k r name descriptor past found there s called =
    let j = k - length set.files in
    let zeroth : 0 + j ≡ j = omega arith in
    elim (static_only 0 built_in_members j built_ins_static) [
      | inl e ↦ system_static set k r name past (sym zeroth ∙ e) there called
      | inr all ↦ absurd (instance_not_static r.1
          (found_in is_of_instance 0 (own_fields set.files k) name descriptor r (ap (list_all is_of_instance) (own_behind set.files k past) ∙ all) found).passes s)
    ]

-- ---- any class

by_kind : (set : Linked) (k : ℕ) (r : ℕ × MemberFacts) (name : List ℕ) (b : Bool) → r.1.is_static ≡ b
    → (b ≡ true → IsStaticNumber (facts_of set) name (record { class = k; is_static = true; at = slot_for set.files k r.0 true; kind = kind_of r.1.descriptor })
    ⊎ IsStream (facts_of set) name (record { class = k; is_static = true; at = slot_for set.files k r.0 true; kind = kind_of r.1.descriptor }))
    → (b ≡ false → slice_get (class_at (facts_of set) k).shape.fields (slot_for set.files k r.0 false) ≡ Some (layout_field r.1)) → r.1.name ≡ name
    → IsFieldFound (facts_of set) name (record { class = k; is_static = b; at = slot_for set.files k r.0 b; kind = kind_of r.1.descriptor })
by_kind set k r name true e static slot called = static refl
by_kind set k r name false e static slot called =
    slot refl ∙ ap (λ n. Some (record { name = n; kind = kind_of r.1.descriptor; kept = true })) called

own_found : (set : Linked) (k : ℕ) (name descriptor : List ℕ) (f : FieldAt) → IsOwn set.files k name descriptor f
    → (f.kind ≡ kind_of descriptor) × IsFieldFound (facts_of set) name f
own_found set k name descriptor f own =
    let files = set.files in
    let r = own.found in
    let m = own.member in
    let place : r.0 ≡ m.j = omega (arith, m.at) in
    let there : slice_get (own_fields files k) r.0 ≡ Some r.1 = ap (slice_get (own_fields files k)) place ∙ m.there in
    let found : IsFieldFound (facts_of set) name (field_of_found files k r) =
    elim (slice_get files k) as (λ o. slice_get files k ≡ o → IsFieldFound (facts_of set) name (field_of_found files k r)) [
      | Some c ↦ λ e. by_kind set k r name r.1.is_static refl (λ s. inl (file_static set k c r.0 r.1 name e there s m.called))
          (λ s. file_slot set k c r.0 r.1 e there s) m.called
      | None ↦ λ e. (let past : length files ≤ k = beyond files k e in
          by_kind set k r name r.1.is_static refl
          (λ s. inr (built_in_static set k r name descriptor past own.from there s m.called))
          (λ s. built_in_slot set k r.0 r.1 past there s) m.called)
    ] refl in (
      ap (λ (x : FieldAt). x.kind) (sym own.is) ∙ ap kind_of m.typed,
      subst (IsFieldFound (facts_of set) name) own.is found,
    )
  where
    beyond : (files : List ClassFile) (k : ℕ) → slice_get files k ≡ None → length files ≤ k
    beyond [] k e = omega arith
    beyond (c ∷ cs) zero e = absurd (cc)
    beyond (c ∷ cs) (suc k) e = omega (arith, beyond cs k e)

pub field_found : (set : Linked) (class : ℕ) (name descriptor : List ℕ) (f : FieldAt) → find_field set class name descriptor ≡ Some f
    → (f.kind ≡ kind_of descriptor) × IsFieldFound (facts_of set) name f
field_found set class name descriptor f h =
    let at = first_from (own_field set.files name descriptor) (walk (class_edges set.files) class) f h in
    own_found set at.0 name descriptor f (own_is set.files at.0 name descriptor f at.1)
