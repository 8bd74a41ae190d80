-- Where the main method is found.
use Rattle.std.proofs.Common.{◌≡◌, ℕ, zero, suc, ◌+◌, ◌-◌, ◌<◌, ◌≤◌, ◌^◌, Bool, true, false, ◌&&◌, nat_lt, List, [], ◌∷◌}
use Rattle.std.proofs.Common.{Option, Some, None, length, refl, ap, sym, ◌∙◌, subst, arith, inl, inr, get_or}
use Rattle.std.specs.Prelude.{◌⊎◌, All, codes, is_none, slice_get, slice_index_or}
use Rattle.std.proofs.lemmas.Bool.{false≢true}
use Rattle.std.proofs.lemmas.Option.{get_or_from_slice_get, slice_get_cases, slice_get_read, slice_get_within}
use Rattle.run_types.specs.declared.resolved.MethodAt.{MethodAt}
use Rattle.class_file.specs.declared.class.ClassFile.{ClassFile}
use Rattle.plain_model.specs.Facts.{superclasses_of}
use Rattle.built_in_table.specs.Members.{BuiltInClass, MemberFacts, built_in_members, with_methods}
use Rattle.class_set.specs.Facts.{facts_of}
use Rattle.class_set.specs.Linked.{Linked, OfFile, behind_files, array_or_none}
use Rattle.class_set.specs.Lookups.{find_member, find_method, first_some, method_at, own_method}
use Rattle.class_set.specs.Members.{methods_of_sort, own_methods}
use Rattle.class_set.specs.Tables.{IsSmall}
use Rattle.class_code.specs.Methods.{first_method, method_count}
use Rattle.class_code.proofs.Found.{own_there}
use Rattle.class_code.proofs.FirstMethods.{count_of_file, first_more}

-- ---- no built-in class has a main method

abbrev name : List ℕ
name = codes "main"

abbrev descriptor : List ℕ
descriptor = codes "([Ljava/lang/String;)V"

have_none : List BuiltInClass → Bool
have_none [] = true
have_none (c ∷ cs) = is_none (find_member c.methods name descriptor) && have_none cs

both_true : (a b : Bool) → (a && b) ≡ true → (a ≡ true) × (b ≡ true)
both_true true b h = (refl, h)
both_true false b h = absurd (false≢true h)

none_of : (o : Option (ℕ × MemberFacts)) → is_none o ≡ true → o ≡ None
none_of None h = refl
none_of (Some f) h = absurd (false≢true h)

none_at : (cs : List BuiltInClass) (k : ℕ) → have_none cs ≡ true
    → find_member (slice_index_or cs k (with_methods [])).methods name descriptor ≡ None
unfolding have_none
none_at [] k h = refl
none_at (c ∷ cs) zero h =
    none_of (find_member c.methods name descriptor)
    (both_true (is_none (find_member c.methods name descriptor)) (have_none cs) h).0
none_at (c ∷ cs) (suc k) h =
    none_at cs k (both_true (is_none (find_member c.methods name descriptor)) (have_none cs) h).1

built_ins_have_none : have_none built_in_members ≡ true
unfolding have_none built_in_members
built_ins_have_none = refl

-- ---- so it is a file's

abbrev found_in : Option (List ℕ) → Option (ℕ × MemberFacts)
found_in o = find_member (methods_of_sort (array_or_none o)) name descriptor

no_array : (o : Option (List ℕ)) → found_in o ≡ None
no_array None = refl
no_array (Some text) = refl

none_behind : (set : Linked) (k : ℕ) → find_member (methods_of_sort (behind_files set k)) name descriptor ≡ None
none_behind set k = one (nat_lt k 28) refl
  where
    one : (b : Bool) → nat_lt k 28 ≡ b → find_member (methods_of_sort (behind_files set k)) name descriptor ≡ None
    one true e = rw e (none_at built_in_members k built_ins_have_none)
    one false e = rw e (no_array (slice_get set.arrays (k - 28)))

abbrev own_by : Linked → ℕ → Option ClassFile → Option (ℕ × MemberFacts)
own_by set n o =
    find_member (methods_of_sort (elim o [ None ↦ behind_files set (n - length set.files) | Some file ↦ OfFile file ]))
    name descriptor

-- the method stands among those of a file
pub record IsOfFile (set : Linked) (m : MethodAt) : Type 0 where
  pub class : m.class < length set.files
  pub method : m.method < method_count set m.class

own_of_file : (set : Linked) (n : ℕ) (m : MethodAt) → own_method set name descriptor n ≡ Some m → IsOfFile set m
own_of_file set n m e = one (slice_get set.files n) refl
  where
    same_class : (o : Option (ℕ × MemberFacts)) → method_at n o ≡ Some m → n ≡ m.class
    same_class None h = let no : ⊥ = cc in absurd no
    same_class (Some f) h =
        let same : record { class = n; method = f.0; is_static = f.1.is_static } ≡ m = cc in
        ap (λ (x : MethodAt). x.class) same

    one : (o : Option ClassFile) → slice_get set.files n ≡ o → IsOfFile set m
    one (Some file) h = record {
      class = subst (λ k. k < length set.files) (same_class (find_member (own_methods set n) name descriptor) e)
          (slice_get_within set.files n file h);
      method = own_there set name descriptor n m e;
    }
    one None h =
        let none : find_member (own_methods set n) name descriptor ≡ None
        = ap (own_by set n) h ∙ none_behind set (n - length set.files) in
        let no : None ≡ Some m = sym (ap (method_at n) none) ∙ e in
        absurd (cc)

-- what each answer has, the first answer has
first_has : (own : ℕ → Option MethodAt) (P : MethodAt → Type 0) (ns : List ℕ) (m : MethodAt)
    → ((n : ℕ) → own n ≡ Some m → P m) → first_some own ns ≡ Some m → P m
first_has own P [] m each e = let no : ⊥ = cc in absurd no
first_has own P (n ∷ ns) m each e = one (λ h. first_has own P ns m each h) (own n) refl e
  where
    one : (first_some own ns ≡ Some m → P m) → (o : Option MethodAt) → own n ≡ o
        → (elim o [ None ↦ first_some own ns | Some y ↦ Some y ]) ≡ Some m → P m
    one next None h e = next e
    one next (Some y) h e = each n (h ∙ e)

pub main_of_file : (set : Linked) (class : ℕ) (m : MethodAt) → find_method set class name descriptor ≡ Some m
    → IsOfFile set m
main_of_file set class m e =
    first_has (own_method set name descriptor) (IsOfFile set) (superclasses_of (facts_of set) class) m
    (λ n h. own_of_file set n m h) e

-- a file has room for so many methods
pub few_methods : (set : Linked) (n : ℕ) (file : ClassFile) → All IsSmall set.files
    → slice_get set.files n ≡ Some file → method_count set n < 2 ^ 16
few_methods set n file small h =
    let there : slice_index_or set.files n file ≡ file = get_or_from_slice_get set.files n file file h in
    let has : length file.methods < 2 ^ 16 =
    subst (λ (c : ClassFile). length c.methods < 2 ^ 16) there (small n file (slice_get_within set.files n file h)).methods in
    omega (arith, has, count_of_file set n file h)

pub few_there : (set : Linked) (n : ℕ) → All IsSmall set.files → n < length set.files → method_count set n < 2 ^ 16
few_there set n small l = one (slice_get_cases set.files n)
  where
    one : (slice_get set.files n ≡ slice_get set.files n) × (((x : ClassFile) × (n < length set.files)
        × (slice_get set.files n ≡ Some x) × (get_or set.files n x ≡ x)) ⊎ ((length set.files ≤ n)
        × (slice_get set.files n ≡ None))) → method_count set n < 2 ^ 16
    one (same, inl (file, below, h, at)) = few_methods set n file small h
    one (same, inr (past, none)) = absurd (omega (arith, past, l))

-- the number of the next file's first method
pub next_first : (set : Linked) (n : ℕ) (file : ClassFile) → n < length set.files → file ≡ slice_index_or set.files n file
    → first_method set (n + 1) ≡ first_method set n + length file.methods
next_first set n file l at =
    first_more set n ∙ ap (λ k. first_method set n + k)
    (count_of_file set n file (slice_get_read set.files (length set.files) n file refl l at))

pub short_file : (set : Linked) (n : ℕ) (file : ClassFile) → All IsSmall set.files → n < length set.files
    → file ≡ slice_index_or set.files n file → length file.methods < 2 ^ 16
short_file set n file small l at =
    subst (λ (c : ClassFile). length c.methods < 2 ^ 16) (sym at) (small n file l).methods
