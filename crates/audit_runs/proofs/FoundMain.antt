-- The `main` of a class.
use Rattle.std.proofs.Common.{◌≡◌, ℕ, zero, suc, ◌<◌, ◌≤◌, Bool, true, false, List, [], ◌∷◌, Option, Some, None, length, refl, ap, sym, ◌∙◌, subst, arith, inl, inr, if◌then◌else◌}
use Rattle.std.specs.Prelude.{codes, slice_index_or, Result, Ok, Err}
use Rattle.std.proofs.Math.ListN.{get_or-eq_default}
use Rattle.std.proofs.lemmas.Bool.{cases_lt}
use Rattle.std.proofs.lemmas.List.{length-map}
use Rattle.run_types.specs.declared.resolved.MethodAt.{MethodAt}
use Rattle.plain_model.specs.Classes.{ClassFacts, no_class}
use Rattle.plain_model.specs.Duties.{IsClass}
use Rattle.plain_model.specs.Facts.{class_count, classes_of, superclasses_from, superclasses_of}
use Rattle.class_set.specs.Linked.{Linked, class_named}
use Rattle.class_set.specs.Facts.{class_facts, facts_of}
use Rattle.class_set.specs.Lookups.{find_member, find_method, first_some, method_at, own_method}
use Rattle.class_set.specs.Members.{own_methods}
use Rattle.built_in_table.specs.Members.{MemberFacts}
use Rattle.class_code.specs.Methods.{method_number}
use Rattle.class_code.proofs.ClassesThere.{program_among}
use Rattle.program_launch.specs.declared.mains.Main.{Main}
use Rattle.program_launch.specs.declared.mains.NoMain.{NoMain}
use Rattle.program_launch.specs.declared.mains.NoMain.TheVariants.{Method}
use Rattle.program_launch.specs.Mains.{main_at, main_from, main_of}
use Rattle.program_launch.proofs.MainMethods.{main_of_file}
use Rattle.audit_runs.specs.Audits.{IsMainOf}

abbrev name : List ℕ
name = codes "main"

abbrev descriptor : List ℕ
descriptor = codes "([Ljava/lang/String;)V"

-- what a look-up finds is a static method
pub record IsFound (set : Linked) (class : ℕ) (main : Main) : Type 0 where
  pub method : MethodAt
  pub found : find_method set class name descriptor ≡ Some method
  pub static : method.is_static ≡ true
  pub is : main ≡ record { class = class; method = method_number set method }

pub found-main : (set : Linked) (class : ℕ) (main : Main) → IsMainOf set class main → IsFound set class main
found-main set class main e = one (find_method set class name descriptor) refl e
  where
    ok-same : (a b : Main) → ◌≡◌ {A = Result Main NoMain} (Ok a) (Ok b) → a ≡ b
    ok-same a b h = cc

    two : (m : MethodAt) → find_method set class name descriptor ≡ Some m → (b : Bool) → m.is_static ≡ b
        → (if b then Ok (record { class = class; method = method_number set m }) else Err Method) ≡ Ok main → IsFound set class main
    two m h true s k = record { method = m; found = h; static = s; is = sym (ok-same (record { class = class; method = method_number set m }) main k) }
    two m h false s k = absurd (let no = k in cc)

    one : (o : Option MethodAt) → find_method set class name descriptor ≡ o → main_at set class o ≡ Ok main → IsFound set class main
    one None h k = absurd (let no = k in cc)
    one (Some m) h k = two m h m.is_static refl k

pub main-again : (set : Linked) (class : ℕ) (m : MethodAt) → find_method set class name descriptor ≡ Some m → m.is_static ≡ true
    → IsMainOf set class (record { class = class; method = method_number set m })
main-again set class m found static = ap (main_at set class) found
    ∙ ap (λ b. if b then Ok (record { class = class; method = method_number set m }) else Err Method) static

-- ---- the class is one of the set

past-alone : (classes : List ClassFacts) (more n : ℕ) → length classes ≤ n → superclasses_from classes more n ≡ n ∷ []
past-alone classes zero n past = refl
past-alone classes (suc more) n past =
    ap (λ (c : ClassFacts). n ∷ (elim c.superclass [ None ↦ [] | Some super ↦ superclasses_from classes more super ]))
    (get_or-eq_default classes no_class past)

one-alone : (own : ℕ → Option MethodAt) (n : ℕ) (m : MethodAt) → first_some own (n ∷ []) ≡ Some m → own n ≡ Some m
one-alone own n m e = one (own n) refl e
  where
    one : (o : Option MethodAt) → own n ≡ o → (elim o [ None ↦ None | Some y ↦ Some y ]) ≡ Some m → own n ≡ Some m
    one None h k = absurd (let no = k in cc)
    one (Some y) h k = h ∙ k

same-class : (n : ℕ) (m : MethodAt) (o : Option (ℕ × MemberFacts)) → method_at n o ≡ Some m → n ≡ m.class
same-class n m None h = let no : ⊥ = cc in absurd no
same-class n m (Some f) h =
    let same : record { class = n; method = f.0; is_static = f.1.is_static } ≡ m = cc in
    ap (λ (x : MethodAt). x.class) same

pub main-class : (set : Linked) (n : ℕ) (m : MethodAt) → find_method set n name descriptor ≡ Some m → IsClass (facts_of set) n
main-class set n m found = elim (cases_lt n (length (classes_of (facts_of set)))) [
  | inl less ↦ less
  | inr past ↦
      let alone = past-alone (classes_of (facts_of set)) (class_count (facts_of set)) n past in
      let own = one-alone (own_method set name descriptor) n m
      (subst (λ ns. first_some (own_method set name descriptor) ns ≡ Some m) alone found) in
      let same = same-class n m (find_member (own_methods set n) name descriptor) own in
      let file = (main_of_file set n m found).class in
      let few = program_among set in
      let all = length-map set.files (class_facts set.files) in
      absurd (omega (arith, past, same, file, few, all))
]

-- ---- from a name

-- what the look-up by a class's name finds is what that by its number finds
pub main-of-name : (set : Linked) (text : List ℕ) (main : Main) → main_of set text ≡ Ok main → IsMainOf set main.class main
main-of-name set text main e = one (class_named set text) refl e
  where
    one : (o : Option ℕ) → class_named set text ≡ o → main_from set o ≡ Ok main → IsMainOf set main.class main
    one None h k = absurd (let no = k in cc)
    one (Some class) h k =
        let same : main.class ≡ class = ap (λ (x : Main). x.class) (found-main set class main k).is in
        subst (λ n. IsMainOf set n main) (sym same) k

pub some-method : (a b : MethodAt) → ◌≡◌ {A = Option MethodAt} (Some a) (Some b) → a ≡ b
some-method a b e = cc
