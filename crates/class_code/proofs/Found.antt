-- A method that is found is one that its class declares.
use Rattle.std.proofs.Common.{true, false, ◌≡◌, ℕ, suc, ◌+◌, ◌<◌, List, [], ◌∷◌, Option, Some, None, length, refl, ap, sym, ◌∙◌}
use Rattle.std.proofs.Common.{subst, arith}
use Rattle.std.specs.Prelude.{◌^◌, Bool, IfOk, Result, Ok, Err, slice_index_or, if◌then◌else◌}
use Rattle.run_types.specs.declared.fault.LinkKind.{LinkKind}
use Rattle.run_types.specs.declared.resolved.MethodAt.{MethodAt}
use Rattle.plain_model.specs.Facts.{superclasses_of}
use Rattle.built_in_table.specs.Members.{MemberFacts}
use Rattle.std.specs.Str.{bytes_eq}
use Rattle.text_table.specs.Texts.{place_from}
use Rattle.class_set.specs.Linked.{Linked, class_named, names_of}
use Rattle.class_set.specs.Facts.{facts_of}
use Rattle.class_set.specs.Members.{own_methods}
use Rattle.class_set.specs.Lookups.{find_member, find_method, first_some, is_named, member_from, method_at, own_method}
use Rattle.class_code.specs.Firsts.{AreFirsts}
use Rattle.class_code.specs.Methods.{first_method, method_count, method_number}

member_below : (n : ℕ) (ms : List MemberFacts) (name descriptor : List ℕ) (f : ℕ × MemberFacts)
    → member_from n ms name descriptor ≡ Some f → f.0 < n + length ms
member_below n [] name descriptor f e = let no : ⊥ = cc in absurd no
member_below n (m ∷ ms) name descriptor f e = one (λ h. member_below (n + 1) ms name descriptor f h) (is_named name descriptor m) e
  where
    one : (member_from (n + 1) ms name descriptor ≡ Some f → f.0 < n + 1 + length ms) → (b : Bool)
        → (if b then Some (n, m) else member_from (n + 1) ms name descriptor) ≡ Some f → f.0 < n + suc (length ms)
    one next true e = let same : (n, m) ≡ f = cc in let at : n ≡ f.0 = ap (λ (x : ℕ × MemberFacts). x.0) same in omega arith
    one next false e = let low = next e in omega (arith, low)

abbrev IsThere : Linked → MethodAt → Type 0
IsThere set m = m.method < method_count set m.class

pub own_there : (set : Linked) (name descriptor : List ℕ) (class : ℕ) (m : MethodAt) → own_method set name descriptor class ≡ Some m → IsThere set m
own_there set name descriptor class m e = one (find_member (own_methods set class) name descriptor) refl e
  where
    one : (o : Option (ℕ × MemberFacts)) → find_member (own_methods set class) name descriptor ≡ o → method_at class o ≡ Some m → IsThere set m
    one None h e = let no : ⊥ = cc in absurd no
    one (Some f) h e =
        let same : record { class = class; method = f.0; is_static = f.1.is_static } ≡ m = cc in
        let below = member_below 0 (own_methods set class) name descriptor f h in
        let there : f.0 < length (own_methods set class) = omega (arith, below) in
        subst (IsThere set) same there

pub first_there : (own : ℕ → Option MethodAt) (P : MethodAt → Type 0) (ns : List ℕ) (m : MethodAt)
    → ((n : ℕ) → own n ≡ Some m → P m) → first_some own ns ≡ Some m → P m
first_there own P [] m each e = let no : ⊥ = cc in absurd no
first_there own P (n ∷ ns) m each e = one (λ h. first_there own P ns m each h) (own n) refl e
  where
    one : (first_some own ns ≡ Some m → P m) → (o : Option MethodAt) → own n ≡ o
        → (elim o [ None ↦ first_some own ns | Some y ↦ Some y ]) ≡ Some m → P m
    one next None h e = next e
    one next (Some y) h e = each n (h ∙ e)

pub found_there : (set : Linked) (class : ℕ) (name descriptor : List ℕ) (m : MethodAt)
    → find_method set class name descriptor ≡ Some m → m.method < method_count set m.class
found_there set class name descriptor m e =
    first_there (own_method set name descriptor) (IsThere set) (superclasses_of (facts_of set) class) m
    (λ n h. own_there set name descriptor n m h) e

pub called_there : (set : Linked) (r : Result MethodAt LinkKind) (m : MethodAt) → IfOk r (λ found. found ≡ m)
    → m.method < method_count set m.class → IfOk r (λ found. found.method < method_count set found.class)
called_there set (Err kind) m same there = tt
called_there set (Ok found) m same there = subst (IsThere set) (sym same) there

-- ---- numbers

pub numbered : (set : Linked) (firsts : List ℕ) (m : MethodAt) (first : ℕ) → AreFirsts set firsts
    → m.method < method_count set m.class → first ≡ slice_index_or firsts m.class 0
    → (first + m.method ≡ method_number set m) × (first + m.method < 2 ^ 32)
numbered set firsts m first are there e =
    let some : 0 < method_count set m.class = omega arith in
    let at : first ≡ first_method set m.class = e ∙ are.first m.class some in
    let room = are.room m.class m.method there in
    (ap (λ n. n + m.method) at, omega (arith, at, room))

-- ---- classes

pub place_below : (n k : ℕ) (texts : List (List ℕ)) (text : List ℕ) → place_from n texts text ≡ Some k → k < n + length texts
place_below n k [] text e = let no : ⊥ = cc in absurd no
place_below n k (t ∷ ts) text e = one (λ h. place_below (n + 1) k ts text h) (bytes_eq t text) e
  where
    one : (place_from (n + 1) ts text ≡ Some k → k < n + 1 + length ts) → (b : Bool)
        → (if b then Some n else place_from (n + 1) ts text) ≡ Some k → k < n + suc (length ts)
    one next true e = let same : n ≡ k = cc in omega arith
    one next false e = let low = next e in omega (arith, low)

pub class_there : (set : Linked) (name : List ℕ) (k : ℕ) → class_named set name ≡ Some k → k < length (names_of set)
class_there set name k e = let below = place_below 0 k (names_of set) name e in omega (arith, below)
