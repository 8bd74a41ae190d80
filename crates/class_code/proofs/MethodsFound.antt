-- The methods that look-ups find have rows, of the same sort.
use Rattle.std.proofs.Common.{true, false, ◌≡◌, ℕ, suc, zero, ◌+◌, ◌<◌, Bool, List, [], ◌∷◌, Option, Some, None, length, get_or}
use Rattle.std.proofs.Common.{refl, ap, sym, ◌∙◌, subst, arith}
use Rattle.std.specs.Prelude.{◌&&◌, All, codes, IfSome, nat_lt, Result, Ok, Err, if◌then◌else◌}
use Rattle.std.specs.Str.{bytes_eq}
use Rattle.std.proofs.lemmas.Bool.{false≢true}
use Rattle.std.proofs.lemmas.List.Elements.{All-append, All-cons, All-nil}
use Rattle.std.proofs.lemmas.Slice.Eq.{bytes_eq-Decides}
use Rattle.run_types.specs.declared.fault.LinkKind.{LinkKind}
use Rattle.run_types.specs.declared.fault.LinkKind.TheVariants.{MissingMethod, NoCode, StaticMismatch}
use Rattle.run_types.specs.declared.resolved.MethodAt.{MethodAt}
use Rattle.parsing.specs.Results.{◌>>=◌}
use Rattle.const_pool.specs.Parsing.{descriptor_at, method_at, result_at, only_field, parameters_at, field_at, brackets}
use Rattle.const_pool.specs.Parsing.{element_at, base_at, class_at, after_front, name_len}
use Rattle.const_pool.specs.Pool.{Slots}
use Rattle.const_pool.specs.Utf8.{bad_place, char_len}
use Rattle.plain_model.specs.Facts.{superclasses_of}
use Rattle.built_in_table.specs.Members.{MemberFacts}
use Rattle.class_set.specs.Linked.{Linked}
use Rattle.class_set.specs.Facts.{facts_of}
use Rattle.class_set.specs.Members.{own_methods}
use Rattle.class_set.specs.Lookups.{find_member, find_method, is_named, member_from, own_method}
use Rattle.class_set.specs.Lookups.{method_at as placed_at}
use Rattle.frames.specs.Tables as tables
use Rattle.frames.specs.declared.program.Dispatch.{Dispatch}
use Rattle.frames.specs.declared.program.Target.{Target}
use Rattle.frames.specs.declared.program.Target.TheVariants as target
use Rattle.plain_frames.specs.Tables.{IsInitialiserOf, IsInstanceMethod, IsOwnTarget, IsStaticMethod, IsTarget}
use Rattle.class_code.specs.Classes.{dispatch_from, dispatch_to, target_of}
use Rattle.class_code.specs.Entries.{MemberName, Signature, called_method, class_called, found_or, method_from, method_name}
use Rattle.class_code.specs.Entries.{special_of_entry, special_start, static_of_entry}
use Rattle.class_code.specs.Methods.{can_run, method_count, method_number, parameters_of}
use Rattle.class_code.specs.Programs.{program_of}
use Rattle.class_code.proofs.Found.{first_there}
use Rattle.class_code.proofs.MethodRows.{Head, head, method_told, no_member}

-- ---- a method of the set

pub record IsMethod (set : Linked) (m : MethodAt) : Type 0 where
  pub there : m.method < method_count set m.class
  pub static : (get_or (own_methods set m.class) m.method no_member).is_static ≡ m.is_static

-- the member that is found at a place
pub record IsAtPlace (n : ℕ) (ms : List MemberFacts) (name descriptor : List ℕ) (f : ℕ × MemberFacts) : Type 0 where
  pub place : ℕ
  pub behind : f.0 ≡ n + place
  pub within : place < length ms
  pub member : get_or ms place no_member ≡ f.1
  pub named : is_named name descriptor f.1 ≡ true

found_at : (n : ℕ) (ms : List MemberFacts) (name descriptor : List ℕ) (f : ℕ × MemberFacts) → member_from n ms name descriptor ≡ Some f
    → IsAtPlace n ms name descriptor f
found_at n [] name descriptor f e = let no : ⊥ = cc in absurd no
found_at n (m ∷ ms) name descriptor f e = one (λ h. found_at (n + 1) ms name descriptor f h) (is_named name descriptor m) refl e
  where
    one : (member_from (n + 1) ms name descriptor ≡ Some f → IsAtPlace (n + 1) ms name descriptor f) → (b : Bool)
        → is_named name descriptor m ≡ b → (if b then Some (n, m) else member_from (n + 1) ms name descriptor) ≡ Some f
        → IsAtPlace n (m ∷ ms) name descriptor f
    one next true h e =
        let same : (n, m) ≡ f = cc in
        let at : n ≡ f.0 = ap (λ (x : ℕ × MemberFacts). x.0) same in
        let is : m ≡ f.1 = ap (λ (x : ℕ × MemberFacts). x.1) same in
        record {
          place = 0;
          behind = omega arith;
          within = omega arith;
          member = is;
          named = ap (is_named name descriptor) (sym is) ∙ h;
        }
    one next false h e =
        let further = next e in
        record {
          place = suc further.place;
          behind = omega (arith, further.behind);
          within = omega (arith, further.within);
          member = further.member;
          named = further.named;
        }

own_at : (set : Linked) (name descriptor : List ℕ) (class : ℕ) (m : MethodAt) → own_method set name descriptor class ≡ Some m
    → (f : ℕ × MemberFacts) × IsAtPlace 0 (own_methods set class) name descriptor f
    × (record { class = class; method = f.0; is_static = f.1.is_static } ≡ m)
own_at set name descriptor class m e = one (find_member (own_methods set class) name descriptor) refl e
  where
    one : (o : Option (ℕ × MemberFacts)) → find_member (own_methods set class) name descriptor ≡ o → placed_at class o ≡ Some m
        → (f : ℕ × MemberFacts) × IsAtPlace 0 (own_methods set class) name descriptor f
        × (record { class = class; method = f.0; is_static = f.1.is_static } ≡ m)
    one None h e = let no : ⊥ = cc in absurd no
    one (Some f) h e = (f, found_at 0 (own_methods set class) name descriptor f h, cc)

pub own_is : (set : Linked) (name descriptor : List ℕ) (class : ℕ) (m : MethodAt) → own_method set name descriptor class ≡ Some m → IsMethod set m
own_is set name descriptor class m e =
    let own = own_at set name descriptor class m e in
    let at = own.1 in
    let same : at.place ≡ own.0.0 = omega (arith, at.behind) in
    subst (IsMethod set) own.2 (record {
      there = (let low = at.within in omega (arith, same, low));
      static = ap (λ k. (get_or (own_methods set class) k no_member).is_static) (sym same) ∙ ap (λ (x : MemberFacts). x.is_static) at.member;
    })

pub found_is : (set : Linked) (class : ℕ) (name descriptor : List ℕ) (m : MethodAt) → find_method set class name descriptor ≡ Some m → IsMethod set m
found_is set class name descriptor m e =
    first_there (own_method set name descriptor) (IsMethod set) (superclasses_of (facts_of set) class) m
    (λ n h. own_is set name descriptor n m h) e

-- ---- what calls find

abbrev IsCallable : Linked → Bool → MethodAt → Type 0
IsCallable set static m = IsMethod set m × (m.is_static ≡ static)

called_is : (set : Linked) (static : Bool) (m found : MethodAt) → IsMethod set m → called_method set static m ≡ Ok found → IsCallable set static found
called_is set true m found is e = one m.is_static refl (can_run set m) e
  where
    one : (s : Bool) → m.is_static ≡ s → (r : Bool) → (if s then (if r then Ok m else Err NoCode) else Err StaticMismatch) ≡ Ok found → IsCallable set true found
    one true h true e = let same : m ≡ found = cc in subst (IsCallable set true) same (is, h)
    one true h false e = let no : ⊥ = cc in absurd no
    one false h r e = let no : ⊥ = cc in absurd no
called_is set false m found is e = one m.is_static refl (can_run set m) e
  where
    one : (s : Bool) → m.is_static ≡ s → (r : Bool) → (if s then Err StaticMismatch else (if r then Ok m else Err NoCode)) ≡ Ok found → IsCallable set false found
    one false h true e = let same : m ≡ found = cc in subst (IsCallable set false) same (is, h)
    one false h false e = let no : ⊥ = cc in absurd no
    one true h r e = let no : ⊥ = cc in absurd no

from_is : (set : Linked) (static : Bool) (class : ℕ) (name : MemberName) (m : MethodAt) → method_from set static class name ≡ Ok m → IsCallable set static m
from_is set static class name m e = one (find_method set class name.name name.descriptor) refl e
  where
    one : (o : Option MethodAt) → find_method set class name.name name.descriptor ≡ o → (found_or MissingMethod o >>= called_method set static) ≡ Ok m
        → IsCallable set static m
    one None h e = let no : ⊥ = cc in absurd no
    one (Some found) h e = called_is set static found m (found_is set class name.name name.descriptor found h) e

pub static_is : (set : Linked) (pool : Slots) (index : ℕ) (m : MethodAt) → static_of_entry set pool index ≡ Ok m → IsCallable set true m
static_is set pool index m e = named (method_name pool index) e
  where
    of_class : (name : MemberName) (r : Result ℕ LinkKind) → (r >>= (λ class. method_from set true class name)) ≡ Ok m → IsCallable set true m
    of_class name (Err kind) e = let no : ⊥ = cc in absurd no
    of_class name (Ok class) e = from_is set true class name m e

    named : (o : Option MemberName) → (found_or MissingMethod o >>= (λ name. class_called set name.class >>= (λ class. method_from set true class name))) ≡ Ok m
        → IsCallable set true m
    named None e = let no : ⊥ = cc in absurd no
    named (Some name) e = of_class name (class_called set name.class) e

pub special_is : (set : Linked) (current : ℕ) (pool : Slots) (index : ℕ) (m : MethodAt) → special_of_entry set current pool index ≡ Ok m
    → IsCallable set false m
special_is set current pool index m e = named (method_name pool index) e
  where
    of_class : (name : MemberName) (r : Result ℕ LinkKind)
        → (r >>= (λ class. method_from set false (special_start set current class name.name) name)) ≡ Ok m → IsCallable set false m
    of_class name (Err kind) e = let no : ⊥ = cc in absurd no
    of_class name (Ok class) e = from_is set false (special_start set current class name.name) name m e

    named : (o : Option MemberName)
        → (found_or MissingMethod o >>= (λ name. class_called set name.class >>= (λ class. method_from set false (special_start set current class name.name) name)))
        ≡ Ok m → IsCallable set false m
    named None e = let no : ⊥ = cc in absurd no
    named (Some name) e = of_class name (class_called set name.class) e

-- ---- their rows

module _ {M : Type 0} (native_at : (place number : ℕ) → Option M) (set : Linked) where
  row_static : (m : MethodAt) (static : Bool) → IsCallable set static m
      → (tables.method_at (program_of native_at set) (method_number set m)).is_static ≡ static
  row_static m static is = ap (λ (h : Head). h.is_static) (method_told native_at set m is.0.there).1 ∙ is.0.static ∙ is.1

  pub instance_row : (m : MethodAt) → IsCallable set false m → IsInstanceMethod (facts_of set) (program_of native_at set) (method_number set m)
  instance_row m is = ((method_told native_at set m is.0.there).0, row_static m false is)

  pub static_row : (m : MethodAt) → IsCallable set true m → IsStaticMethod (facts_of set) (program_of native_at set) (method_number set m)
  static_row m is = ((method_told native_at set m is.0.there).0, row_static m true is)

  pub row_class : (m : MethodAt) → m.method < method_count set m.class → (tables.method_at (program_of native_at set) (method_number set m)).class ≡ m.class
  row_class m there = ap (λ (h : Head). h.class) (method_told native_at set m there).1

  -- ---- dispatch

  abbrev IsTargetIn : Target → Type 0
  IsTargetIn = IsTarget (facts_of set) (program_of native_at set)

  target_in : (m : MethodAt) → IsMethod set m → IsTargetIn (target_of set (called_method set false m))
  target_in m is = one (called_method set false m) refl
    where
      one : (r : Result MethodAt LinkKind) → called_method set false m ≡ r → IsTargetIn (target_of set r)
      one (Err kind) e = tt
      one (Ok found) e = instance_row found (called_is set false m found is e)

  abbrev IsRowIn : Dispatch → Type 0
  IsRowIn d = IsTargetIn d.target

  one_in : (n : ℕ) (o : Option MethodAt) → ((m : MethodAt) → o ≡ Some m → IsMethod set m) → All IsRowIn (dispatch_to set n o)
  one_in n None h = All-nil IsRowIn
  one_in n (Some m) h =
      All-cons IsRowIn (record { signature = n; target = target_of set (called_method set false m) }) [] (target_in m (h m refl)) (All-nil IsRowIn)

  pub targets_in : (class n : ℕ) (ss : List Signature) → All IsRowIn (dispatch_from set class n ss)
  targets_in class n [] = All-nil IsRowIn
  targets_in class n (s ∷ ss) =
      All-append IsRowIn (dispatch_to set n (find_method set class s.name s.descriptor)) (dispatch_from set class (suc n) ss)
      (one_in n (find_method set class s.name s.descriptor) (λ m e. found_is set class s.name s.descriptor m e))
      (targets_in class (suc n) ss)

  pub own_target : (class : ℕ) (m : MethodAt) → m.class ≡ class → m.method < method_count set class
      → IsOwnTarget (facts_of set) (program_of native_at set) class (target_of set (called_method set false m))
  own_target class m own there = one m.is_static (can_run set m)
    where
      at : m.method < method_count set m.class
      at = subst (λ c. m.method < method_count set c) (sym own) there

      one : (s r : Bool) → IsOwnTarget (facts_of set) (program_of native_at set) class
          (target_of set (if s then Err StaticMismatch else (if r then Ok m else Err NoCode)))
      one true r = tt
      one false false = tt
      one false true = row_class m at ∙ own

-- ---- initialisers

parameters_none : parameters_of true (codes "()V") ≡ []
unfolding descriptor_at method_at result_at only_field parameters_at field_at brackets element_at base_at class_at
    after_front name_len bad_place char_len
parameters_none = refl

both : (a b : Bool) → (a && b) ≡ true → b ≡ true
both true b h = h
both false b h = absurd (false≢true h)

pub initialiser_in : {M : Type 0} (native_at : (place number : ℕ) → Option M) (set : Linked) (class : ℕ) (m : MethodAt)
    → own_method set (codes "<clinit>") (codes "()V") class ≡ Some m → m.class ≡ class → m.is_static ≡ true → class < length (facts_of set).program
    → IsInitialiserOf (facts_of set) (program_of native_at set) class (method_number set m)
initialiser_in native_at set class m e of_class static program =
    let is = own_is set (codes "<clinit>") (codes "()V") class m e in
    let told = method_told native_at set m is.there in
    let own = own_at set (codes "<clinit>") (codes "()V") class m e in
    let at = own.1 in
    let place : at.place ≡ own.0.0 = omega (arith, at.behind) in
    let descriptor : own.0.1.descriptor ≡ codes "()V"
    = (bytes_eq-Decides own.0.1.descriptor (codes "()V")).0 (both (bytes_eq own.0.1.name (codes "<clinit>")) (bytes_eq own.0.1.descriptor (codes "()V")) at.named) in
    let where_is : get_or (own_methods set m.class) m.method no_member ≡ own.0.1
    = ap (λ (x : MethodAt). get_or (own_methods set x.class) x.method no_member) (sym own.2)
    ∙ ap (λ k. get_or (own_methods set class) k no_member) (sym place) ∙ at.member in
    record {
      static = static_row native_at set m (is, static);
      own = row_class native_at set m is.there ∙ of_class;
      program = program;
      parameters = ap (λ (h : Head). h.parameters) told.1
          ∙ ap (λ b. parameters_of b (get_or (own_methods set m.class) m.method no_member).descriptor) (is.static ∙ static)
          ∙ ap (λ (x : MemberFacts). parameters_of true x.descriptor) where_is
          ∙ ap (parameters_of true) descriptor ∙ parameters_none;
    }
