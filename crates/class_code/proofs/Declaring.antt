-- What classes declare, one method after the other.
use Rattle.std.proofs.Common.{true, false, ◌≡◌, ℕ, ◌+◌, ◌-◌, ◌<◌, ◌≤◌, List, [], ◌∷◌, ◌++◌, Option, Some, None, map, length}
use Rattle.std.proofs.Common.{get_or, drop, ap, sym, ◌∙◌, append_assoc, arith}
use Rattle.std.specs.Prelude.{Bool, nat_lt, slice_get}
use Rattle.std.specs.List.{range_with_len}
use Rattle.std.specs.Option.{option_map}
use Rattle.std.proofs.lemmas.Bool.Decides.{nat_tests}
use Rattle.std.proofs.lemmas.List.{append-nil, at_drop_all}
use Rattle.std.proofs.lemmas.List.FromFn.{get_or-map-range_with_len, length-map-range_with_len, map-range_with_len_more}
use Rattle.std.proofs.lemmas.Option.{slice_get-map, slice_get_past}
use Rattle.class_file.specs.declared.class.ClassFile.{ClassFile}
use Rattle.built_in_table.specs.declared.built_in.BuiltIn.{BuiltIn as Row}
use Rattle.run_types.specs.declared.resolved.MethodAt.{MethodAt}
use Rattle.built_in_table.specs.Members.{BuiltInClass, MemberFacts, built_in_members, with_methods}
use Rattle.built_in_table.specs.Rows.{member_facts, row_members}
use Rattle.text_table.specs.Texts.{place_of}
use Rattle.plain_model.specs.Facts.{class_at}
use Rattle.class_set.specs.Linked.{Linked, OfFile, behind_files, class_count}
use Rattle.class_set.specs.Facts.{facts_of}
use Rattle.class_set.specs.Members.{method_facts, methods_of_sort, own_methods}
use Rattle.class_set.proofs.Declared.{none_behind}
use Rattle.frames.specs.declared.program.Class.{Class}
use Rattle.frames.specs.declared.program.Dispatch.{Dispatch}
use Rattle.frames.specs.declared.program.Target.{Target}
use Rattle.class_code.specs.declared.declared.Declared.{Declared}
use Rattle.class_code.specs.Classes.{class_of, initialiser_of, supertypes_of}
use Rattle.class_code.specs.Declarations.{all_declared, declared_at, declared_by, declared_from, target_at}
use Rattle.class_code.specs.Entries.{Signature, place_from, signatures_of}
use Rattle.class_code.specs.Signatures.{signature_texts, text_of}
use Rattle.class_code.proofs.Coding.{dropped}
use Rattle.class_code.proofs.FirstMethods.{element}
use Rattle.class_code.proofs.Signed.{placed}

abbrev declared_with : Option ℕ → Target → Declared
declared_with signature target = record { signature = signature; target = target }

pub same_declared : (set : Linked) (texts : List (List ℕ)) (m : MethodAt) (s : Signature) (o : Option ℕ) (t : Target) → texts ≡ signature_texts set.files
    → o ≡ place_of texts (text_of s) → t ≡ target_at set m
    → declared_with o t ≡ declared_at set m.class m.method (record { name = s.name; descriptor = s.descriptor; is_static = m.is_static })
same_declared set texts m s o t e at is =
    ap (λ n. declared_with n t) (at ∙ ap (λ ts. place_of ts (text_of s)) e ∙ placed 0 (signatures_of set.files) s)
    ∙ ap (declared_with (place_from 0 (signatures_of set.files) s)) is

-- one method more
pub declared_more : {X : Type 0} (set : Linked) (class : ℕ) (f : X → MemberFacts) (xs : List X) (i : ℕ) (x : X) (old new : List Declared)
    → i < length xs → x ≡ get_or xs i x → new ≡ old ++ declared_at set class i (f x) ∷ []
    → new ++ declared_from set class (i + 1) (map f (drop (i + 1) xs)) ≡ old ++ declared_from set class i (map f (drop i xs))
declared_more set class f xs i x old new h e n =
    let rest = declared_from set class (i + 1) (map f (drop (i + 1) xs)) in
    ap (λ ds. ds ++ rest) n ∙ append_assoc old (declared_at set class i (f x) ∷ []) rest
    ∙ ap (λ ys. old ++ declared_from set class i (map f ys)) (sym (dropped xs i x h e))

pub declared_ended : {X : Type 0} (set : Linked) (class i : ℕ) (f : X → MemberFacts) (xs : List X) (declared all : List Declared) → length xs ≤ i
    → declared ++ declared_from set class i (map f (drop i xs)) ≡ all → declared ≡ all
declared_ended set class i f xs declared all h e =
    sym (append-nil declared) ∙ sym (at_drop_all (λ ys. declared ++ declared_from set class i (map f ys)) xs i h) ∙ e

-- ---- the methods that a class declares

abbrev methods_by : Linked → ℕ → Option ClassFile → List MemberFacts
methods_by set n o = methods_of_sort (elim o [ None ↦ behind_files set (n - length set.files) | Some file ↦ OfFile file ])

pub own_of_file : (set : Linked) (n : ℕ) (file : ClassFile) → slice_get set.files n ≡ Some file
    → own_methods set n ≡ map (method_facts file.pool) file.methods
own_of_file set n file h = ap (methods_by set n) h

pub own_of_row : (set : Linked) (n : ℕ) (rows : List Row) (row : Row) → map row_members rows ≡ built_in_members
    → slice_get set.files n ≡ None → n - length set.files < 28 → slice_get rows (n - length set.files) ≡ Some row
    → own_methods set n ≡ map member_facts row.methods.now
own_of_row set n rows row same none few at =
    let k = n - length set.files in
    let within : nat_lt k 28 ≡ true = grind (arith, nat_tests) in
    let there : slice_get built_in_members k ≡ Some (row_members row) =
    ap (λ cs. slice_get cs k) (sym same) ∙ slice_get-map row_members rows k ∙ ap (option_map row_members) at in
    ap (methods_by set n) none
    ∙ rw within (ap (λ (c : BuiltInClass). c.methods) (element built_in_members k (row_members row) (with_methods []) there))

pub none_declared : (set : Linked) (n : ℕ) → slice_get set.files n ≡ None → nat_lt (n - length set.files) 28 ≡ false
    → [] ≡ declared_by set n
none_declared set n none past = sym (ap (declared_from set n 0) (none_behind set n none past))

-- ---- the methods that each class declares

pub mapped_more : {X : Type 0} (f : ℕ → X) (n : ℕ) (old new : List X) (x : X) → old ≡ map f (range_with_len 0 n) → x ≡ f n → new ≡ old ++ x ∷ []
    → new ≡ map f (range_with_len 0 (n + 1))
mapped_more f n old new x had is more =
    more ∙ ap (λ xs. xs ++ x ∷ []) had ∙ ap (λ y. map f (range_with_len 0 n) ++ y ∷ []) is
    ∙ sym (map-range_with_len_more f 0 n n (omega arith))

pub declared_read : (set : Linked) (ds : List (List Declared)) (n : ℕ) (d : List Declared) → n < length ds → ds ≡ all_declared set
    → get_or ds n d ≡ declared_by set n
declared_read set ds n d l e =
    let size : length ds ≡ class_count set = ap length e ∙ length-map-range_with_len (declared_by set) 0 (class_count set) in
    ap (λ xs. get_or xs n d) e ∙ get_or-map-range_with_len (declared_by set) 0 (class_count set) n n d (omega (arith, size, l)) (omega arith)

pub declared_past : (set : Linked) (ds : List (List Declared)) (n : ℕ) → length ds ≤ n → ds ≡ all_declared set → [] ≡ declared_by set n
declared_past set ds n l e =
    let size : length ds ≡ class_count set = ap length e ∙ length-map-range_with_len (declared_by set) 0 (class_count set) in
    none_declared set n (slice_get_past set.files n (omega (arith, size, l)))
    (let far : 28 ≤ n - length set.files = omega (arith, size, l) in grind (arith, nat_tests))

-- ---- the row of a class

abbrev class_with : List ℕ → List Dispatch → Option ℕ → Option ℕ → Bool → Class
class_with s d u i p = record { supertypes = s; dispatch = d; superclass = u; initialiser = i; of_program = p }

pub same_class : (set : Linked) (n : ℕ) (s : List ℕ) (d : List Dispatch) (u i : Option ℕ) (p : Bool) → s ≡ supertypes_of set n
    → d ≡ (class_of set n).dispatch → u ≡ (class_at (facts_of set) n).superclass → i ≡ initialiser_of set n → p ≡ nat_lt n (length set.files)
    → class_with s d u i p ≡ class_of set n
same_class set n s d u i p e f g h k =
    ap (λ x. class_with x d u i p) e ∙ ap (λ x. class_with (supertypes_of set n) x u i p) f
    ∙ ap (λ x. class_with (supertypes_of set n) (class_of set n).dispatch x i p) g
    ∙ ap (λ x. class_with (supertypes_of set n) (class_of set n).dispatch (class_at (facts_of set) n).superclass x p) h
    ∙ ap (class_with (supertypes_of set n) (class_of set n).dispatch (class_at (facts_of set) n).superclass (initialiser_of set n)) k
