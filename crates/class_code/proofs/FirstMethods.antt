-- The numbers of first methods.
use Rattle.std.proofs.Common.{inl, inr, true, false, ◌≡◌, ℕ, zero, suc, ◌+◌, ◌-◌, ◌<◌, ◌≤◌, Bool, List, [], ◌∷◌, Option, Some}
use Rattle.std.proofs.Common.{None, map, length, get_or, refl, ap, sym, ◌∙◌, subst, arith}
use Rattle.std.specs.Prelude.{◌⊎◌, nat_lt, slice_get}
use Rattle.std.proofs.lemmas.Bool.{cases_lt}
use Rattle.std.specs.Option.{option_map}
use Rattle.std.proofs.lemmas.Bool.Decides.{nat_tests}
use Rattle.std.proofs.lemmas.List.{length-map}
use Rattle.std.proofs.lemmas.List.FromFn.{sum_by-map-range_with_len_more}
use Rattle.std.proofs.lemmas.Option.{slice_get-map, slice_get_past}
use Rattle.class_file.specs.declared.class.ClassFile.{ClassFile}
use Rattle.built_in_table.specs.declared.built_in.BuiltIn.{BuiltIn as Row}
use Rattle.built_in_table.specs.Members.{BuiltInClass, built_in_members, with_methods}
use Rattle.built_in_table.specs.Rows.{member_facts, row_members}
use Rattle.class_set.specs.Linked.{Linked, OfFile, behind_files, class_count}
use Rattle.class_set.specs.Members.{method_facts, methods_of_sort}
use Rattle.class_set.proofs.Declared.{none_behind}
use Rattle.class_code.specs.Firsts.{AreFirsts}
use Rattle.class_code.specs.Methods.{first_method, method_count}

pub first_more : (set : Linked) (class : ℕ) → first_method set (class + 1) ≡ first_method set class + method_count set class
first_more set class = sum_by-map-range_with_len_more (λ n. n) (method_count set) 0 class class (omega arith)

abbrev counted_by : Linked → ℕ → Option ClassFile → ℕ
counted_by set n o = length (methods_of_sort (elim o [ None ↦ behind_files set (n - length set.files) | Some file ↦ OfFile file ]))

pub count_of_file : (set : Linked) (n : ℕ) (file : ClassFile) → slice_get set.files n ≡ Some file → method_count set n ≡ length file.methods
count_of_file set n file h = ap (counted_by set n) h ∙ length-map file.methods (method_facts file.pool)

pub element : {X : Type 0} (xs : List X) (k : ℕ) (x d : X) → slice_get xs k ≡ Some x → get_or xs k d ≡ x
element [] k x d h = absurd cc
element (y ∷ ys) zero x d h = cc
element (y ∷ ys) (suc k) x d h = element ys k x d h

pub count_of_row : (set : Linked) (n : ℕ) (rows : List Row) (row : Row) → map row_members rows ≡ built_in_members
    → slice_get set.files n ≡ None → n - length set.files < 28 → slice_get rows (n - length set.files) ≡ Some row
    → method_count set n ≡ length row.methods.now
count_of_row set n rows row same none few at =
    let k = n - length set.files in
    let within : nat_lt k 28 ≡ true = grind (arith, nat_tests) in
    let there : slice_get built_in_members k ≡ Some (row_members row) =
    ap (λ cs. slice_get cs k) (sym same) ∙ slice_get-map row_members rows k ∙ ap (option_map row_members) at in
    ap (counted_by set n) none
    ∙ rw within (ap (λ (c : BuiltInClass). length c.methods) (element built_in_members k (row_members row) (with_methods []) there)
    ∙ length-map row.methods.now member_facts)

pub count_of_none : (set : Linked) (n : ℕ) → slice_get set.files n ≡ None → nat_lt (n - length set.files) 28 ≡ false → method_count set n ≡ 0
count_of_none set n none past = ap length (none_behind set n none past)

-- behind the classes no number has a method
pub past_all : (set : Linked) (n : ℕ) → class_count set ≤ n → method_count set n ≡ 0
past_all set n h =
    count_of_none set n (slice_get_past set.files n (omega arith)) (let far : 28 ≤ n - length set.files = omega arith in grind (arith, nat_tests))

pub are_firsts : (set : Linked) (firsts : List ℕ) → ((k : ℕ) → k < class_count set → get_or firsts k 0 ≡ first_method set k)
    → ((k : ℕ) → k < class_count set → first_method set k + method_count set k ≤ 4294967295) → AreFirsts set firsts
are_firsts set firsts at room = record {
  first = λ class some. at class (below class 0 some);
  room = λ class method there.
      let fits = room class (below class method there) in omega (arith, fits, there);
}
  where
    below : (class method : ℕ) → method < method_count set class → class < class_count set
    below class method h = one (nat_lt class (class_count set)) refl
      where
        one : (b : Bool) → nat_lt class (class_count set) ≡ b → class < class_count set
        one true e = grind (arith, nat_tests)
        one false e =
            let past : class_count set ≤ class = grind (arith, nat_tests) in
            let none = past_all set class past in absurd (omega (arith, none, h))

pub holds_more : (P : ℕ → Type 0) (i : ℕ) → ((k : ℕ) → k < i → P k) → P i → (k : ℕ) → k < i + 1 → P k
holds_more P i below here k h = one (cases_lt k i)
  where
    one : (k < i) ⊎ (i ≤ k) → P k
    one (inl l) = below k l
    one (inr l) = let same : i ≡ k = omega (arith, l, h) in subst P same here
