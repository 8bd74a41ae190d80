-- The methods of classes behind those of files.
use Rattle.std.proofs.Common.{◌≡◌, ℕ, ◌-◌, ◌≤◌, Bool, true, false, nat_lt, List, [], Option, Some, None, length, refl, ap, sym}
use Rattle.std.proofs.Common.{◌∙◌, arith}
use Rattle.std.specs.Prelude.{slice_get, if◌then◌else◌}
use Rattle.std.proofs.lemmas.Bool.Decides.{nat_tests}
use Rattle.std.proofs.lemmas.List.{get_or_past}
use Rattle.class_file.specs.declared.class.ClassFile.{ClassFile}
use Rattle.built_in_table.specs.Members.{BuiltInClass, built_in_at, built_in_members, with_methods}
use Rattle.class_set.specs.Linked.{Linked, OfFile, BuiltIn, behind_files, array_or_none}
use Rattle.class_set.specs.Members.{own_methods, methods_of_sort}

members_counted : length built_in_members ≡ 28
unfolding built_in_members
members_counted = refl

none_past : (k : ℕ) → nat_lt k 28 ≡ false → (built_in_at k).methods ≡ []
none_past k past =
    let far : length built_in_members ≤ k = grind (arith, nat_tests, members_counted) in
    ap (λ (c : BuiltInClass). c.methods) (get_or_past built_in_members k (with_methods []) far)

no_methods : (o : Option (List ℕ)) → methods_of_sort (array_or_none o) ≡ []
no_methods None = refl
no_methods (Some descriptor) = refl

behind : (set : Linked) (k : ℕ) (b : Bool) → nat_lt k 28 ≡ b
    → methods_of_sort (if b then BuiltIn k else array_or_none (slice_get set.arrays (k - 28))) ≡ (built_in_at k).methods
behind set k true h = refl
behind set k false h = no_methods (slice_get set.arrays (k - 28)) ∙ sym (none_past k h)

pub own_behind : (set : Linked) (n : ℕ) → slice_get set.files n ≡ None → own_methods set n ≡ (built_in_at (n - length set.files)).methods
own_behind set n none =
    let k = n - length set.files in
    ap (λ (o : Option ClassFile). methods_of_sort (elim o [ None ↦ behind_files set (n - length set.files) | Some file ↦ OfFile file ])) none
    ∙ behind set (n - length set.files) (nat_lt (n - length set.files) 28) refl
