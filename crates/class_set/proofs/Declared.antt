-- The members that classes declare.
use Rattle.std.proofs.Common.{◌≡◌, ℕ, zero, suc, ◌-◌, ◌<◌, ◌≤◌, Bool, true, false, nat_lt, List, [], ◌∷◌, Option, Some, None}
use Rattle.std.proofs.Common.{map, length, refl, ap, sym, ◌∙◌, arith, ◌&&◌}
use Rattle.std.specs.Prelude.{IfSome, slice_get}
use Rattle.std.specs.Option.{option_map}
use Rattle.std.proofs.lemmas.Bool.{false≢true}
use Rattle.std.proofs.lemmas.Bool.Decides.{nat_tests}
use Rattle.std.proofs.lemmas.List.{get_or_past, length-map}
use Rattle.std.proofs.lemmas.Option.{slice_get-map, slice_get_past}
use Rattle.class_file.specs.declared.class.ClassFile.{ClassFile}
use Rattle.built_in_table.specs.declared.built_in.BuiltIn.{BuiltIn as Row}
use Rattle.built_in_table.specs.Members.{BuiltInClass, MemberFacts, built_in_at, built_in_members, with_methods}
use Rattle.built_in_table.specs.Rows.{row_members, member_facts}
use Rattle.class_set.specs.declared.members.Found.{Found}
use Rattle.class_set.specs.Linked.{Linked, OfFile, behind_files, array_or_none}
use Rattle.class_set.specs.Members.{field_facts, own_fields, own_methods, methods_of_sort}

pub below_more : (o : Option Found) (n m : ℕ) → n < m → IfSome o (λ f. f.place < n) → IfSome o (λ f. f.place < m)
below_more None n m l h = h
below_more (Some f) n m l h = omega (arith, l, h)

are_short : List BuiltInClass → Bool
are_short [] = true
are_short (c ∷ cs) = nat_lt (length c.methods) 65536 && are_short cs

both_true : (a b : Bool) → (a && b) ≡ true → (a ≡ true) × (b ≡ true)
both_true true b h = (refl, h)
both_true false b h = absurd (false≢true h)

short_at : (cs : List BuiltInClass) (k : ℕ) (c : BuiltInClass) → are_short cs ≡ true → slice_get cs k ≡ Some c → length c.methods < 65536
unfolding are_short
short_at [] k c h e = absurd (cc)
short_at (d ∷ ds) zero c h e =
    let l : nat_lt (length d.methods) 65536 ≡ true = (both_true (nat_lt (length d.methods) 65536) (are_short ds) h).0 in
    let same : d ≡ c = cc in
    rw (← same) (grind (arith, nat_tests))
short_at (d ∷ ds) (suc k) c h e = short_at ds k c (both_true (nat_lt (length d.methods) 65536) (are_short ds) h).1 e

built_ins_short : are_short built_in_members ≡ true
unfolding are_short built_in_members
built_ins_short = refl

-- a row of the table has few methods
pub short_row : (rows : List Row) (k : ℕ) (row : Row) → map row_members rows ≡ built_in_members → slice_get rows k ≡ Some row
    → length row.methods.now < 65536
short_row rows k row same at =
    let there : slice_get built_in_members k ≡ Some (row_members row) =
    ap (λ cs. slice_get cs k) (sym same) ∙ slice_get-map row_members rows k ∙ ap (option_map row_members) at in
    rw (length-map row.methods.now member_facts) at (short_at built_in_members k (row_members row) built_ins_short there)

pub members_counted : length built_in_members ≡ 28
unfolding built_in_members
members_counted = refl

-- behind the files and the built-in classes stands none with fields
pub own_none : (files : List ClassFile) (n : ℕ) (rows : List Row) → map row_members rows ≡ built_in_members → length files ≤ n
    → nat_lt (n - length files) (length rows) ≡ false → own_fields files n ≡ []
own_none files n rows same past none =
    let counted : length rows ≡ 28 = sym (length-map rows row_members) ∙ ap length same ∙ members_counted in
    let test : nat_lt (n - length files) 28 ≡ false = ap (λ m. nat_lt (n - length files) m) (sym counted) ∙ none in
    let far : length built_in_members ≤ n - length files = grind (arith, nat_tests, members_counted) in
    ap (λ (o : Option ClassFile). elim o as (λ x. List MemberFacts)
    [ None ↦ (built_in_at (n - length files)).fields | Some c ↦ map (field_facts c.pool) c.fields ]) (slice_get_past files n past)
    ∙ ap (λ (c : BuiltInClass). c.fields) (get_or_past built_in_members (n - length files) (with_methods []) far)

none_declared : (o : Option (List ℕ)) → methods_of_sort (array_or_none o) ≡ []
none_declared None = refl
none_declared (Some d) = refl

behind : (set : Linked) (n : ℕ) → nat_lt n 28 ≡ false → methods_of_sort (behind_files set n) ≡ []
behind set n past = rw past (none_declared (slice_get set.arrays (n - 28)))

pub none_behind : (set : Linked) (n : ℕ) → slice_get set.files n ≡ None → nat_lt (n - length set.files) 28 ≡ false → own_methods set n ≡ []
none_behind set n none past =
    ap (λ (o : Option ClassFile). methods_of_sort (elim o [ None ↦ behind_files set (n - length set.files) | Some file ↦ OfFile file ])) none
    ∙ behind set (n - length set.files) past
