use Rattle.std.proofs.Common.{◌≡◌, ◌-◌, ◌<◌, Some, None, true, false, length, refl, ap, sym, ◌∙◌, arith}
use Rattle.std.specs.Prelude.{slice_get, slice_index_or, nat_lt}
use Rattle.std.proofs.lemmas.Bool.Decides.{nat_tests}
use Rattle.std.proofs.lemmas.List.{length-map}
use Rattle.std.proofs.lemmas.Option.{slice_get_read, slice_get_past}
use Rattle.built_in_table.specs.Rows.{row_members}
use Rattle.class_set.proofs.Declared.{members_counted, short_row}
use Rattle.class_code.specs.Methods.{method_count}
use Rattle.class_code.proofs.FirstMethods.{count_of_file, count_of_none, count_of_row}
use Rattle.class_code.proofs.firsts.method_count.Goals as goal

pub returns-then-class-files-clause-count : goal.returns-then-class-files-clause-count
returns-then-class-files-clause-count c =
    let set = c.args.set.now in
    let files = set.files in
    let same = c.files-files.ensures in
    let file = c.index-files-class.result in
    let l : c.args.class < length files = omega (arith, c.if-class-files.true, ap length same) in
    let at : file ≡ slice_index_or files c.args.class file = c.index-files-class.is ∙ ap (λ xs. slice_index_or xs c.args.class file) same in
    let e : method_count set c.args.class ≡ length file.methods
    = count_of_file set c.args.class file (slice_get_read files (length files) c.args.class file refl l at) in
    cc

pub returns-in-Some-clause-count : goal.returns-in-Some-clause-count
returns-in-Some-clause-count c =
    let set = c.args.set.now in
    let files = set.files in
    let given = c.files-files.result.now in
    let row = c.in-Some.built_in.now in
    let k = c.args.class - length given in
    let rows = c.built_in_classes.result.now in
    let size : length given ≡ length files = ap length c.files-files.ensures in
    let counted : length rows ≡ 28 = sym (length-map rows row_members) ∙ ap length c.built_in_classes.ensures.members ∙ members_counted in
    let none : slice_get files c.args.class ≡ None = slice_get_past files c.args.class (omega (arith, size, c.if-class-files.false)) in
    let test : nat_lt k (length rows) ≡ true = sym c.in-Some.ensures.lookup.0 in
    let low : k < length rows = grind (arith, nat_tests) in
    let there : slice_get rows k ≡ Some row = slice_get_read rows (length rows) k row refl low c.in-Some.ensures.lookup.1 in
    let few : c.args.class - length files < 28 = omega (arith, low, counted, size) in
    let at : slice_get rows (c.args.class - length files) ≡ Some row = ap (λ n. slice_get rows (c.args.class - n)) (sym size) ∙ there in
    let e : method_count set c.args.class ≡ length row.methods.now
    = count_of_row set c.args.class rows row c.built_in_classes.ensures.members none few at in
    cc

pub returns-in-Some-clause-few : goal.returns-in-Some-clause-few
returns-in-Some-clause-few c =
    let set = c.args.set.now in
    let files = set.files in
    let given = c.files-files.result.now in
    let row = c.in-Some.built_in.now in
    let k = c.args.class - length given in
    let rows = c.built_in_classes.result.now in
    let size : length given ≡ length files = ap length c.files-files.ensures in
    let counted : length rows ≡ 28 = sym (length-map rows row_members) ∙ ap length c.built_in_classes.ensures.members ∙ members_counted in
    let none : slice_get files c.args.class ≡ None = slice_get_past files c.args.class (omega (arith, size, c.if-class-files.false)) in
    let test : nat_lt k (length rows) ≡ true = sym c.in-Some.ensures.lookup.0 in
    let low : k < length rows = grind (arith, nat_tests) in
    let there : slice_get rows k ≡ Some row = slice_get_read rows (length rows) k row refl low c.in-Some.ensures.lookup.1 in
    let few : c.args.class - length files < 28 = omega (arith, low, counted, size) in
    let at : slice_get rows (c.args.class - length files) ≡ Some row = ap (λ n. slice_get rows (c.args.class - n)) (sym size) ∙ there in
    let e : method_count set c.args.class ≡ length row.methods.now
    = count_of_row set c.args.class rows row c.built_in_classes.ensures.members none few at in
    omega (arith, e, short_row rows k row c.built_in_classes.ensures.members there)

pub returns-in-None-clause-count : goal.returns-in-None-clause-count
returns-in-None-clause-count c =
    let set = c.args.set.now in
    let files = set.files in
    let given = c.files-files.result.now in
    let size : length given ≡ length files = ap length c.files-files.ensures in
    let rows = c.built_in_classes.result.now in
    let counted : length rows ≡ 28 = sym (length-map rows row_members) ∙ ap length c.built_in_classes.ensures.members ∙ members_counted in
    let none : slice_get files c.args.class ≡ None = slice_get_past files c.args.class (omega (arith, size, c.if-class-files.false)) in
    let past : nat_lt (c.args.class - length files) 28 ≡ false =
    ap (λ n. nat_lt (c.args.class - n) 28) (sym size) ∙ ap (nat_lt (c.args.class - length given)) (sym counted) ∙ sym c.in-None.ensures.lookup.0 in
    sym (count_of_none set c.args.class none past)

pub returns-in-None-clause-few : goal.returns-in-None-clause-few
returns-in-None-clause-few c =
    let set = c.args.set.now in
    let files = set.files in
    let given = c.files-files.result.now in
    let size : length given ≡ length files = ap length c.files-files.ensures in
    let rows = c.built_in_classes.result.now in
    let counted : length rows ≡ 28 = sym (length-map rows row_members) ∙ ap length c.built_in_classes.ensures.members ∙ members_counted in
    let none : slice_get files c.args.class ≡ None = slice_get_past files c.args.class (omega (arith, size, c.if-class-files.false)) in
    let past : nat_lt (c.args.class - length files) 28 ≡ false =
    ap (λ n. nat_lt (c.args.class - n) 28) (sym size) ∙ ap (nat_lt (c.args.class - length given)) (sym counted) ∙ sym c.in-None.ensures.lookup.0 in
    omega (arith, count_of_none set c.args.class none past)
