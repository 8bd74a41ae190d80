use Rattle.std.proofs.Common.{rules, ◌≡◌, ◌-◌, ◌<◌, ◌≤◌, ◌+◌, Some, length, refl, ap, sym, ◌∙◌, arith}
use Rattle.std.specs.Prelude.{nat_lt, true, false, slice_get}
use Rattle.std.proofs.lemmas.Bool.Decides.{nat_tests}
use Rattle.std.proofs.lemmas.List.{length-map}
use Rattle.std.proofs.lemmas.Option.{slice_get_read}
use Rattle.plain_model.specs.Facts.{class_at}
use Rattle.built_in_table.specs.declared.built_in.BuiltIn.{BuiltIn as Row}
use Rattle.class_set.specs.Linked.{Linked}
use Rattle.class_set.specs.Facts.{facts_of}
use Rattle.class_set.specs.Tables.{linked_of}
use Rattle.class_set.proofs.Named.{built_in_flag, file_flag, type_flag}
use Rattle.class_set.proofs.set.ClassSet.is_interface.Goals as goal

pub returns-then-class-len : goal.returns-then-class-len
returns-then-class-len c =
    let files = c.self.inside.files.items in
    let set = linked_of files c.self.inside.names in
    let size : c.len.result ≡ length files = search rules in
    let l : c.args.class < length files = omega (arith, size, c.if-class-len.true) in
    c.is_interface.ensures
    ∙ sym (file_flag set c.args.class c.index.result.now l c.index.ensures)
    ∙ ap (λ (s : Linked). (class_at (facts_of s) c.args.class).is_interface) c.self.view_is

pub returns-in-Some : goal.returns-in-Some
returns-in-Some c =
    let files = c.self.inside.files.items in
    let set = linked_of files c.self.inside.names in
    let size : c.len.result ≡ length files = search rules in
    let size-2 : c.len-2.result ≡ length files = search rules in
    let row = c.in-Some.built_in.now in
    let rows = c.built_in_classes.result.now in
    let k = c.args.class - c.len-2.result in
    let test : nat_lt k (length rows) ≡ true = sym c.in-Some.ensures.lookup.0 in
    let within : k < length rows = grind (arith, nat_tests) in
    let there : slice_get rows k ≡ Some row = slice_get_read rows (length rows) k row refl within c.in-Some.ensures.lookup.1 in
    let at : slice_get rows (c.args.class - length files) ≡ Some row = ap (λ n. slice_get rows (c.args.class - n)) (sym size-2) ∙ there in
    let past : length files ≤ c.args.class = omega (arith, size, c.if-class-len.false) in
    let counted : length rows ≡ 28 = sym (length-map rows (λ (r : Row). r.is_interface)) ∙ ap length c.built_in_classes.ensures.kinds in
    let near : c.args.class < length files + 28 = omega (arith, within, counted, size-2, past) in
    sym (built_in_flag set c.args.class rows row c.built_in_classes.ensures.kinds past near at)
    ∙ ap (λ (s : Linked). (class_at (facts_of s) c.args.class).is_interface) c.self.view_is

pub returns-in-None : goal.returns-in-None
returns-in-None c =
    let files = c.self.inside.files.items in
    let set = linked_of files c.self.inside.names in
    let size : c.len.result ≡ length files = search rules in
    let size-2 : c.len-2.result ≡ length files = search rules in
    let rows = c.built_in_classes.result.now in
    let k = c.args.class - c.len-2.result in
    let past : length files ≤ c.args.class = omega (arith, size, c.if-class-len.false) in
    let test : nat_lt k (length rows) ≡ false = sym c.in-None.ensures.lookup.0 in
    let beyond : length rows ≤ k = grind (arith, nat_tests) in
    let counted : length rows ≡ 28 = sym (length-map rows (λ (r : Row). r.is_interface)) ∙ ap length c.built_in_classes.ensures.kinds in
    sym (type_flag set c.args.class (omega (arith, beyond, counted, size-2, past)))
    ∙ ap (λ (s : Linked). (class_at (facts_of s) c.args.class).is_interface) c.self.view_is
