use Rattle.std.proofs.Common.{rules, arith, ◌≡◌, ◌-◌, ap, sym, ◌∙◌, refl, length, Some, None}
use Rattle.std.specs.Prelude.{slice_get, nat_lt, false, true}
use Rattle.std.proofs.lemmas.Bool.Decides.{nat_tests}
use Rattle.std.proofs.lemmas.List.{length-map}
use Rattle.built_in_table.specs.Rows.{row_members}
use Rattle.std.proofs.lemmas.Option.{slice_get_read, slice_get_past}
use Rattle.class_set.specs.Linked.{Linked}
use Rattle.class_set.specs.Members.{own_methods}
use Rattle.class_set.specs.Lookups.{find_member}
use Rattle.class_set.specs.Tables.{linked_of, found_of}
use Rattle.class_set.proofs.Declared.{below_more, short_row, none_behind, members_counted}
use Rattle.class_set.proofs.set.ClassSet.declared_method.Goals as goal

pub returns-in-Some-clause-small : goal.returns-in-Some-clause-small
returns-in-Some-clause-small c =
    let row = c.in-Some.built_in.now in
    let k = c.args.class - c.len-2.result in
    let rows = c.built_in_classes.result.now in
    let test : nat_lt k (length rows) ≡ true = sym c.in-Some.ensures.lookup.0 in
    let there : slice_get rows k ≡ Some row =
    slice_get_read rows (length rows) k row refl (grind (arith, nat_tests)) c.in-Some.ensures.lookup.1 in
    below_more c.member_in.result (length row.methods.now) 65536
    (short_row c.built_in_classes.result.now k row c.built_in_classes.ensures.members there) c.member_in.ensures.within

pub returns-in-None-clause-found : goal.returns-in-None-clause-found
returns-in-None-clause-found c =
    let files = c.self.inside.files.items in
    let set = linked_of files c.self.inside.names in
    let size : c.len.result ≡ length files = search rules in
    let size-2 : c.len-2.result ≡ length files = search rules in
    let rows = c.built_in_classes.result.now in
    let counted : length rows ≡ 28 = sym (length-map rows row_members) ∙ ap length c.built_in_classes.ensures.members ∙ members_counted in
    let none : slice_get files c.args.class ≡ None = slice_get_past files c.args.class (omega (arith, size, c.if-class-len.false)) in
    let past : nat_lt (c.args.class - length files) 28 ≡ false =
    ap (λ n. nat_lt (c.args.class - n) 28) (sym size-2) ∙ ap (nat_lt (c.args.class - c.len-2.result)) (sym counted) ∙ sym c.in-None.ensures.lookup.0 in
    ap (λ ms. found_of (find_member ms c.args.name.now c.args.descriptor.now)) (sym (none_behind set c.args.class none past))
    ∙ ap (λ (s : Linked). found_of (find_member (own_methods s c.args.class) c.args.name.now c.args.descriptor.now)) c.self.view_is
