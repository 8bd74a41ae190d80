use Rattle.std.proofs.Common.{rules, ◌≡◌, ◌-◌, ◌≤◌, Some, length, refl, ap, sym, ◌∙◌, arith}
use Rattle.std.specs.Prelude.{nat_lt, true, false, slice_get}
use Rattle.std.proofs.lemmas.Bool.Decides.{nat_tests}
use Rattle.std.proofs.lemmas.List.{length-map}
use Rattle.std.proofs.lemmas.Option.{slice_get_read}
use Rattle.built_in_table.specs.Rows.{member_facts}
use Rattle.class_set.specs.Linked.{Linked}
use Rattle.class_set.specs.Lookups.{field_at, find_member, own_field}
use Rattle.class_set.specs.Tables.{placed_field}
use Rattle.class_set.proofs.BuiltInFields.{built_in_is, own_of_row}
use Rattle.class_set.proofs.Declared.{own_none}
use Rattle.class_set.proofs.FieldPlaces.{own_short}
use Rattle.class_set.proofs.set.ClassSet.own_field.Goals as goal

pub built_in_field-requires : goal.built_in_field-requires
built_in_field-requires c =
    let files = c.self.inside.files.items in
    let size : c.len.result ≡ length files = search rules in
    let size-2 : c.len-2.result ≡ length files = search rules in
    let row = c.in-Some.built_in.now in
    let rows = c.built_in_classes.result.now in
    let k = c.args.class - c.len-2.result in
    let test : nat_lt k (length rows) ≡ true = sym c.in-Some.ensures.lookup.0 in
    let there : slice_get rows k ≡ Some row = slice_get_read rows (length rows) k row refl (grind (arith, nat_tests)) c.in-Some.ensures.lookup.1 in
    let at : slice_get rows (c.args.class - length files) ≡ Some row = ap (λ n. slice_get rows (c.args.class - n)) (sym size-2) ∙ there in
    let past : length files ≤ c.args.class = omega (arith, size, c.if-class-len.false) in
    let own = own_of_row files c.args.class rows row c.built_in_classes.ensures.members past at in
    record { small = omega (arith, ap length own, length-map row.fields.now member_facts, own_short files c.args.class c.self.invariant.0.small) }

pub returns-in-Some : goal.returns-in-Some
returns-in-Some c =
    let files = c.self.inside.files.items in
    let size : c.len.result ≡ length files = search rules in
    let size-2 : c.len-2.result ≡ length files = search rules in
    let row = c.in-Some.built_in.now in
    let rows = c.built_in_classes.result.now in
    let k = c.args.class - c.len-2.result in
    let test : nat_lt k (length rows) ≡ true = sym c.in-Some.ensures.lookup.0 in
    let there : slice_get rows k ≡ Some row = slice_get_read rows (length rows) k row refl (grind (arith, nat_tests)) c.in-Some.ensures.lookup.1 in
    let at : slice_get rows (c.args.class - length files) ≡ Some row = ap (λ n. slice_get rows (c.args.class - n)) (sym size-2) ∙ there in
    let past : length files ≤ c.args.class = omega (arith, size, c.if-class-len.false) in
    let own = own_of_row files c.args.class rows row c.built_in_classes.ensures.members past at in
    c.built_in_field.ensures
    ∙ ap (λ ms. placed_field c.args.class (find_member ms c.args.name.now c.args.descriptor.now)) (sym own)
    ∙ built_in_is files c.args.class c.args.name.now c.args.descriptor.now past
    ∙ ap (λ (s : Linked). own_field s.files c.args.name.now c.args.descriptor.now c.args.class) c.self.view_is

pub returns-in-None : goal.returns-in-None
returns-in-None c =
    let files = c.self.inside.files.items in
    let size : c.len.result ≡ length files = search rules in
    let size-2 : c.len-2.result ≡ length files = search rules in
    let rows = c.built_in_classes.result.now in
    let past : length files ≤ c.args.class = omega (arith, size, c.if-class-len.false) in
    let none : nat_lt (c.args.class - length files) (length rows) ≡ false =
    ap (λ n. nat_lt (c.args.class - n) (length rows)) (sym size-2) ∙ sym c.in-None.ensures.lookup.0 in
    let own = own_none files c.args.class rows c.built_in_classes.ensures.members past none in
    sym (ap (λ ms. field_at files c.args.class (find_member ms c.args.name.now c.args.descriptor.now)) own)
    ∙ ap (λ (s : Linked). own_field s.files c.args.name.now c.args.descriptor.now c.args.class) c.self.view_is
