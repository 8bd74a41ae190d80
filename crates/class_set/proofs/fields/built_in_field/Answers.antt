use Rattle.std.proofs.Common.{rules, ◌≡◌, Some, map}
use Rattle.built_in_table.specs.Rows.{member_facts}
use Rattle.class_set.specs.Lookups.{find_member}
use Rattle.class_set.specs.Tables.{found_of}
use Rattle.class_set.proofs.FieldPlaces.{found_member, placed_is}
use Rattle.class_set.proofs.fields.built_in_field.Goals as goal

pub returns : goal.returns
returns c =
    let ms = map member_facts c.args.built_in.now.fields.now in
    let found : Some c.in_ok-found.found ≡ found_of (find_member ms c.args.name.now c.args.descriptor.now) = search rules in
    placed_is c.args.class (find_member ms c.args.name.now c.args.descriptor.now) c.in_ok-found.found c.args.descriptor.now c.kind_of.result
    (found_member ms c.args.name.now c.args.descriptor.now c.in_ok-found.found found) c.kind_of.ensures
