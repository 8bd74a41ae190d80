use Rattle.std.proofs.Common.{rules, ◌≡◌, ◌<◌, Some, map, length, refl, ap, sym, ◌∙◌, arith}
use Rattle.std.specs.Prelude.{slice_get}
use Rattle.std.proofs.lemmas.Option.{slice_get_read}
use Rattle.class_set.specs.Linked.{Linked}
use Rattle.class_set.specs.Members.{field_facts, own_fields}
use Rattle.class_set.specs.Lookups.{find_member}
use Rattle.class_set.specs.Tables.{found_of}
use Rattle.class_set.proofs.FieldPlaces.{field_is, found_member, own_of_file}
use Rattle.class_set.proofs.set.ClassSet.file_field.Goals as goal

pub returns : goal.returns
returns c =
    let files = c.self.inside.files.items in
    let all = c.args.self.now.files in
    let same = ap (λ (s : Linked). s.files) c.self.view_is in
    let file = c.index.result.now in
    let l : c.args.class < length files = omega (arith, c.requires, ap length same) in
    let get : slice_get all c.args.class ≡ Some file =
    ap (λ fs. slice_get fs c.args.class) (sym same) ∙ slice_get_read files (length files) c.args.class file refl l c.index.ensures in
    let own = own_of_file all c.args.class file get in
    let found : Some c.in_ok-found.found ≡ found_of (find_member (map (field_facts file.pool) file.fields) c.args.name.now c.args.descriptor.now) = search rules in
    let here : Some c.in_ok-found.found ≡ found_of (find_member (own_fields all c.args.class) c.args.name.now c.args.descriptor.now) =
    found ∙ ap (λ ms. found_of (find_member ms c.args.name.now c.args.descriptor.now)) (sym own) in
    field_is all c.args.class c.slot_of.result (find_member (own_fields all c.args.class) c.args.name.now c.args.descriptor.now) c.in_ok-found.found
    c.args.descriptor.now c.kind_of.result (found_member (own_fields all c.args.class) c.args.name.now c.args.descriptor.now c.in_ok-found.found here)
    c.kind_of.ensures c.slot_of.ensures
