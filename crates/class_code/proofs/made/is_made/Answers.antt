use Rattle.std.proofs.Common.{◌≡◌, Some, None, ◌-◌, length, ap, sym, ◌∙◌}
use Rattle.std.specs.Option.{option_copied}
use Rattle.std.specs.Prelude.{slice_get, slice_index_or, false}
use Rattle.class_code.specs.Made.{made_places}
use Rattle.class_code.proofs.Instances.{made_of_file, made_behind}
use Rattle.class_code.proofs.made.is_made.Goals as goal

pub returns-in-Some : goal.returns-in-Some
returns-in-Some c =
    let there : slice_get c.args.set.now.files c.args.class ≡ Some c.in-Some.file.now = sym c.file_at.ensures ∙ ap option_copied c.in-Some.is in
    c.is_made_file.ensures c.args.set.now.files ∙ sym (made_of_file c.args.set.now c.args.class c.in-Some.file.now there)

pub returns-in-None : goal.returns-in-None
returns-in-None c =
    let none : slice_get c.args.set.now.files c.args.class ≡ None = sym c.file_at.ensures ∙ ap option_copied c.in-None.is in
    c.is_made_place.ensures
    ∙ ap (λ files. slice_index_or made_places (c.args.class - length files) false) c.files.ensures
    ∙ sym (made_behind c.args.set.now c.args.class none c.requires)
