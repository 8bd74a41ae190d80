use Rattle.std.proofs.Common.{◌≡◌, Some, ap, sym, ◌∙◌}
use Rattle.std.specs.Option.{option_copied}
use Rattle.std.specs.Prelude.{slice_get}
use Rattle.space_rows.proofs.Made.{made_of_file}
use Rattle.space_rows.proofs.classes.first_class.Goals as goal

pub returns-clause-made : goal.returns-clause-made
returns-clause-made c =
    let there : slice_get c.args.set.now.files 0 ≡ Some c.in-Some.file.now = sym c.first_file.ensures ∙ ap option_copied c.in-Some.is in
    made_of_file c.args.set.now 0 c.in-Some.file.now there
    ∙ sym (c.is_made_file.ensures c.args.set.now.files) ∙ c.if-not-is_made_file.false
