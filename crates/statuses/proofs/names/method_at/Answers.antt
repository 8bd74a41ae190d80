use Rattle.std.proofs.Common.{◌≡◌, ◌≤◌, ◌-◌, List, None, length, ap, sym, ◌∙◌, arith}
use Rattle.std.specs.Prelude.{slice_get}
use Rattle.std.specs.Option.{option_map}
use Rattle.std.proofs.lemmas.Bool.Decides.{nat_tests}
use Rattle.std.proofs.lemmas.Option.{slice_get_past}
use Rattle.class_file.specs.declared.class.ClassFile.{ClassFile}
use Rattle.built_in_table.specs.Members.{MemberFacts, built_in_at}
use Rattle.statuses.specs.Names.{texts_of}
use Rattle.statuses.proofs.Behind.{own_behind}
use Rattle.statuses.proofs.names.method_at.Goals as goal

pub returns-in-None : goal.returns-in-None
returns-in-None c =
    let set = c.args.set.now in
    let files = c.files-files.result.now in
    let n = c.args.class in
    let past : length files ≤ n = grind (arith, nat_tests, c.in-None.ensures.lookup.0) in
    let none : slice_get set.files n ≡ None = ap (λ (fs : List ClassFile). slice_get fs n) (sym c.files-files.ensures) ∙ slice_get_past files n past in
    c.built_in_method.ensures
    ∙ ap (λ (fs : List ClassFile). option_map texts_of (slice_get (built_in_at (n - length fs)).methods c.args.method)) c.files-files.ensures
    ∙ ap (λ (ms : List MemberFacts). option_map texts_of (slice_get ms c.args.method)) (sym (own_behind set n none))
