use Rattle.std.proofs.Common.{◌≤◌, ◌++◌, length, ap, sym, ◌∙◌, arith, append-nil}
use Rattle.class_set.specs.Members.{layout_of_fields}
use Rattle.class_set.proofs.Declared.{own_none}
use Rattle.class_set.proofs.layouts.push_own.Goals as goal

pub returns-in-None : goal.returns-in-None
returns-in-None c =
    let files = c.args.files.now in
    let past : length files ≤ c.args.class = omega (arith, c.if-class-files.false) in
    let none = own_none files c.args.class c.built_in_classes.result.now c.built_in_classes.ensures.members past (sym c.in-None.ensures.lookup.0) in
    sym (append-nil c.args.fields.now) ∙ ap (λ fs. c.args.fields.now ++ fs) (sym (ap layout_of_fields none))
