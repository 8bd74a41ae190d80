use Rattle.std.proofs.Common.{◌≡◌, ap, ◌∙◌, subst}
use Rattle.std.specs.Prelude.{OnOk}
use Rattle.std.specs.List.{flat_map}
use Rattle.code_form.specs.declared.ins.Placed.{Placed}
use Rattle.code_attribute.specs.declared.code.Handler.{Handler}
use Rattle.class_links.specs.Names.{class_name}
use Rattle.class_set.specs.ArrayTypes.{listed_by, listed_by_code}
use Rattle.class_set.specs.ArrayTypes.{named, with_arrays}
use Rattle.class_set.proofs.Needed.{with_arrays-append}
use Rattle.class_set.proofs.arrays.add_for_method.Goals as goal

pub returns-in_ok-add_for_instructions-in-Some-clause-arrays : goal.returns-in_ok-add_for_instructions-in-Some-clause-arrays
returns-in_ok-add_for_instructions-in-Some-clause-arrays c =
    let pool = c.args.pool.now in
    let code = c.in-Some.code.now in
    let one = flat_map (λ (p : Placed). listed_by c.args.what pool p.ins) code.instructions in
    let other = flat_map (λ (h : Handler). named c.args.what (class_name pool h.catch)) code.handlers in
    subst (λ ts. OnOk c.add_for_handlers.result (c.add_for_handlers.new.arrays ≡ ts))
    (ap (λ ns. with_arrays ns other) c.in_ok-add_for_instructions-in-Some.ensures.arrays
    ∙ with_arrays-append c.args.arrays.now one other
    ∙ ap (λ o. with_arrays c.args.arrays.now (listed_by_code c.args.what pool o)) c.in-Some.ensures)
    c.add_for_handlers.ensures.arrays
