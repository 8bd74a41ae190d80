use Rattle.std.proofs.Common.{sym, ◌∙◌}
use Rattle.class_code.proofs.Found.{called_there, found_there}
use Rattle.class_code.proofs.resolving.method_from.Goals as goal

pub returns-in-Some-clause-there : goal.returns-in-Some-clause-there
returns-in-Some-clause-there c =
    called_there c.args.set.now c.called_method.result c.in-Some.method c.called_method.ensures.same
    (found_there c.args.set.now c.args.class c.as_slice.result.now c.as_slice-2.result.now c.in-Some.method
    (sym c.find_method.ensures ∙ c.in-Some.is))
