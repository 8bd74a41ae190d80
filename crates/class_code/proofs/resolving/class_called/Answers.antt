use Rattle.std.proofs.Common.{sym, ◌∙◌}
use Rattle.class_code.proofs.Found.{class_there}
use Rattle.class_code.proofs.resolving.class_called.Goals as goal

pub returns-in-Some-clause-there : goal.returns-in-Some-clause-there
returns-in-Some-clause-there c =
    class_there c.args.set.now c.args.name.now c.in-Some.class (sym c.class_named.ensures ∙ c.in-Some.is)
