use Rattle.std.proofs.Common.{Some, None}
use Rattle.set_spaces.proofs.Classes.{class_found}
use Rattle.set_spaces.proofs.tables.class_called.Goals as goal

pub returns-in-Some : goal.returns-in-Some
returns-in-Some c = class_found c.args.set.now c.args.name.now
    (Some c.in-Some.class) c.args.count c.in-Some.ensures c.requires.count

pub returns-in-None : goal.returns-in-None
returns-in-None c = class_found c.args.set.now c.args.name.now None c.args.count c.in-None.ensures
    c.requires.count
