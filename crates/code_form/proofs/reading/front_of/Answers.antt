use Rattle.code_form.proofs.Placing.{front_is}
use Rattle.code_form.proofs.reading.front_of.Goals as goal

pub returns-clause-front : goal.returns-clause-front
returns-clause-front c = front_is c.min.result c.args.bytes.now c.min.ensures
