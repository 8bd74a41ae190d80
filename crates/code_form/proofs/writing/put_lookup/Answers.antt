use Rattle.code_form.proofs.Operands.{cases_reached}
use Rattle.code_form.proofs.writing.put_lookup.Goals as goal

pub put_cases-requires-clause-reached : goal.put_cases-requires-clause-reached
put_cases-requires-clause-reached c = cases_reached c.args.cases.now c.requires.reached.1
