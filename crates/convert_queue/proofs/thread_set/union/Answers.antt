use Rattle.convert_queue.proofs.Sets.{or_left, or_right, of_union, or_more, or_has}
use Rattle.convert_queue.proofs.thread_set.union.Goals as goal

pub returns-clause-left : goal.returns-clause-left
returns-clause-left c = or_left c.args.a c.args.b

pub returns-clause-right : goal.returns-clause-right
returns-clause-right c = or_right c.args.a c.args.b

pub returns-clause-only : goal.returns-clause-only
returns-clause-only c = of_union c.args.a c.args.b

pub returns-clause-more : goal.returns-clause-more
returns-clause-more c = or_more c.args.a c.args.b

pub returns-clause-both : goal.returns-clause-both
returns-clause-both c = λ u. or_has c.args.a c.args.b u
