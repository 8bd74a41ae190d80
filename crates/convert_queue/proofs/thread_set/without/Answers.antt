use Rattle.convert_queue.proofs.Sets.{without_gone, without_other}
use Rattle.convert_queue.proofs.thread_set.without.Goals as goal

pub returns-clause-gone : goal.returns-clause-gone
returns-clause-gone c = λ u lt h. without_gone c.args.a c.args.b u c.ranges.b.fits lt h

pub returns-clause-others : goal.returns-clause-others
returns-clause-others c = λ u h. without_other c.args.a c.args.b u c.ranges.a.fits c.ranges.b.fits h
