use Rattle.std.proofs.Common.{arith}
use Rattle.const_pool.proofs.Descriptors.{counts_on, counts_no_more, counts_to_end}
use Rattle.const_pool.proofs.descriptor.leading_brackets.Goals as goal

pub loop-count-preserved : goal.loop-count-preserved
loop-count-preserved c =
    let more = counts_on c.args.bytes.now c.loop-count.count (omega arith) (omega arith) in
    record { within = omega arith; so_far = omega (arith, more, c.loop-count.invariant.so_far) }

pub returns-else-bytes-count-eq91-clause-count : goal.returns-else-bytes-count-eq91-clause-count
returns-else-bytes-count-eq91-clause-count c =
    let none = counts_no_more c.args.bytes.now c.loop-count.count (omega arith) (λ is. absurd (omega arith)) in
    omega (arith, none, c.loop-count.invariant.so_far)

pub returns-after-loop-count-clause-count : goal.returns-after-loop-count-clause-count
returns-after-loop-count-clause-count c =
    let none = counts_to_end c.args.bytes.now c.loop-count.count (omega arith) in
    omega (arith, none, c.loop-count.invariant.so_far)
