use Rattle.std.proofs.Common.{get_or, refl, ◌∙◌, arith}
use Rattle.const_pool.proofs.Descriptors.{goes_on, is_barred, is_end, is_empty_part, is_past}
use Rattle.const_pool.proofs.descriptor.class_name_len.Goals as goal

pub returns-then-fresh-clause-len : goal.returns-then-fresh-clause-len
returns-then-fresh-clause-len c =
    is_empty_part c.loop-len.fresh c.args.bytes.now c.loop-len.len c.loop-len-test.true (omega arith) c.if-fresh.true ∙ c.loop-len.invariant

pub returns-else-fresh-clause-len : goal.returns-else-fresh-clause-len
returns-else-fresh-clause-len c =
    is_end c.loop-len.fresh c.args.bytes.now c.loop-len.len c.loop-len-test.true (omega arith) c.if-fresh.false ∙ c.loop-len.invariant

pub returns-in-None-clause-len : goal.returns-in-None-clause-len
returns-in-None-clause-len c =
    is_barred c.loop-len.fresh c.args.bytes.now c.loop-len.len (get_or c.args.bytes.now c.loop-len.len 0) c.loop-len-test.true refl c.if-byte-eq59.false c.in-None.ensures ∙ c.loop-len.invariant

pub loop-len-preserved : goal.loop-len-preserved
loop-len-preserved c =
    goes_on c.loop-len.fresh c.in-Some.next c.args.bytes.now c.loop-len.len (get_or c.args.bytes.now c.loop-len.len 0)
    c.loop-len-test.true refl c.if-byte-eq59.false c.in-Some.ensures ∙ c.loop-len.invariant

pub returns-clause-len : goal.returns-clause-len
returns-clause-len c = is_past c.loop-len.fresh c.args.bytes.now c.loop-len.len c.loop-len-test.false ∙ c.loop-len.invariant
