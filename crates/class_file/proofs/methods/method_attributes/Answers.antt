use Rattle.std.proofs.lemmas.Result.{err_from_is_err_and}
use Rattle.class_file.specs.Members.{method_attributes_from}
use Rattle.class_file.proofs.MethodLists.{goes_on, ends, is_done}
use Rattle.class_file.proofs.methods.method_attributes.Goals as goal

pub returns-in_err-attribute : goal.returns-in_err-attribute
returns-in_err-attribute c =
    let p = err_from_is_err_and c.from_residual.result c.from_residual.ensures.1 in
    rw (p.1, p.2) (ends c.args.pool.now c.args.method c.loop.attributes.items c.args.count c.loop.counter c.loop.done
    c.loop.file (method_attributes_from c.args.pool.now c.args.method c.args.done c.args.count c.args.file.now)
    c.in_err-attribute.field-0.0 c.loop-test.true c.in_err-attribute.ensures c.loop.invariant)

pub loop-preserved : goal.loop-preserved
loop-preserved c =
    rw (c.in_ok-push.ensures.items, c.is_done-done.ensures)
    (goes_on c.args.pool.now c.args.method c.loop.attributes.items c.args.count c.loop.counter c.loop.done c.loop.file
    (method_attributes_from c.args.pool.now c.args.method c.args.done c.args.count c.args.file.now)
    c.in_ok-attribute.attribute c.method_attribute.new.file c.loop-test.true c.in_ok-attribute.ensures c.loop.invariant)

pub returns : goal.returns
returns c = is_done c.args.pool.now c.args.method c.loop.attributes.items c.args.count c.loop.counter c.loop.done
    c.loop.file (method_attributes_from c.args.pool.now c.args.method c.args.done c.args.count c.args.file.now)
    c.loop-test.false c.loop.invariant
