use Rattle.std.proofs.lemmas.Result.{err_from_is_err_and}
use Rattle.class_file.specs.Members.{no_facts, field_attributes_from}
use Rattle.class_file.proofs.FieldAttributes.{goes_on, ends, is_done}
use Rattle.class_file.proofs.fields.field_attributes.Goals as goal

pub returns-in_err-attribute : goal.returns-in_err-attribute
returns-in_err-attribute c =
    let p = err_from_is_err_and c.from_residual.result c.from_residual.ensures.1 in
    rw (p.1, p.2) (ends c.args.pool.now c.loop.attributes.items c.args.count c.loop.counter c.loop.facts c.loop.file
    (field_attributes_from c.args.pool.now c.args.count no_facts c.args.file.now) c.in_err-attribute.field-0.0
    c.loop-test.true c.in_err-attribute.ensures c.loop.invariant)

pub loop-preserved : goal.loop-preserved
loop-preserved c =
    rw (c.in_ok-push.ensures.items, c.with-facts.ensures)
    (goes_on c.args.pool.now c.loop.attributes.items c.args.count c.loop.counter c.loop.facts c.loop.file
    (field_attributes_from c.args.pool.now c.args.count no_facts c.args.file.now) c.in_ok-attribute.attribute
    c.in_ok-attribute.fact c.field_attribute.new.file c.loop-test.true c.in_ok-attribute.ensures c.loop.invariant)

pub returns : goal.returns
returns c = is_done c.args.pool.now c.loop.attributes.items c.args.count c.loop.counter c.loop.facts c.loop.file
    (field_attributes_from c.args.pool.now c.args.count no_facts c.args.file.now) c.loop-test.false c.loop.invariant
