use Rattle.std.proofs.lemmas.Result.{err_from_is_err_and}
use Rattle.class_file.specs.Members.{methods_from}
use Rattle.class_file.proofs.MethodLists.{methods_go_on, methods_end, methods_done}
use Rattle.class_file.proofs.methods.some_methods.Goals as goal

pub returns-in_err-method : goal.returns-in_err-method
returns-in_err-method c =
    let p = err_from_is_err_and c.from_residual.result c.from_residual.ensures.1 in
    rw (p.1, p.2) (methods_end c.args.pool.now c.loop-number.methods.items c.args.count c.loop-number.number
    c.loop-number.file (methods_from c.args.pool.now 0 c.args.count c.args.file.now) c.in_err-method.field-0.0
    c.loop-number-test.true c.in_err-method.ensures c.loop-number.invariant)

pub loop-number-preserved : goal.loop-number-preserved
loop-number-preserved c =
    rw c.in_ok-push.ensures.items
    (methods_go_on c.args.pool.now c.loop-number.methods.items c.args.count c.loop-number.number c.loop-number.file
    (methods_from c.args.pool.now 0 c.args.count c.args.file.now) c.in_ok-method.field-0 c.method.new.file
    c.loop-number-test.true c.in_ok-method.ensures c.loop-number.invariant)

pub returns : goal.returns
returns c = methods_done c.args.pool.now c.loop-number.methods.items c.args.count c.loop-number.number c.loop-number.file
    (methods_from c.args.pool.now 0 c.args.count c.args.file.now) c.loop-number-test.false c.loop-number.invariant
