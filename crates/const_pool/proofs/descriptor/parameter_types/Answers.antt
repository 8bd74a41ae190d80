use Rattle.std.proofs.Common.{◌≡◌, ◌-◌, ◌+◌, length, sym, arith, vec_len}
use Rattle.std.proofs.lemmas.Result.{err_from_is_err_and}
use Rattle.const_pool.specs.Parsing.{parameters_at}
use Rattle.const_pool.proofs.Descriptors.{closes, fails, parameter_goes_on, field_shorter}
use Rattle.const_pool.proofs.descriptor.parameter_types.Goals as goal

pub returns-in-Some : goal.returns-in-Some
returns-in-Some c =
    let bytes = c.args.bytes.now in
    let p = c.parameters in
    closes p.types.items (length bytes - vec_len p.types) p.rest.now c.in-Some.after.now (parameters_at (length bytes) bytes) (omega arith) (sym c.in-Some.ensures.rest) p.invariant.so_far

pub returns-in_err-parameter : goal.returns-in_err-parameter
returns-in_err-parameter c =
    let bytes = c.args.bytes.now in
    let p = c.parameters in
    let r = err_from_is_err_and c.from_residual.result c.from_residual.ensures.1 in
    rw (r.1, r.2) (fails c.in_err-parameter.field-0.0 p.types.items (length bytes - vec_len p.types) p.rest.now
    (parameters_at (length bytes) bytes) (sym c.in-None.ensures.rest) c.in_err-parameter.ensures p.invariant.so_far)

pub parameters-smaller : goal.parameters-smaller
parameters-smaller c = (field_shorter c.parameters.rest.now (c.in_ok-parameter.parameter, c.in_ok-parameter.after.now) c.parameters.invariant.good c.in_ok-parameter.ensures).1

pub parameters-preserved : goal.parameters-preserved
parameters-preserved c =
    let bytes = c.args.bytes.now in
    let p = c.parameters in
    let x = c.in_ok-parameter in
    let shorter = field_shorter p.rest.now (x.parameter, x.after.now) p.invariant.good x.ensures in
    let steps : length bytes - (vec_len p.types + 1) ≡ length bytes - vec_len p.types - 1 = omega arith in
    let more = parameter_goes_on p.types.items (length bytes - vec_len p.types) p.rest.now x.parameter x.after.now
    (parameters_at (length bytes) bytes) (omega arith) shorter.1 (sym c.in-None.ensures.rest) x.ensures
    p.invariant.so_far in
    record { good = shorter.0; room = omega (arith, c.in_ok-push.ensures.len); so_far = rw (c.in_ok-push.ensures.items, c.in_ok-push.ensures.len, steps) more }
