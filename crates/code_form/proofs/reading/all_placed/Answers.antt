use Rattle.std.proofs.Common.{◌≡◌, ◌+◌, ◌-◌, ◌≢◌, suc, length, sym, ◌∙◌, arith}
use Rattle.std.proofs.lemmas.Bool.{eqb-true, eqb-false}
use Rattle.std.proofs.lemmas.List.{length_push}
use Rattle.std.proofs.lemmas.Result.{err_from_is_err_and}
use Rattle.code_form.specs.Reading.{placed_at}
use Rattle.code_form.proofs.Shrinking.{ins_shorter}
use Rattle.code_form.proofs.Placing.{goes_on, ends, is_done}
use Rattle.code_form.proofs.reading.all_placed.Goals as goal

pub returns-in_err-ins : goal.returns-in_err-ins
returns-in_err-ins c =
    let p = err_from_is_err_and c.from_residual.result c.from_residual.ensures.1 in
    let some : length c.loop-rest.rest.now ≢ 0 =
    eqb-false _ _ (sym c.is_empty.ensures ∙ c.loop-rest-test.true) in
    let all = length c.args.bytes.now in
    let left = all - length c.loop-rest.code.items in
    let one_more : left ≡ suc (left - 1) = omega (arith, c.loop-rest.invariant.enough, some) in
    rw (p.1, p.2) (ends c.loop-rest.code.items (placed_at all all c.args.bytes.now) left
    (left - 1) all c.loop-rest.rest.now c.in_err-ins.field-0.0 one_more
    (omega (arith, some)) c.in_err-ins.ensures c.loop-rest.invariant.so_far)

pub loop-rest-smaller : goal.loop-rest-smaller
loop-rest-smaller c =
    let some : length c.loop-rest.rest.now ≢ 0 =
    eqb-false _ _ (sym c.is_empty.ensures ∙ c.loop-rest-test.true) in
    ins_shorter _ c.loop-rest.rest.now (c.in_ok-ins.ins, c.in_ok-ins.after.now)
    (omega (arith, some)) c.in_ok-ins.ensures

pub loop-rest-preserved : goal.loop-rest-preserved
loop-rest-preserved c =
    let some : length c.loop-rest.rest.now ≢ 0 =
    eqb-false _ _ (sym c.is_empty.ensures ∙ c.loop-rest-test.true) in
    let all = length c.args.bytes.now in
    let left = all - length c.loop-rest.code.items in
    let one_more : left ≡ suc (left - 1) = omega (arith, c.loop-rest.invariant.enough, some) in
    let shorter = ins_shorter _ c.loop-rest.rest.now (c.in_ok-ins.ins, c.in_ok-ins.after.now)
    (omega (arith, some)) c.in_ok-ins.ensures in
    let next : all - (length c.loop-rest.code.items + 1) ≡ left - 1 = omega arith in
    record {
      so_far = rw (c.in_ok-push.ensures.items, length_push c.loop-rest.code.items _, next)
          (goes_on c.loop-rest.code.items (placed_at all all c.args.bytes.now) left
          (left - 1) all c.loop-rest.rest.now c.in_ok-ins.ins c.in_ok-ins.after.now one_more
          (omega (arith, some)) c.in_ok-ins.ensures c.loop-rest.invariant.so_far);
      enough = rw (c.in_ok-push.ensures.items, length_push c.loop-rest.code.items _)
          (omega (arith, shorter, c.loop-rest.invariant.enough));
    }

pub returns : goal.returns
returns c =
    let all = length c.args.bytes.now in
    is_done c.loop-rest.code.items (placed_at all all c.args.bytes.now)
    (all - length c.loop-rest.code.items) all c.loop-rest.rest.now
    (eqb-true _ _ (sym c.is_empty.ensures ∙ c.loop-rest-test.false)) c.loop-rest.invariant.so_far
