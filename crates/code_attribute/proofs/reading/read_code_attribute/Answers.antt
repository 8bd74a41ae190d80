use Rattle.std.proofs.Common.{◌≡◌, Ok, arith}
use Rattle.std.proofs.lemmas.Result.{IfOk-weaker}
use Rattle.code_form.specs.Reading.{code_of}
use Rattle.code_attribute.specs.Code.{Fits, code_attribute_bytes}
use Rattle.code_attribute.proofs.Spelled.{IsSpelled, is_spelled}
use Rattle.code_attribute.proofs.reading.read_code_attribute.Goals as goal

pub returns-clause-found : goal.returns-clause-found
returns-clause-found c =
    let content = c.args.content.now in
    let r = c.code_attribute_at.result in
    let all = is_spelled c.args.pool.now c.args.at content c.new.result r
    (λ i. omega (arith, c.type_inv.content i)) c.new.ensures c.code_attribute_at.ensures in
    IfOk-weaker r (λ x. IsSpelled content x) (λ x. content ≡ code_attribute_bytes x) (λ x s. s.bytes) all

pub returns-clause-fits : goal.returns-clause-fits
returns-clause-fits c =
    let content = c.args.content.now in
    let r = c.code_attribute_at.result in
    let all = is_spelled c.args.pool.now c.args.at content c.new.result r
    (λ i. omega (arith, c.type_inv.content i)) c.new.ensures c.code_attribute_at.ensures in
    IfOk-weaker r (λ x. IsSpelled content x) (λ x. Fits x) (λ x s. s.fits) all

pub returns-clause-instructions : goal.returns-clause-instructions
returns-clause-instructions c =
    let content = c.args.content.now in
    let r = c.code_attribute_at.result in
    let all = is_spelled c.args.pool.now c.args.at content c.new.result r
    (λ i. omega (arith, c.type_inv.content i)) c.new.ensures c.code_attribute_at.ensures in
    IfOk-weaker r (λ x. IsSpelled content x) (λ x. code_of x.bytes ≡ Ok x.instructions)
    (λ x s. s.instructions) all
