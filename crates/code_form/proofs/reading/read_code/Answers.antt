use Rattle.std.proofs.Common.{arith}
use Rattle.code_form.proofs.Codes.{is_found, is_only, is_long, is_within}
use Rattle.code_form.proofs.reading.read_code.Goals as goal

pub returns-clause-found : goal.returns-clause-found
returns-clause-found c =
    is_found c.args.bytes.now c.code_of.result (λ i. omega (arith, c.type_inv.bytes i)) c.code_of.ensures

pub returns-clause-only : goal.returns-clause-only
returns-clause-only c =
    λ code is spells. is_only c.args.bytes.now c.code_of.result code c.code_of.ensures is spells

pub returns-clause-long : goal.returns-clause-long
returns-clause-long c =
    λ long. is_long c.args.bytes.now c.code_of.result
    (λ i. omega (arith, c.type_inv.bytes i)) c.code_of.ensures long

pub returns-clause-within : goal.returns-clause-within
returns-clause-within c = is_within c.args.bytes.now c.code_of.result c.code_of.ensures
