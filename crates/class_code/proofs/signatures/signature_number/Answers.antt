use Rattle.std.proofs.Common.{◌∙◌}
use Rattle.class_code.proofs.Signed.{number_found, number_missing}
use Rattle.class_code.proofs.signatures.signature_number.Goals as goal

pub returns-in-Some : goal.returns-in-Some
returns-in-Some c = λ files e.
    number_found files c.args.signatures.now (record { name = c.args.name.now; descriptor = c.args.descriptor.now }) _ c.in-Some.number e
    c.in_ok-number.ensures c.in-Some.is

pub returns-in-None : goal.returns-in-None
returns-in-None c = λ files e.
    c.len.ensures ∙ number_missing files c.args.signatures.now (record { name = c.args.name.now; descriptor = c.args.descriptor.now }) _ e
    c.in_ok-number.ensures c.in-None.is
