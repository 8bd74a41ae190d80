use Rattle.std.proofs.Common.{◌≡◌, ◌<◌, ◌≤◌, true, false, length, sym, ◌∙◌, arith}
use Rattle.std.specs.Prelude.{nat_lt}
use Rattle.std.proofs.lemmas.Bool.Decides.{nat_tests}
use Rattle.class_code.proofs.Declaring.{declared_past, declared_read}
use Rattle.class_code.proofs.finding.declared_by.Goals as goal

pub returns-in-Some : goal.returns-in-Some
returns-in-Some c =
    let ds = c.args.declared.now in
    let test : nat_lt c.args.class (length ds) ≡ true = sym c.in-Some.ensures.lookup.0 in
    let l : c.args.class < length ds = grind (arith, nat_tests) in
    c.as_slice.ensures ∙ c.in-Some.ensures.lookup.1 ∙ declared_read c.args.set.now ds c.args.class c.in-Some.methods.now l c.requires

pub returns-in-None : goal.returns-in-None
returns-in-None c =
    let ds = c.args.declared.now in
    let test : nat_lt c.args.class (length ds) ≡ false = sym c.in-None.ensures.lookup.0 in
    let l : length ds ≤ c.args.class = grind (arith, nat_tests) in
    declared_past c.args.set.now ds c.args.class l c.requires
