use Rattle.std.proofs.Common.{◌≡◌, List, ap, sym, ◌∙◌, inr}
use Rattle.code_form.specs.declared.ins.Placed.{Placed}
use Rattle.code_form.specs.Spelling.{jumps_to_starts}
use Rattle.code_form.specs.Reading.{first_astray, unless_astray}
use Rattle.code_form.proofs.Jumps.{found_astray, not_astray}
use Rattle.code_form.proofs.targets.check_targets.Goals as goal

pub returns-then-not-jumps_to_starts : goal.returns-then-not-jumps_to_starts
returns-then-not-jumps_to_starts c =
    let code = c.args.code.now in
    let asked : jumps_to_starts code c.placed-item.result ≡ c.jumps_to_starts.result =
    ap (λ (s : List Placed). jumps_to_starts s c.placed-item.result) (sym c.in_ok-starts.ensures)
    ∙ sym c.jumps_to_starts.ensures in
    inr (ap (unless_astray code)
    (found_astray code c.loop-placed.placed-index c.loop-placed-test.true c.placed-item.result
    c.placed-item.is (first_astray code) c.loop-placed.invariant (asked ∙ c.if-not-jumps_to_starts.true)))

pub loop-placed-preserved : goal.loop-placed-preserved
loop-placed-preserved c =
    let code = c.args.code.now in
    let asked : jumps_to_starts code c.placed-item.result ≡ c.jumps_to_starts.result =
    ap (λ (s : List Placed). jumps_to_starts s c.placed-item.result) (sym c.in_ok-starts.ensures)
    ∙ sym c.jumps_to_starts.ensures in
    not_astray code c.loop-placed.placed-index c.loop-placed-test.true c.placed-item.result c.placed-item.is
    (first_astray code) c.loop-placed.invariant (asked ∙ c.if-not-jumps_to_starts.false)
