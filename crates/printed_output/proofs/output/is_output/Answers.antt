use Rattle.std.proofs.Common.{◌≡◌, ◌∙◌, ◌+◌, ◌≤◌, ℕ, List, Bor, None, drop, length, ap, sym, arith}
use Rattle.std.specs.Option.{option_copied}
use Rattle.printed_output.specs.Output.{is_output}
use Rattle.printed_output.proofs.Printing.{act-none, act-some, no-act}
use Rattle.printed_output.proofs.output.is_output.Goals.{in-Some+in-Some-behind_print, in_default}
use Rattle.printed_output.proofs.output.is_output.Goals as goal

pub returns-in-None : goal.returns-in-None
returns-in-None c =
    sym (act-none c.args.acts.now.acts c.acts.i _ c.acts.rest.now (sym c.in-Some.ensures.act) c.in-None.ensures) ∙ c.acts.invariant.1

pub acts-preserved : goal.acts-preserved
acts-preserved c =
    let t = c.acts-test.true in
    let l = c.len.ensures.len in
    elim c.match-get.branch [
      | in-Some+in-Some-behind_print w ↦ (
        omega (arith, t, l),
        ap (λ (b : Bor (List ℕ)). is_output (drop (c.acts.i + 1) c.args.acts.now.acts) b.now) w.rest-is
            ∙ act-some c.args.acts.now.acts c.acts.i _ c.acts.rest.now _ (sym w.in-Some.ensures.act) w.in-Some-behind_print.ensures
            ∙ c.acts.invariant.1,
      )
      | in_default w ↦ absurd (no-act c.args.acts.now.acts c.acts.i (sym c.get.ensures.act ∙ ap option_copied w.in_default.is) (omega (arith, t, l)))
    ]
