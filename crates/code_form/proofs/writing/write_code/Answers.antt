use Rattle.std.proofs.Common.{List, ℕ, subst, sym, ap, ◌∙◌}
use Rattle.std.proofs.lemmas.List.{take_all}
use Rattle.code_form.specs.Spelling.{Spells, written}
use Rattle.code_form.proofs.Codes.{all_writable, written_spells}
use Rattle.code_form.proofs.writing.write_code.Goals as goal

pub put_ins-requires : goal.put_ins-requires
put_ins-requires c =
    rw c.placed-item.is (all_writable c.args.code.now c.requires c.loop-placed.placed-index _
    c.loop-placed-test.true)

pub returns-clause-spells : goal.returns-clause-spells
returns-clause-spells c =
    let code = c.args.code.now in
    subst (λ (bytes : List ℕ). Spells code bytes)
    (sym (c.loop-placed.invariant
    ∙ ap written (take_all c.loop-placed.placed-index code c.loop-placed-test.false))) (written_spells code)
