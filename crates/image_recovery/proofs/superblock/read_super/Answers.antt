use Rattle.std.proofs.Common.{◌≡◌, false, refl, sym, ◌∙◌, ap, subst}
use Rattle.line_memory.specs.Memory.{Memory, shown}
use Rattle.image_layout.specs.Places.{has_size, super_check}
use Rattle.image_meaning.specs.Meaning.{at_super}
use Rattle.image_walk.specs.Walking.{IsFault}
use Rattle.image_walk.proofs.Looking.{looks_nowhere}
use Rattle.image_walk.proofs.Reading.{err_is}
use Rattle.image_recovery.proofs.superblock.read_super.Goals as goal

pub returns-in_err-check_size-clause-bad : goal.returns-in_err-check_size-clause-bad
returns-in_err-check_size-clause-bad g c known =
    let first : Memory = c.args.memory.now in
    let other : has_size first.size ≡ false = ap has_size (sym c.lines.ensures) ∙ c.in_err-check_size.ensures.other in
    err_is c.from_residual.result c.in_err-check_size.field-0.0 (IsFault (at_super (super_check (shown first 0) first.size)))
    c.from_residual.ensures.1
    (subst (IsFault (at_super (super_check (shown first 0) first.size))) (sym c.in_err-check_size.ensures.bad) (rw other refl))

pub returns-in_err-check_size-clause-looks : goal.returns-in_err-check_size-clause-looks
returns-in_err-check_size-clause-looks g c = looks_nowhere c.args.memory.now
