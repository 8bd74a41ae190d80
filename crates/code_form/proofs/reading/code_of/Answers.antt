use Rattle.std.proofs.Common.{refl}
use Rattle.code_form.proofs.Placing.{all_below}
use Rattle.code_form.proofs.reading.code_of.Goals as goal

pub check_targets-requires : goal.check_targets-requires
check_targets-requires c =
    rw c.deref.ensures.value
    (all_below _ c.front_of-front.result.now c.in_ok-code.code.items refl c.in_ok-code.ensures)
