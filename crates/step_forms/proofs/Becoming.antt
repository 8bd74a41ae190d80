-- What a quiet step makes of a heap.
use Rattle.std.proofs.Common.{refl}
use Rattle.ap_base.specs.declared.reference.Item.{Item}
use Rattle.ap_base.specs.declared.place.Place.{Place}
use Rattle.run_history.specs.declared.act.Op.TheVariants as op
use Rattle.shared_objects.specs.Shown.{Shown}
use Rattle.step_forms.specs.declared.stepped.Stepped.{Stepped}
use Rattle.step_forms.specs.declared.stepped.Stepped.TheVariants as stepped
use Rattle.step_forms.specs.Becomes.{Becomes, IsQuiet, IsNoStore}

-- nothing
pub quiet_becomes : {Heap : Type 0} (shown : Heap → Shown) (stores : Heap → Place → Item → Heap → Type 0)
    (makes : Heap → Heap → Type 0) (heap : Heap) (result : Stepped) → IsQuiet result
    → Becomes shown stores makes heap result heap
quiet_becomes shown stores makes heap (stepped.Did (op.Stored place value) r) quiet = absurd quiet
quiet_becomes shown stores makes heap (stepped.Did (op.Alloc n shape count) r) quiet = absurd quiet
quiet_becomes shown stores makes heap (stepped.Did (op.Throw n class) r) quiet = absurd quiet
quiet_becomes shown stores makes heap result quiet = refl

pub quiet_no_store : (result : Stepped) → IsQuiet result → IsNoStore result
quiet_no_store (stepped.Did (op.Stored place value) r) quiet = quiet
quiet_no_store result quiet = tt
