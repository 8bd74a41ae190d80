-- The events of regions, together.
use Rattle.twin_forms.specs.Table.{Entry}
use Rattle.std.proofs.Common.{ℕ, List}
use Rattle.machine_forms.specs.Machines.{Opening, Machine}
use Rattle.machine_forms.specs.Keeping.{KeepsAsked, KeepsRun}
use Rattle.machine_forms.specs.Events.{RegionStep, begun, guarded, logged, stored, ending, closing, ended}
use Rattle.machine_laws.proofs.RegionActs.{begun-keeps, guarded-keeps}
use Rattle.machine_laws.proofs.RegionStores.{logged-keeps}
use Rattle.machine_laws.proofs.RegionCalls.{word-keeps, part-keeps}
use Rattle.machine_laws.proofs.RegionEnds.{closing-keeps, ended-keeps}

pub by-step : (o : Opening) (m : Machine) (es : List Entry) → KeepsRun o m es → (t : ℕ) (m' : Machine)
    → RegionStep o t m es m' → KeepsAsked o m' es
by-step o m es k t _ (begun m' request r begins) = begun-keeps o m es k m' t request r begins
by-step o m es k t _ (guarded request place item e guards) =
    guarded-keeps o m es k t request place item e guards
by-step o m es k t _ (logged twin log' logs) = word-keeps o m es k twin t log' logs
by-step o m es k t _ (stored m' request place item stores) =
    logged-keeps o m es k m' t request place item stores
by-step o m es k t _ (ending twin request log' part) = part-keeps o m es k twin t request log' part
by-step o m es k t _ (closing twin request log' closes) = closing-keeps o m es k twin t request log' closes
by-step o m es k t _ (ended m' request r ends) = ended-keeps o m es k m' t request r ends
