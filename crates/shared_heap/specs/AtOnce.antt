-- The steps of requests that aren't made.
use Rattle.std.specs.Prelude.{ℕ, Some}
use Rattle.ap_base.specs.declared.place.Place.TheVariants.{Static, Slot}
use Rattle.natives.specs.declared.requests.Reply.TheVariants as reply
use Rattle.run_history.specs.declared.act.Op.TheVariants as op
use Rattle.step_forms.specs.declared.stepped.Stepped.{Stepped}
use Rattle.step_forms.specs.declared.stepped.Stepped.TheVariants as stepped
use Rattle.shared_heap.specs.declared.at_once.Classed.{Classed}
use Rattle.shared_heap.specs.declared.at_once.Got.{Got}
use Rattle.shared_heap.specs.declared.at_once.GotStatic.{GotStatic}
use Rattle.shared_heap.specs.declared.at_once.Measured.{Measured}

-- the step that read so from this slot
abbrev pub step_of : Got → Stepped
step_of got = stepped.Did (op.Read (Slot got.object got.index) got.value) (reply.Item got.item)

-- the step that read so from this static field
abbrev pub static_step : ℕ → GotStatic → Stepped
static_step n got = stepped.Did (op.Read (Static n) got.value) (reply.Item got.item)

-- the step that told this length
abbrev pub length_step : Measured → Stepped
length_step got = stepped.Did (op.Length got.object got.length) (reply.Item got.item)

-- the step that told this class
abbrev pub class_step : Classed → Stepped
class_step got = stepped.Did (op.Class (Some got.object) (Some got.class)) (reply.Shape got.class)
