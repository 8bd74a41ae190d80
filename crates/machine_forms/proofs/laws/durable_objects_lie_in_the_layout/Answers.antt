use Rattle.machine_forms.proofs.Layouts.{layouts}
use Rattle.machine_forms.proofs.laws.durable_objects_lie_in_the_layout.Goals as goal

pub returns : goal.returns
returns c = layouts
