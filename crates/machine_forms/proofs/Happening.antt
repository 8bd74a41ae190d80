-- The table after an act.
use Rattle.std.proofs.Common.{List, refl}
use Rattle.run_history.specs.declared.act.Op.{Op}
use Rattle.run_history.specs.declared.act.Op.TheVariants as op
use Rattle.twin_forms.specs.Table.{Entry}
use Rattle.machine_forms.specs.Machines.{Machine}
use Rattle.machine_forms.specs.Events.{TableAfter}
use Rattle.machine_forms.specs.Happening.{table_after}

pub table-is : (m : Machine) (operation : Op) (es : List Entry)
    → TableAfter m operation es (table_after m operation es)
table-is m (op.Alloc n class count) es = (_, _, refl)
table-is m (op.Throw n class) es = (_, _, refl)
table-is m operation es = refl
