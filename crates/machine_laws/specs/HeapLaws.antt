-- Each event of a machine leaves its heap whole, in agreement with its conversions, and showing the world of
-- its acts.
use Rattle.std.specs.Prelude.{List}
use Rattle.twin_forms.specs.Table.{Entry}
use Rattle.machine_forms.specs.Machines.{Opening, Machine}
use Rattle.machine_forms.specs.Keeping.{KeepsHeap, KeepsWorld}
use Rattle.machine_forms.specs.Happening.{OfEvents}

abbrev pub KeepsShared : Opening → Machine → List Entry → Type 0
KeepsShared o m es = KeepsHeap o m es × KeepsWorld o m

abbrev pub EventsKeepHeaps : Type 0
EventsKeepHeaps = OfEvents (λ o m es m' es'. KeepsShared o m' es')
