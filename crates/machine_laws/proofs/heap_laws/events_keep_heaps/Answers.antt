use Rattle.machine_laws.proofs.HeapEvents.{events}
use Rattle.machine_laws.proofs.heap_laws.events_keep_heaps.Goals as goal

pub returns : goal.returns
returns c = events
