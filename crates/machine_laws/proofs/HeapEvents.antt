-- Each event, by its kind.
use Rattle.machine_forms.specs.Happening.{called, written, fenced, converted, failed, begun, sealed, asked, acted, stored}
use Rattle.machine_forms.specs.Happening.{region}
use Rattle.machine_laws.specs.HeapLaws.{EventsKeepHeaps}
use Rattle.machine_laws.proofs.HeapBeginning.{shared_asked, shared_begun, shared_failed, shared_seal}
use Rattle.machine_laws.proofs.Called.{shared_call, shared_fence, shared_write}
use Rattle.machine_laws.proofs.HeapConverting.{shared_step}
use Rattle.machine_laws.proofs.HeapRegions.{region_step}
use Rattle.machine_laws.proofs.Requests.{acts, durable_place}

pub events : EventsKeepHeaps
events o t m _ es _ run (called twin c) = shared_call o m es (run.heap, run.world) twin c.call
events o t m _ es _ run (written twin w) = shared_write o m es run twin t w
events o t m _ es _ run (fenced twin f) = shared_fence o m es run twin t f
events o t m _ es _ run (converted m' answer c no_seal) = shared_step o m m' es run t answer c
events o t m _ es _ run (failed m' c) = shared_failed o m m' es run t c
events o t m _ es _ run (begun m' es' n word answer b) = shared_begun o m m' es es' run t n word answer b
events o t m _ es _ run (sealed m' set named c) = shared_seal o m m' es run t set named c
events o t m _ es _ run (asked request place item a) = shared_asked o m es run t place item
events o t m _ es _ run (acted m' request operation r a) = acts o m m' es run t request operation r a
events o t m _ es _ run (stored m' request place item s) =
    durable_place o m m' es run t request place item s.does s.stores s.durable s.queue
events o t m _ es _ run (region m' step) = region_step o m es run t step
