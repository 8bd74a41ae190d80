-- Each event, by its kind.
use Rattle.machine_forms.specs.Happening.{called, written, fenced, converted, failed, begun, sealed, asked, acted, stored}
use Rattle.machine_forms.specs.Happening.{region}
use Rattle.machine_forms.proofs.Happening.{table-is}
use Rattle.machine_laws.specs.StopLaws.{EventsKeepStops}
use Rattle.machine_laws.proofs.StopActing.{acts_keep}
use Rattle.machine_laws.proofs.Calling.{asked_keep, calls_keep, fences_keep, writes_keep}
use Rattle.machine_laws.proofs.StopConverting.{beginnings_keep, conversions_keep, failures_keep}
use Rattle.machine_laws.proofs.StopOutside.{durable_keep}
use Rattle.machine_laws.proofs.StopRegions.{by_step}
use Rattle.machine_laws.proofs.StopSealing.{seals_keep}

pub events_keep : EventsKeepStops
events_keep o t m _ es _ k (called twin e) heap = calls_keep o m es k twin e
events_keep o t m _ es _ k (written twin e) heap = writes_keep o m es k twin t e
events_keep o t m _ es _ k (fenced twin e) heap = fences_keep o m es k twin t e
events_keep o t m _ es _ k (converted m' answer e no_seal) heap =
    conversions_keep o m es k m' t answer e no_seal
events_keep o t m _ es _ k (failed m' e) heap = failures_keep o m es k m' t e
events_keep o t m _ es _ k (begun m' es' n word answer e) heap =
    beginnings_keep o m es k m' es' t n word answer e
events_keep o t m _ es _ k (sealed m' set named e) heap = seals_keep o m es k m' t set named e
events_keep o t m _ es _ k (asked request place item e) heap = asked_keep o m es k t request place item e
events_keep o t m _ es _ k (acted m' request operation r e) heap =
    acts_keep o m es k m' _ t request operation r e (table-is m operation es)
events_keep o t m _ es _ k (stored m' request place item e) heap =
    durable_keep o m es k m' t request place item e heap
events_keep o t m _ es _ k (region m' e) heap = λ told. by_step o m es k t m' e heap (k.stops told)
