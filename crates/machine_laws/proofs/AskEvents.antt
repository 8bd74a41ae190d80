-- Each event, by its kind.
use Rattle.machine_forms.specs.Happening.{called, written, fenced, converted, failed, begun, sealed, asked, acted, stored}
use Rattle.machine_forms.specs.Happening.{region}
use Rattle.machine_laws.specs.AskLaws.{ActsMayCome, EventsKeepAsked}
use Rattle.machine_laws.proofs.AskBeginning.{beginnings-keep}
use Rattle.machine_laws.proofs.Beside.{acts-come, acts-keep}
use Rattle.machine_laws.proofs.Calls.{calls-keep, writes-keep}
use Rattle.machine_laws.proofs.Converted.{by-answer, failures-keep}
use Rattle.machine_laws.proofs.Fences.{ask-comes, asks-keep, fences-come, fences-keep}
use Rattle.machine_laws.proofs.RegionSteps.{by-step}
use Rattle.machine_laws.proofs.Rules.{region-acts-come}
use Rattle.machine_laws.proofs.AskSealing.{seals-come, seals-keep}
use Rattle.machine_laws.proofs.Stores.{stores-come, stores-keep}
use Rattle.machine_forms.proofs.Happening.{table-is}

pub events-keep : EventsKeepAsked
events-keep o t m _ es _ k (called twin e) = calls-keep o m es k twin e
events-keep o t m _ es _ k (written twin e) = writes-keep o m es k twin t e
events-keep o t m _ es _ k (fenced twin e) = fences-keep o m es k twin t e
events-keep o t m _ es _ k (converted m' answer e no_seal) = by-answer o m es k m' t answer e no_seal
events-keep o t m _ es _ k (failed m' e) = failures-keep o m es k m' t e
events-keep o t m _ es _ k (begun m' es' n word answer e) = beginnings-keep o m es k m' es' t n word answer e
events-keep o t m _ es _ k (sealed m' set named e) = seals-keep o m es k m' t set named e
events-keep o t m _ es _ k (asked request place item e) = asks-keep o m es k t request place item e
events-keep o t m _ es _ k (acted m' request operation r e) =
    acts-keep o m es k m' _ t request operation r e (table-is m operation es)
events-keep o t m _ es _ k (stored m' request place item e) = stores-keep o m es k m' t request place item e
events-keep o t m _ es _ k (region m' e) = by-step o m es k t m' e

pub acts-may-come : ActsMayCome
acts-may-come o t m _ es _ k (called twin e) asks = tt
acts-may-come o t m _ es _ k (written twin e) asks = tt
acts-may-come o t m _ es _ k (fenced twin e) asks = fences-come o m es k twin t asks e
acts-may-come o t m _ es _ k (converted m' answer e no_seal) asks = tt
acts-may-come o t m _ es _ k (failed m' e) asks = tt
acts-may-come o t m _ es _ k (begun m' es' n word answer e) asks = tt
acts-may-come o t m _ es _ k (sealed m' set named e) asks = seals-come o m es k m' t set named asks e
acts-may-come o t m _ es _ k (asked request place item e) asks = ask-comes o m es k t request place item e
acts-may-come o t m _ es _ k (acted m' request operation r e) asks =
    acts-come o m es k m' t request operation r e
acts-may-come o t m _ es _ k (stored m' request place item e) asks =
    stores-come o m es k m' t request place item e
acts-may-come o t m _ es _ k (region m' e) asks = region-acts-come o m es k t m' e asks
