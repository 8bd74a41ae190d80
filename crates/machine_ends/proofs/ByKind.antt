-- Each event, by its kind.
use Rattle.std.proofs.Common.{ap, sym, ◌∙◌, ◌+◌}
use Rattle.convert_words.specs.declared.step.ConvertStep.TheVariants as answer
use Rattle.machine_laws.specs.Happening.{called, written, fenced, converted, failed, begun, sealed, asked, acted, stored}
use Rattle.machine_laws.specs.Happening.{region}
use Rattle.machine_laws.proofs.Passed.{table-is}
use Rattle.machine_ends.specs.LineLaws.{EventsKeepLines}
use Rattle.machine_ends.specs.Unwritten.{EventsLeaveUnwritten}
use Rattle.machine_ends.proofs.Events.{begun-by, conversions-keep-lines}
use Rattle.machine_ends.proofs.LineRegions.{regions-keep-lines, regions-unwritten, same-unwritten}
use Rattle.machine_ends.proofs.Taken.{nodes-there, taken-after}
use Rattle.machine_ends.proofs.Unwritten.{acts-unwritten, beginnings-unwritten, conversions-unwritten, failures-unwritten}
use Rattle.machine_ends.proofs.Unwritten.{fences-unwritten}

pub events-keep-lines : EventsKeepLines
events-keep-lines o t m _ es _ k (called twin e) first taken = taken
events-keep-lines o t m _ es _ k (written twin e) first taken = taken
events-keep-lines o t m _ es _ k (fenced twin e) first taken = taken
events-keep-lines o t m _ es _ k (converted m' answer e no_seal) first taken =
    conversions-keep-lines o m es first k taken m' t answer e
events-keep-lines o t m _ es _ k (failed m' e) first taken =
    e.event.fails.free ∙ e.event.goes_on.free ∙ taken
events-keep-lines o t m _ es _ k (begun m' es' n word answer e) first taken =
    begun-by o m es first k taken m' es' t n answer e.asked.there e.begins.says
events-keep-lines o t m _ es _ k (sealed m' set named e) first taken =
    conversions-keep-lines o m es first k taken m' t (answer.Sealed set) e.converts
events-keep-lines o t m _ es _ k (asked request place item e) first taken = taken
events-keep-lines o t m _ es _ k (acted m' request operation r e) first taken =
    e.does.free ∙ taken ∙ ap (λ x. first + x)
    (sym (taken-after o m operation es _ (nodes-there o m es k) (table-is m operation es)))
events-keep-lines o t m _ es _ k (stored m' request place item e) first taken = e.does.free ∙ taken
events-keep-lines o t m _ es _ k (region m' e) first taken = regions-keep-lines o t m m' es first taken e

pub events-unwritten : EventsLeaveUnwritten
events-unwritten o t m _ es _ k (called twin e) old = old
events-unwritten o t m _ es _ k (written twin e) old = old
events-unwritten o t m _ es _ k (fenced twin e) old = fences-unwritten o m es k old twin t e
events-unwritten o t m _ es _ k (converted m' answer e no_seal) old =
    conversions-unwritten o m es k old m' t answer e
events-unwritten o t m _ es _ k (failed m' e) old = failures-unwritten o m es k old m' t e
events-unwritten o t m _ es _ k (begun m' es' n word answer e) old =
    beginnings-unwritten o m es k old m' es' t n word answer e
events-unwritten o t m _ es _ k (sealed m' set named e) old =
    conversions-unwritten o m es k old m' t (answer.Sealed set) e.converts
events-unwritten o t m _ es _ k (asked request place item e) old = old
events-unwritten o t m _ es _ k (acted m' request operation r e) old =
    acts-unwritten o m es k old m' _ t request operation r e (table-is m operation es)
events-unwritten o t m _ es _ k (stored m' request place item e) old = same-unwritten m m' es e.queue old
events-unwritten o t m _ es _ k (region m' e) old = regions-unwritten o t m m' es old e
