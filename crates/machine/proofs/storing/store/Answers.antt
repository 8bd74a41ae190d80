use Rattle.std.proofs.Common.{subst, sym}
use Rattle.ap_base.specs.declared.place.Place.{Place}
use Rattle.run_types.specs.declared.fault.StepFault.TheVariants as met
use Rattle.machine.specs.declared.events.Event.TheVariants.{Over}
use Rattle.machine.specs.declared.events.Halt.TheVariants.{Met}
use Rattle.machine.specs.Ended.{StoreComesTo}
use Rattle.machine.proofs.Guarding.{race-comes-to}
use Rattle.machine.proofs.storing.store.Goals as goal

pub convert-requires-clause-apart : goal.convert-requires-clause-apart
convert-requires-clause-apart g c = c.in-ConvertFirst.ensures.apart

pub guard-requires-clause-apart : goal.guard-requires-clause-apart
guard-requires-clause-apart g c = c.in-LogFirst.ensures.apart

pub make-requires-clause-apart : goal.make-requires-clause-apart
make-requires-clause-apart g c = c.in-Store.ensures.apart

pub make-requires-clause-logged : goal.make-requires-clause-logged
make-requires-clause-logged g c = c.in-Store.ensures.logged

pub returns-in-Race : goal.returns-in-Race
returns-in-Race g c =
    subst (λ (p : Place). StoreComesTo c.args.t c.args.store (Over (Met (met.RegionRace c.args.t c.in-Race.other p)))
    c.args.heap.now c.args.heap.now) (sym c.place_of.ensures)
    (race-comes-to c.laws.ensures c.args.heap.now c.args.t c.args.store c.in-Race.other c.requires.room
    c.in-Race.ensures.race)
