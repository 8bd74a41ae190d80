use Rattle.std.proofs.Common.{ℕ, Option, subst}
use Rattle.machine.specs.Ended.{StoreComesTo}
use Rattle.machine.proofs.Stores.{stored-comes, stored_event}
use Rattle.machine.proofs.storing.make_at_once.Goals as goal

pub store-requires-clause-apart : goal.store-requires-clause-apart
store-requires-clause-apart g c = c.requires.apart

pub store-requires-clause-logged : goal.store-requires-clause-logged
store-requires-clause-logged g c = c.requires.logged

pub store-requires-clause-line : goal.store-requires-clause-line
store-requires-clause-line g c = c.requires.line

pub returns-in-None-clause-stored : goal.returns-in-None-clause-stored
returns-in-None-clause-stored g c is =
    subst (λ (l : Option ℕ). StoreComesTo c.args.t c.args.store (stored_event l) c.args.heap.now c.store.new.self)
    c.in-None.is
    (stored-comes c.laws.ensures c.args.heap.now c.store.new.self c.args.t c.args.store c.args.line c.requires.apart
    c.requires.follows c.requires.logged c.requires.line
    c.store.ensures.stored c.requires.room)
