use Rattle.machine.proofs.storing.store_at_once.Goals as goal

pub make_at_once-requires-clause-apart : goal.make_at_once-requires-clause-apart
make_at_once-requires-clause-apart g c = c.in-Store.ensures.apart

pub make_at_once-requires-clause-logged : goal.make_at_once-requires-clause-logged
make_at_once-requires-clause-logged g c = c.in-Store.ensures.logged
