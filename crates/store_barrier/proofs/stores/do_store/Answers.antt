use Rattle.store_barrier.specs.Barriers.{spaces_of}
use Rattle.store_barrier.proofs.Holders.{may_store}
use Rattle.store_barrier.proofs.stores.do_store.Goals as goal

pub commit-requires-clause-may : goal.commit-requires-clause-may
commit-requires-clause-may g c = may_store (spaces_of c.args.spaces.now) c.args.store c.requires.barrier
