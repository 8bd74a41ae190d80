use Rattle.twin_heap.proofs.Reading.{leads_to, resolved_is}
use Rattle.twin_heap.proofs.heap.TwinHeap.resolved.Goals as goal

pub resolve-requires : goal.resolve-requires
resolve-requires g c = let s = c.args.self.now.space in let m = c.args.self.now.memory in let k = c.args.self.now.marks in record { object = leads_to s m k c.args.r c.requires.object }

pub returns : goal.returns
returns g c = let s = c.args.self.now.space in let m = c.args.self.now.memory in let k = c.args.self.now.marks in record
    { current = resolved_is s m k c.args.r c.resolve.result c.resolve.ensures.resolved }
