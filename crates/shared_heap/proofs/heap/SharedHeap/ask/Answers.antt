use Rattle.shared_heap.proofs.Requesting.{item_here}
use Rattle.shared_heap.proofs.heap.SharedHeap.ask.Goals as goal

pub valued-value-requires-clause-here : goal.valued-value-requires-clause-here
valued-value-requires-clause-here g c =
    item_here _ c.args.self.now c.args.store.now.kept c.self.view_is c.requires.whole
