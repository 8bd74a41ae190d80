use Rattle.std.proofs.Common.{subst}
use Rattle.ap_base.specs.References.{reference_word}
use Rattle.twin_forms.specs.Table.{Leads}
use Rattle.twin_forms.specs.Sights.{sight}
use Rattle.twin_heap.proofs.Reading.{is_object}
use Rattle.twin_heap.proofs.heap.TwinHeap.in_p.Goals as goal

pub state_at-requires : goal.state_at-requires
state_at-requires g c = let s = c.args.self.now.space in let m = c.args.self.now.memory in let k = c.args.self.now.marks in
    record { object = is_object s m k c.in-Volatile.at (subst (λ x. Leads (sight s m k) (reference_word x)) c.in-Volatile.is c.requires.object) }
