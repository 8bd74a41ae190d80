use Rattle.std.proofs.Common.{◌≡◌, refl, subst}
use Rattle.shared_heap.specs.Regions.{PartTo}
use Rattle.shared_heap.specs.Shared.{Shared}
use Rattle.shared_heap.proofs.Regioning.{closes_to, part_ends}
use Rattle.shared_heap.proofs.heap.SharedHeap.end_next.Goals as goal

pub returns-in-AllFenced-clause-ends : goal.returns-in-AllFenced-clause-ends
returns-in-AllFenced-clause-ends g c = closes_to c.args.t c.args.self.now c.end_part.new.self c.tell.new.self
    (subst (λ (s : Shared). s.machine.acts ≡ s.history.acts) c.self.view_is refl)
    (subst (λ step. PartTo step c.args.t c.args.self.now c.end_part.new.self) c.in-AllFenced.is
    c.in_ok-step.ensures.ends) record {
      told = c.tell.ensures.told;
      machine = c.tell.ensures.machine;
      lines = c.tell.ensures.lines;
      notes = c.tell.ensures.notes;
    }

pub returns-in_default-clause-ends : goal.returns-in_default-clause-ends
returns-in_default-clause-ends g c = part_ends c.in_ok-step.step c.args.t c.args.self.now _
    c.in_default.not-AllFenced c.in_ok-step.ensures.ends
