use Rattle.std.proofs.Common.{sym, subst}
use Rattle.shared_objects.specs.Worlds.{KnowsMonitors}
use Rattle.store_barrier.specs.Passed.{shown_in}
use Rattle.store_barrier.specs.Barriers.{MayFollow, spaces_of}
use Rattle.shared_heap.specs.Shared.{Shared}
use Rattle.shared_heap.proofs.Requesting.{stores_to}
use Rattle.shared_heap.proofs.heap.SharedHeap.store.Goals as goal

pub do_store-step-requires-clause-barrier : goal.do_store-step-requires-clause-barrier
do_store-step-requires-clause-barrier g c =
    subst (λ (s : Shared). MayFollow s.machine.spaces c.args.store) (sym c.self.view_is) c.requires.barrier

pub returns : goal.returns
returns g c =
    let did = c.do_store-step in
    record {
      stored = stores_to c.args.t c.number.result c.calls-at.result c.args.store c.args.line did.result _
          c.args.self.now c.doing_stored.result (spaces_of did.new.spaces) did.new.queue c.tell_step.new.acts
          c.self.view_is record {
            monitors = subst (λ (s : Shared). KnowsMonitors (shown_in s.machine) s.machine.rest)
                (sym c.self.view_is) c.requires.monitors;
            number = c.number.ensures.same;
            calls = c.calls-at.ensures;
            doing = c.doing_stored.ensures;
            step = did.ensures.step;
            did = did.ensures.did;
            heap = did.ensures.heap;
            notes = did.ensures.notes;
            durable = did.ensures.durable;
            told = c.tell_step.ensures.told;
          };
    }
