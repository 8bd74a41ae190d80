use Rattle.std.proofs.Common.{sym, subst}
use Rattle.monitors.specs.Indexed.{AreSound}
use Rattle.step_forms.specs.Follows.{Agrees}
use Rattle.store_barrier.specs.Passed.{shown_in}
use Rattle.store_barrier.specs.Barriers.{spaces_of}
use Rattle.shared_heap.specs.Shared.{Shared}
use Rattle.shared_heap.proofs.Requesting.{asks_from, becomes_of, steps_to, stores_note_nothing, told_after}
use Rattle.shared_heap.proofs.heap.SharedHeap.plan.Goals as goal

pub plan_store-requires-clause-asks : goal.plan_store-requires-clause-asks
plan_store-requires-clause-asks g c = asks_from (g.C.Types.facts c.args.set.now) _ c.args.self.now c.args.t
    c.args.request.now c.self.view_is c.requires.whole c.requires.long c.requires.agrees c.requires.may

pub returns-in-Some-Ends-clause-ends : goal.returns-in-Some-Ends-clause-ends
returns-in-Some-Ends-clause-ends g c =
    let facts = g.C.Types.facts c.args.set.now in
    let stops = rw c.in-Some-Ends.field-0-is at c.in-Some-Ends.ensures.plans in
    let result = c.in-Some-Ends.step in
    let before = c.self.inside.spaces in
    let now = c.plan_store.new.objects in (
      steps_to facts c.args.t c.args.request.now result _ c.args.self.now (spaces_of now)
          c.plan_store.new.rest c.tell_step.new.acts c.self.inside.notes c.self.view_is record {
            agrees = subst (λ (s : Shared). Agrees facts (shown_in s.machine) s.machine.rest)
                (sym c.self.view_is) c.requires.agrees;
            sound = subst (λ (s : Shared). AreSound s.machine.rest.monitors) (sym c.self.view_is)
                c.requires.sound;
            step = stops.step;
            heap = becomes_of before now result stops.heap;
            told = told_after c.args.t c.calls-at.result before.heap.memory c.self.inside.acts
                c.tell_step.new.acts result c.calls-at.ensures c.tell_step.ensures.told;
            noted = stores_note_nothing c.args.request.now result c.self.inside.notes
                (λ none. let no = c.in-Some-Ends.ensures.none.1 none in cc);
          },
      stops.no_store,
    )
