use Rattle.std.proofs.Common.{sym, subst}
use Rattle.monitors.specs.Indexed.{AreSound}
use Rattle.step_forms.specs.Follows.{Agrees}
use Rattle.two_spaces.specs.Seen.{shown_of}
use Rattle.store_barrier.specs.Passed.{shown_in}
use Rattle.store_barrier.specs.Barriers.{spaces_of}
use Rattle.shared_heap.specs.Shared.{Shared}
use Rattle.shared_heap.proofs.Requesting.{asks_from, becomes_of, noted-by-act, steps_to, told_after}
use Rattle.shared_heap.proofs.Storing.{is_no_store}
use Rattle.shared_heap.proofs.heap.SharedHeap.take.Goals as goal

pub take_step-step-requires-clause-asks : goal.take_step-step-requires-clause-asks
take_step-step-requires-clause-asks g c = asks_from
    (g.C.Types.facts c.args.set.now) _ c.args.self.now c.args.t
    c.args.request.now c.self.view_is c.requires.whole c.requires.long c.requires.agrees c.requires.may

pub returns-clause-steps : goal.returns-clause-steps
returns-clause-steps g c =
    let facts = g.C.Types.facts c.args.set.now in
    let result = c.take_step-step.result in
    let before = c.self.inside.spaces in
    let now = c.take_step-step.new.objects in
    steps_to facts c.args.t c.args.request.now result _ c.args.self.now (spaces_of now)
    c.take_step-step.new.rest c.tell_step.new.acts c.note_start.new.notes c.self.view_is record {
      agrees = subst (λ (s : Shared). Agrees facts (shown_in s.machine) s.machine.rest)
          (sym c.self.view_is) c.requires.agrees;
      sound = subst (λ (s : Shared). AreSound s.machine.rest.monitors) (sym c.self.view_is) c.requires.sound;
      step = c.take_step-step.ensures.step;
      heap = becomes_of before now result c.take_step-step.ensures.heap;
      told = told_after c.args.t c.calls-at.result before.heap.memory c.self.inside.acts c.tell_step.new.acts
          result c.calls-at.ensures c.tell_step.ensures.told;
      noted = noted-by-act c.args.request.now result c.args.t c.calls-at.result c.len-before.result c.self.inside.acts
          c.tell_step.new.acts c.self.inside.notes c.note_start.new.notes c.tell_step.ensures.told
          c.len-before.ensures.len c.note_start.ensures.noted;
    }

pub returns-clause-no_store : goal.returns-clause-no_store
returns-clause-no_store g c = is_no_store (g.C.Types.facts c.args.set.now) c.args.t c.args.request.now
    (shown_of (spaces_of c.self.inside.spaces)) c.self.inside.rest c.take_step-step.result
    (shown_of (spaces_of c.take_step-step.new.objects)) c.take_step-step.new.rest
    c.take_step-step.ensures.step
    c.requires.no_store
