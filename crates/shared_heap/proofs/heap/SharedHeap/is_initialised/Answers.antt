use Rattle.std.proofs.Common.{rules, refl, sym, subst, ◌≡◌, true, Some}
use Rattle.std.specs.Prelude.{slice_get}
use Rattle.natives.specs.declared.requests.Request.TheVariants as ask
use Rattle.natives.specs.declared.requests.Reply.TheVariants as reply
use Rattle.run_history.specs.declared.act.Op.TheVariants as op
use Rattle.run_history.specs.declared.act.Stage.TheVariants as stage
use Rattle.run_history.specs.declared.plain.Progress.TheVariants.{Finished}
use Rattle.monitors.specs.Indexed.{AreSound}
use Rattle.step_forms.specs.declared.stepped.Stepped.TheVariants as stepped
use Rattle.step_forms.specs.Follows.{Agrees}
use Rattle.store_barrier.specs.Passed.{shown_in}
use Rattle.store_barrier.specs.Barriers.{spaces_of}
use Rattle.two_spaces.specs.Seen.{shown_of}
use Rattle.shared_heap.specs.Shared.{Shared}
use Rattle.shared_heap.proofs.Initialised.{init_goes}
use Rattle.shared_heap.proofs.Requesting.{steps_to, told_after}
use Rattle.shared_heap.proofs.heap.SharedHeap.is_initialised.Goals as goal

pub returns-clause-answers : goal.returns-clause-answers
returns-clause-answers g c _ from =
    let facts = g.C.Types.facts c.args.set.now in
    let before = c.self.inside.spaces in
    let rest = c.self.inside.rest in
    let agrees = subst (λ (s : Shared). Agrees facts (shown_in s.machine) s.machine.rest)
    (sym c.self.view_is) c.requires.agrees in
    let request = ask.Init from c.args.class in
    let operation = op.Init c.args.class stage.Ready in
    let result = stepped.Did operation reply.Done in
    let finishes : c.is_finished.result ≡ true = search rules in
    let finished : slice_get rest.classes.items c.args.class ≡ Some Finished = c.is_finished.ensures finishes in (
      operation,
      steps_to facts c.args.t request result _ c.args.self.now (spaces_of before)
          rest c.tell_op.new.acts c.self.inside.notes c.self.view_is record {
            agrees = agrees;
            sound = subst (λ (s : Shared). AreSound s.machine.rest.monitors) (sym c.self.view_is)
                c.requires.sound;
            step = init_goes facts c.args.t c.args.class from (shown_of (spaces_of before)) rest finished agrees.monitors;
            heap = refl;
            told = told_after c.args.t c.calls-at.result before.heap.memory c.self.inside.acts
                c.tell_op.new.acts result c.calls-at.ensures c.tell_op.ensures.told;
            noted = refl;
          },
    )
