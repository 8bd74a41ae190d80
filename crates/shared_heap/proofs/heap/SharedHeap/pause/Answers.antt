use Rattle.std.proofs.Common.{◌≡◌, ℕ, refl, sym, subst}
use Rattle.natives.specs.declared.requests.Request.TheVariants as ask
use Rattle.natives.specs.declared.requests.Reply.TheVariants as reply
use Rattle.run_history.specs.declared.act.Op.TheVariants as op
use Rattle.run_history.specs.Worlds.{World}
use Rattle.monitors.specs.Indexed.{AreSound}
use Rattle.plain_model.specs.Facts.{SetFacts}
use Rattle.plain_model.specs.Steps.{Does, step}
use Rattle.shared_objects.specs.Worlds.{world_of}
use Rattle.step_forms.specs.declared.stepped.Stepped.TheVariants as stepped
use Rattle.step_forms.specs.Follows.{Agrees}
use Rattle.step_forms.proofs.Going.{did_goes}
use Rattle.store_barrier.specs.Passed.{shown_in}
use Rattle.store_barrier.specs.Barriers.{spaces_of}
use Rattle.two_spaces.specs.Seen.{shown_of}
use Rattle.shared_heap.specs.Shared.{Shared}
use Rattle.shared_heap.proofs.Requesting.{steps_to, told_after}
use Rattle.shared_heap.proofs.heap.SharedHeap.pause.Goals as goal

pause_is : (set : SetFacts) (world : World) (t taken : ℕ) → step set world t taken ask.Pause ≡ Does op.Pause reply.Done
unfolding step
pause_is set world t taken = refl

pub returns : goal.returns
returns g c =
    let facts = g.C.Types.facts c.args.set.now in
    let before = c.self.inside.spaces in
    let rest = c.self.inside.rest in
    let agrees = subst (λ (s : Shared). Agrees facts (shown_in s.machine) s.machine.rest)
    (sym c.self.view_is) c.requires.agrees in
    let result = stepped.Did op.Pause reply.Done in
    record {
      answers = (
        op.Pause,
        steps_to facts c.args.t ask.Pause result _ c.args.self.now (spaces_of before)
            rest c.tell_op.new.acts c.self.inside.notes c.self.view_is record {
              agrees = agrees;
              sound = subst (λ (s : Shared). AreSound s.machine.rest.monitors) (sym c.self.view_is)
                  c.requires.sound;
              step = did_goes op.Pause reply.Done
                  (λ roots. pause_is facts (world_of roots (shown_of (spaces_of before)) rest) c.args.t 1)
                  tt refl tt (λ roots. refl) agrees.monitors;
              heap = refl;
              told = told_after c.args.t c.calls-at.result before.heap.memory c.self.inside.acts
                  c.tell_op.new.acts result c.calls-at.ensures c.tell_op.ensures.told;
              noted = refl;
            },
      );
    }
