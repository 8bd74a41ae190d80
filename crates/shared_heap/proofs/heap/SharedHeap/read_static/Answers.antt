use Rattle.std.proofs.Common.{refl, sym, subst}
use Rattle.ap_base.specs.declared.place.Place.TheVariants.{Static}
use Rattle.natives.specs.declared.requests.Request.TheVariants as ask
use Rattle.natives.specs.declared.requests.Reply.TheVariants as reply
use Rattle.run_history.specs.declared.act.Op.TheVariants as op
use Rattle.monitors.specs.Indexed.{AreSound}
use Rattle.step_forms.specs.declared.stepped.Stepped.TheVariants as stepped
use Rattle.step_forms.specs.Follows.{Agrees}
use Rattle.store_barrier.specs.Passed.{shown_in}
use Rattle.store_barrier.specs.Barriers.{spaces_of}
use Rattle.shared_heap.specs.Shared.{Shared}
use Rattle.shared_heap.proofs.Requesting.{asks_from, steps_to, told_after}
use Rattle.shared_heap.proofs.heap.SharedHeap.read_static.Goals as goal

pub read_static-requires-clause-static_here : goal.read_static-requires-clause-static_here
read_static-requires-clause-static_here g c = (asks_from (g.C.Types.facts c.args.set.now) _ c.args.self.now c.args.t
    (ask.GetStatic c.requires.may.0 c.args.field) c.self.view_is c.requires.whole c.requires.long
    c.requires.agrees c.requires.may.1).here.0

pub read_static-requires-clause-here : goal.read_static-requires-clause-here
read_static-requires-clause-here g c = (asks_from (g.C.Types.facts c.args.set.now) _ c.args.self.now c.args.t
    (ask.GetStatic c.requires.may.0 c.args.field) c.self.view_is c.requires.whole c.requires.long
    c.requires.agrees c.requires.may.1).here.1

pub returns-clause-reads : goal.returns-clause-reads
returns-clause-reads g c from =
    let facts = g.C.Types.facts c.args.set.now in
    let before = c.self.inside.spaces in
    let agrees = subst (λ (s : Shared). Agrees facts (shown_in s.machine) s.machine.rest)
    (sym c.self.view_is) c.requires.agrees in
    let request = ask.GetStatic from c.args.field in
    let operation = op.Read (Static c.args.field.at) c.in-Some.got.value in
    let result = stepped.Did operation (reply.Item c.in-Some.got.item) in (
      operation,
      steps_to facts c.args.t request result _ c.args.self.now (spaces_of before)
          c.self.inside.rest c.tell_op.new.acts c.self.inside.notes c.self.view_is record {
            agrees = agrees;
            sound = subst (λ (s : Shared). AreSound s.machine.rest.monitors) (sym c.self.view_is)
                c.requires.sound;
            step = c.in-Some.ensures.step facts c.args.t from agrees.monitors;
            heap = refl;
            told = told_after c.args.t c.calls-at.result before.heap.memory c.self.inside.acts
                c.tell_op.new.acts result c.calls-at.ensures c.tell_op.ensures.told;
            noted = refl;
          },
    )
