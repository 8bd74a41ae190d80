use Rattle.std.proofs.Common.{[], sym, subst}
use Rattle.natives.specs.declared.requests.Request.TheVariants as ask
use Rattle.step_forms.specs.Follows.{Agrees}
use Rattle.store_barrier.specs.Passed.{shown_in}
use Rattle.shared_heap.specs.Shared.{Shared}
use Rattle.shared_heap.specs.Requests.{IsPlannedFor}
use Rattle.shared_heap.proofs.Requesting.{asks_from}
use Rattle.shared_heap.proofs.heap.SharedHeap.plan_field.Goals as goal

pub planned_field-requires-clause-heap : goal.planned_field-requires-clause-heap
planned_field-requires-clause-heap g c = (subst (λ (s : Shared). Agrees (g.C.Types.facts c.args.set.now)
    (shown_in s.machine) s.machine.rest) (sym c.self.view_is) c.requires.agrees).heap

pub planned_field-requires-clause-field : goal.planned_field-requires-clause-field
planned_field-requires-clause-field g c = (asks_from (g.C.Types.facts c.args.set.now) _ c.args.self.now c.args.t
    (ask.PutField c.requires.may.0 c.args.holder c.args.field c.args.value) c.self.view_is c.requires.whole
    c.requires.long c.requires.agrees c.requires.may.1).fit.0

pub planned_field-requires-clause-known : goal.planned_field-requires-clause-known
planned_field-requires-clause-known g c = (asks_from (g.C.Types.facts c.args.set.now) _ c.args.self.now c.args.t
    (ask.PutField c.requires.may.0 c.args.holder c.args.field c.args.value) c.self.view_is c.requires.whole
    c.requires.long c.requires.agrees c.requires.may.1).known.0

pub planned_field-requires-clause-known_value : goal.planned_field-requires-clause-known_value
planned_field-requires-clause-known_value g c = (asks_from (g.C.Types.facts c.args.set.now) _ c.args.self.now c.args.t
    (ask.PutField c.requires.may.0 c.args.holder c.args.field c.args.value) c.self.view_is c.requires.whole
    c.requires.long c.requires.agrees c.requires.may.1).known.1

pub planned_field-requires-clause-head : goal.planned_field-requires-clause-head
planned_field-requires-clause-head g c = (asks_from (g.C.Types.facts c.args.set.now) _ c.args.self.now c.args.t
    (ask.PutField c.requires.may.0 c.args.holder c.args.field c.args.value) c.self.view_is c.requires.whole
    c.requires.long c.requires.agrees c.requires.may.1).here.0

pub planned_field-requires-clause-slot : goal.planned_field-requires-clause-slot
planned_field-requires-clause-slot g c = (asks_from (g.C.Types.facts c.args.set.now) _ c.args.self.now c.args.t
    (ask.PutField c.requires.may.0 c.args.holder c.args.field c.args.value) c.self.view_is c.requires.whole
    c.requires.long c.requires.agrees c.requires.may.1).here.1

pub planned_field-requires-clause-value : goal.planned_field-requires-clause-value
planned_field-requires-clause-value g c = (asks_from (g.C.Types.facts c.args.set.now) _ c.args.self.now c.args.t
    (ask.PutField c.requires.may.0 c.args.holder c.args.field c.args.value) c.self.view_is c.requires.whole
    c.requires.long c.requires.agrees c.requires.may.1).here.2

pub returns : goal.returns
returns g c = record {
  planned = λ from. subst (λ (s : Shared). IsPlannedFor (g.C.Types.facts c.args.set.now) c.args.t
      (ask.PutField from c.args.holder c.args.field c.args.value) c.in-Some.store s) c.self.view_is record {
        asks = c.in-Some.ensures.plan.0 c.args.t 0 [] c.self.inside.rest from;
        ready = record { can = c.in-Some.ensures.plan.1; here = c.in-Some.ensures.here };
      };
}
