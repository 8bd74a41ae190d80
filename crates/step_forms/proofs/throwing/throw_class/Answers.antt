use Rattle.std.proofs.Common.{refl, ap}
use Rattle.step_forms.proofs.Making.{own_slots_may, enough, throw_goes, throw_limit}
use Rattle.step_forms.proofs.throwing.throw_class.Goals as goal

pub alloc-requires-clause-slots : goal.alloc-requires-clause-slots
alloc-requires-clause-slots g c =
    own_slots_may (g.C.Types.facts c.args.set.now) (g.O.Objects.shown c.args.objects.now) c.args.class
    c.slots_of-slots.result
    c.requires.heap.of_set.shapes c.slots_of-slots.ensures.slots

pub returns-in-Err-clause-step : goal.returns-in-Err-clause-step
returns-in-Err-clause-step g c t rest known =
    throw_limit (g.C.Types.facts c.args.set.now) t c.args.class c.slots_of-slots.result
    (g.O.Objects.shown c.args.objects.now) (g.O.Objects.shown c.alloc.new.self) rest c.in-Err.full
    known c.in-Err.ensures.numbers (ap g.O.Objects.shown c.in-Err.ensures.same) (c.in-Err.ensures.full.0 refl)
    c.requires.heap.of_set.shapes c.slots_of-slots.ensures.slots

pub returns-in-Ok-clause-step : goal.returns-in-Ok-clause-step
returns-in-Ok-clause-step g c t rest known =
    throw_goes (g.C.Types.facts c.args.set.now) t c.args.class c.slots_of-slots.result c.number_of.result
    c.in-Ok.object
    (g.O.Objects.shown c.args.objects.now) (g.O.Objects.shown c.alloc.new.self) rest
    known c.in-Ok.ensures.made c.number_of.ensures.number
    c.requires.heap.of_set.shapes c.slots_of-slots.ensures.slots
    (enough _ _ c.in-Ok.ensures.full)
