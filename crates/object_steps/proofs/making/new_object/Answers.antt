use Rattle.std.proofs.Common.{refl, ◌∙◌, ap, sym}
use Rattle.plain_model.specs.Steps.{allocates, new_length}
use Rattle.shared_objects.specs.Worlds.{world_of}
use Rattle.step_forms.specs.Follows.{HeapGoes}
use Rattle.step_forms.proofs.Going.{same_goes}
use Rattle.step_forms.proofs.Becoming.{quiet_becomes}
use Rattle.object_steps.proofs.Makes.{new_may, step_new}
use Rattle.object_steps.proofs.making.new_object.Goals as goal

pub returns-in-Some-clause-step : goal.returns-in-Some-clause-step
returns-in-Some-clause-step g c from =
    let facts = g.C.Types.facts c.args.set.now in
    let shown = g.O.Objects.shown c.args.objects.now in
    same_goes (λ roots taken. step_new facts (world_of roots shown c.args.rest.now) c.args.t taken from
    c.args.class)
    (c.in-Some.ensures.first facts shown (λ roots taken. let world = world_of roots shown c.args.rest.now in
    allocates facts world c.args.class (new_length facts world c.args.class)) c.requires.monitors)

pub allocate-requires-clause-slots : goal.allocate-requires-clause-slots
allocate-requires-clause-slots g c =
    new_may (g.C.Types.facts c.args.set.now) (g.O.Objects.shown c.args.objects.now) c.args.class
    c.fields.result
    c.requires.heap.of_set.shapes c.fields.ensures.count

pub returns-clause-step : goal.returns-clause-step
returns-clause-step g c from =
    let facts = g.C.Types.facts c.args.set.now in
    let before = g.O.Objects.shown c.args.objects.now in
    let goes : HeapGoes (λ world. allocates facts world c.args.class c.fields.result) before c.allocate.result
    (g.O.Objects.shown c.allocate.new.objects) = c.allocate.ensures.step in
    rw c.in_default.ensures.first.1 (same_goes (λ roots taken.
    step_new facts (world_of roots before c.args.rest.now) c.args.t taken from c.args.class
    ∙ c.in_default.ensures.first.0 facts (world_of roots before c.args.rest.now)
    (allocates facts (world_of roots before c.args.rest.now) c.args.class (new_length facts (world_of roots
    before c.args.rest.now) c.args.class)) refl
    ∙ ap (allocates facts (world_of roots before c.args.rest.now) c.args.class) (sym c.fields.ensures.count))
    (goes c.args.t c.args.rest.now c.requires.monitors))

pub returns-in-Some-clause-heap : goal.returns-in-Some-clause-heap
returns-in-Some-clause-heap g c = quiet_becomes g.O.Objects.shown g.O.Objects.stores g.O.Objects.makes
    c.args.objects.now c.in-Some.first c.in-Some.ensures.quiet
