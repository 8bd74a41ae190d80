use Rattle.std.proofs.Common.{None, sym, ◌∙◌}
use Rattle.std.proofs.Math.Facts.{to_z-of_z}
use Rattle.plain_model.specs.declared.throws.Throws.TheVariants as exception
use Rattle.plain_model.specs.Steps.{allocates, throws, new_array}
use Rattle.object_steps.specs.Elements.{IsCount}
use Rattle.step_forms.specs.Follows.{HeapGoes}
use Rattle.step_forms.proofs.Going.{heap_same}
use Rattle.shared_objects.specs.Worlds.{world_of}
use Rattle.object_steps.proofs.Makes.{array_negative, array_made, array_may}
use Rattle.object_steps.proofs.making.new_elements.Goals as goal

pub returns-in_default-clause-step : goal.returns-in_default-clause-step
returns-in_default-clause-step g c =
    let facts = g.C.Types.facts c.args.set.now in
    let before = g.O.Objects.shown c.args.objects.now in
    let is : IsCount c.args.length None = rw (← to_z-of_z c.ranges.length) c.in_default.ensures in
    heap_same (λ world. new_array facts world c.args.shape c.args.length) (λ world. throws facts world
    exception.NegativeArraySize)
    (λ roots rest. array_negative facts (world_of roots before rest) c.args.shape c.args.length is)
    c.throw.ensures.step

pub allocate-requires-clause-slots : goal.allocate-requires-clause-slots
allocate-requires-clause-slots g c =
    array_may (g.C.Types.facts c.args.set.now) (g.O.Objects.shown c.args.objects.now) c.args.shape
    c.in-Some.slots
    c.requires.heap.of_set.shapes c.requires.elements

pub returns-clause-step : goal.returns-clause-step
returns-clause-step g c =
    let facts = g.C.Types.facts c.args.set.now in
    let before = g.O.Objects.shown c.args.objects.now in
    let goes : HeapGoes (λ world. allocates facts world c.args.shape c.in-Some.slots) before c.allocate.result
    (g.O.Objects.shown c.allocate.new.objects) = c.allocate.ensures.step in
    heap_same (λ world. new_array facts world c.args.shape c.args.length) (λ world. allocates facts world
    c.args.shape c.in-Some.slots)
    (λ roots rest. array_made facts (world_of roots before rest) c.args.shape c.in-Some.slots c.args.length
    (sym (to_z-of_z c.ranges.length) ∙ c.in-Some.ensures.0)) goes
