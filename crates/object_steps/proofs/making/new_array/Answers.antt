use Rattle.std.proofs.Math.Facts.{to_z-of_z}
use Rattle.natives.specs.declared.requests.Request.TheVariants as ask
use Rattle.plain_model.specs.Steps.{new_array}
use Rattle.shared_objects.specs.Worlds.{world_of}
use Rattle.step_forms.specs.Follows.{HeapGoes}
use Rattle.step_forms.proofs.Going.{heap_step}
use Rattle.object_steps.proofs.Makes.{step_array}
use Rattle.object_steps.proofs.making.new_array.Goals as goal

pub returns-clause-step : goal.returns-clause-step
returns-clause-step g c =
    let facts = g.C.Types.facts c.args.set.now in
    let before = g.O.Objects.shown c.args.objects.now in
    let goes : HeapGoes (λ world. new_array facts world c.args.shape c.args.length) before
    c.new_elements.result
    (g.O.Objects.shown c.new_elements.new.objects) = rw (← to_z-of_z c.ranges.length) c.new_elements.ensures.step
    in
    heap_step (λ world. new_array facts world c.args.shape c.args.length) facts (λ from. ask.NewArray from
    c.args.shape c.args.length)
    (λ roots rest t taken from. step_array facts (world_of roots before rest) t taken from c.args.shape
    c.args.length)
    goes
