use Rattle.std.proofs.Common.{ap, subst, ℕ}
use Rattle.std.proofs.Math.Facts.{to_z-of_z}
use Rattle.natives.specs.declared.requests.Request.TheVariants as ask
use Rattle.run_types.specs.declared.known.Known.{Known}
use Rattle.plain_model.specs.Facts.{string_number}
use Rattle.plain_model.specs.Steps.{new_array}
use Rattle.plain_model.proofs.Consistent.{string_there, text_elements}
use Rattle.shared_objects.specs.Worlds.{world_of}
use Rattle.step_forms.specs.Follows.{HeapGoes}
use Rattle.step_forms.proofs.Going.{heap_step}
use Rattle.object_steps.proofs.Makes.{step_text, some_kind}
use Rattle.object_steps.proofs.making.new_text.Goals as goal

pub new_elements-requires-clause-class : goal.new_elements-requires-clause-class
new_elements-requires-clause-class g c = rw c.known.ensures (string_there (g.C.Types.facts c.args.set.now))

pub new_elements-requires-clause-elements : goal.new_elements-requires-clause-elements
new_elements-requires-clause-elements g c = rw c.known.ensures (some_kind (text_elements (g.C.Types.facts
    c.args.set.now)))

pub returns-clause-step : goal.returns-clause-step
returns-clause-step g c =
    let facts = g.C.Types.facts c.args.set.now in
    let before = g.O.Objects.shown c.args.objects.now in
    let goes : HeapGoes (λ world. new_array facts world c.known.result.string c.args.length) before
    c.new_elements.result
    (g.O.Objects.shown c.new_elements.new.objects) = rw (← to_z-of_z c.ranges.length) c.new_elements.ensures.step
    in
    heap_step (λ world. new_array facts world (string_number facts) c.args.length) facts (λ from. ask.NewText
    from c.args.length)
    (λ roots rest t taken from. step_text facts (world_of roots before rest) t taken from c.args.length)
    (subst (λ (n : ℕ). HeapGoes (λ world. new_array facts world n c.args.length) before c.new_elements.result
    (g.O.Objects.shown c.new_elements.new.objects)) (ap (λ (k : Known). k.string) c.known.ensures) goes)
