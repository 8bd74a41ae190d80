use Rattle.std.proofs.Common.{rules, refl, false, Some, None}
use Rattle.natives.specs.declared.requests.Request.TheVariants as ask
use Rattle.natives.specs.declared.requests.Reply.TheVariants as reply
use Rattle.run_history.specs.declared.act.Op.TheVariants as op
use Rattle.plain_model.specs.Steps.{Does, bool_value}
use Rattle.shared_objects.specs.Shown.{item_value}
use Rattle.shared_objects.specs.Worlds.{world_of}
use Rattle.step_forms.proofs.Going.{heap_step, heap_did}
use Rattle.object_steps.specs.Tests.{item_of}
use Rattle.object_steps.proofs.Tested.{is_a_none, is_a_told, known_bool}
use Rattle.object_steps.proofs.testing.is_a.Goals as goal

pub returns-in_default-clause-step : goal.returns-in_default-clause-step
returns-in_default-clause-step g c =
    let facts = g.C.Types.facts c.args.set.now in
    let before = g.O.Objects.shown c.args.objects.now in
    heap_step (λ world. Does (op.Class None None) (reply.Item (bool_value false))) facts (λ from. ask.IsA
    from c.args.object c.args.target)
    (λ roots rest t taken from. is_a_none facts (world_of roots before rest) t taken from _ c.args.target
    (search rules))
    (rw c.bool_item.ensures (heap_did (λ world. Does (op.Class None None) (reply.Item (bool_value false)))
    (op.Class None None)
    (reply.Item (item_of false)) (λ roots rest. refl) tt refl (λ world. tt) (λ world t. refl)))

pub returns-clause-step : goal.returns-clause-step
returns-clause-step g c =
    let facts = g.C.Types.facts c.args.set.now in
    let before = g.O.Objects.shown c.args.objects.now in
    let n = c.in-Some.n in
    let shape = c.shape_of-shape.result in
    let yes = c.is_sub-yes.result in
    let value = item_value before.number (item_of yes) in
    heap_step (λ world. Does (op.Class (Some n) (Some shape)) (reply.Item value)) facts (λ from. ask.IsA from
    c.args.object c.args.target)
    (λ roots rest t taken from. is_a_told facts (world_of roots before rest) t taken from _ n shape
    c.in-Some.ensures.number c.in-Some.ensures.below (c.shape_of-shape.ensures.shape n
    c.in-Some.ensures.number) c.args.target yes before.number
    (search rules))
    (rw c.bool_item-2.ensures (heap_did (λ world. Does (op.Class (Some n) (Some shape)) (reply.Item value))
    (op.Class (Some n) (Some shape))
    (reply.Item (item_of yes)) (λ roots rest. refl) (known_bool before.number yes) refl (λ world. tt) (λ world t. refl)))
