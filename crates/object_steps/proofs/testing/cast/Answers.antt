use Rattle.std.proofs.Common.{rules, refl, ◌≡◌, true, false, Some, None}
use Rattle.natives.specs.declared.requests.Request.TheVariants as ask
use Rattle.natives.specs.declared.requests.Reply.TheVariants as reply
use Rattle.run_history.specs.declared.act.Op.TheVariants as op
use Rattle.plain_model.specs.declared.throws.Throws.TheVariants as exception
use Rattle.plain_model.specs.Facts.{is_sub}
use Rattle.plain_model.specs.Steps.{Does, throws}
use Rattle.shared_objects.specs.Worlds.{world_of}
use Rattle.step_forms.proofs.Going.{heap_step, heap_did}
use Rattle.object_steps.proofs.Tested.{cast_none, cast_wrong, cast_right}
use Rattle.object_steps.proofs.testing.cast.Goals as goal

pub returns-in_default-clause-step : goal.returns-in_default-clause-step
returns-in_default-clause-step g c =
    let facts = g.C.Types.facts c.args.set.now in
    let before = g.O.Objects.shown c.args.objects.now in
    heap_step (λ world. Does (op.Class None None) reply.Done) facts (λ from. ask.Cast from c.args.object
    c.args.target)
    (λ roots rest t taken from. cast_none facts (world_of roots before rest) t taken from _ c.args.target
    (search rules))
    (heap_did (λ world. Does (op.Class None None) reply.Done) (op.Class None None) reply.Done
    (λ roots rest. refl) tt refl (λ world. tt) (λ world t. refl))

pub returns-then-not-is_sub-clause-step : goal.returns-then-not-is_sub-clause-step
returns-then-not-is_sub-clause-step g c =
    let facts = g.C.Types.facts c.args.set.now in
    let before = g.O.Objects.shown c.args.objects.now in
    let test : is_sub facts c.shape_of-shape.result c.args.target ≡ false = search rules in
    heap_step (λ world. throws facts world exception.ClassCast) facts (λ from. ask.Cast from c.args.object
    c.args.target)
    (λ roots rest t taken from. cast_wrong facts (world_of roots before rest) t taken from _ c.in-Some.n
    c.shape_of-shape.result
    c.in-Some.ensures.number c.in-Some.ensures.below (c.shape_of-shape.ensures.shape c.in-Some.n
    c.in-Some.ensures.number) c.args.target test)
    c.throw.ensures.step

pub returns-clause-step : goal.returns-clause-step
returns-clause-step g c =
    let facts = g.C.Types.facts c.args.set.now in
    let before = g.O.Objects.shown c.args.objects.now in
    let n = c.in-Some.n in
    let shape = c.shape_of-shape.result in
    let test : is_sub facts shape c.args.target ≡ true = search rules in
    heap_step (λ world. Does (op.Class (Some n) (Some shape)) reply.Done) facts (λ from. ask.Cast from
    c.args.object c.args.target)
    (λ roots rest t taken from. cast_right facts (world_of roots before rest) t taken from _ n shape
    c.in-Some.ensures.number c.in-Some.ensures.below (c.shape_of-shape.ensures.shape n
    c.in-Some.ensures.number) c.args.target test)
    (heap_did (λ world. Does (op.Class (Some n) (Some shape)) reply.Done) (op.Class (Some n) (Some shape))
    reply.Done
    (λ roots rest. refl) tt refl (λ world. tt) (λ world t. refl))
