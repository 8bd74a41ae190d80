use Rattle.std.proofs.Common.{rules, refl, ◌≡◌, true, false, Some}
use Rattle.natives.specs.declared.requests.Request.TheVariants as ask
use Rattle.natives.specs.declared.requests.Reply.TheVariants as reply
use Rattle.run_history.specs.declared.act.Op.TheVariants as op
use Rattle.plain_model.specs.declared.throws.Throws.TheVariants as exception
use Rattle.plain_model.specs.Facts.{is_sub}
use Rattle.plain_model.specs.Steps.{Does, WrongOperand, throws}
use Rattle.shared_objects.specs.Worlds.{world_of}
use Rattle.step_forms.proofs.Going.{heap_step, heap_wrong, heap_did}
use Rattle.object_steps.proofs.Tested.{class_none, class_wrong, class_right}
use Rattle.object_steps.proofs.testing.class_of.Goals as goal

pub returns-in_default-clause-step : goal.returns-in_default-clause-step
returns-in_default-clause-step g c =
    let facts = g.C.Types.facts c.args.set.now in
    let before = g.O.Objects.shown c.args.objects.now in
    heap_step (λ world. throws facts world exception.NullPointer) facts (λ from. ask.ClassOf from
    c.args.object c.args.within)
    (λ roots rest t taken from. class_none facts (world_of roots before rest) t taken from _ c.args.within
    (search rules))
    c.throw.ensures.step

pub returns-then-not-is_sub-clause-step : goal.returns-then-not-is_sub-clause-step
returns-then-not-is_sub-clause-step g c =
    let facts = g.C.Types.facts c.args.set.now in
    let before = g.O.Objects.shown c.args.objects.now in
    let test : is_sub facts c.shape_of-shape.result c.args.within ≡ false = search rules in
    heap_step (λ world. WrongOperand) facts (λ from. ask.ClassOf from c.args.object c.args.within)
    (λ roots rest t taken from. class_wrong facts (world_of roots before rest) t taken from _ c.in-Some.n
    c.shape_of-shape.result
    c.in-Some.ensures.number c.in-Some.ensures.below (c.shape_of-shape.ensures.shape c.in-Some.n
    c.in-Some.ensures.number) c.args.within test)
    (heap_wrong (λ world. WrongOperand) (λ roots rest. refl))

pub returns-clause-step : goal.returns-clause-step
returns-clause-step g c =
    let facts = g.C.Types.facts c.args.set.now in
    let before = g.O.Objects.shown c.args.objects.now in
    let n = c.in-Some.n in
    let shape = c.shape_of-shape.result in
    let test : is_sub facts shape c.args.within ≡ true = search rules in
    heap_step (λ world. Does (op.Class (Some n) (Some shape)) (reply.Shape shape)) facts (λ from. ask.ClassOf
    from c.args.object c.args.within)
    (λ roots rest t taken from. class_right facts (world_of roots before rest) t taken from _ n shape
    c.in-Some.ensures.number c.in-Some.ensures.below (c.shape_of-shape.ensures.shape n
    c.in-Some.ensures.number) c.args.within test)
    (heap_did (λ world. Does (op.Class (Some n) (Some shape)) (reply.Shape shape)) (op.Class (Some n) (Some
    shape)) (reply.Shape shape)
    (λ roots rest. refl) tt refl (λ world. tt) (λ world t. refl))
