use Rattle.std.proofs.Common.{rules, refl, ◌≡◌, true, Some}
use Rattle.natives.specs.declared.requests.Request.TheVariants as ask
use Rattle.natives.specs.declared.requests.Reply.TheVariants as reply
use Rattle.run_history.specs.declared.act.Op.TheVariants as op
use Rattle.plain_model.specs.Facts.{is_sub}
use Rattle.plain_model.specs.Steps.{Does}
use Rattle.shared_objects.specs.Worlds.{world_of}
use Rattle.step_forms.proofs.Going.{heap_step, heap_did}
use Rattle.object_steps.proofs.Tested.{class_right}
use Rattle.shared_heap.proofs.at_once.read_class.Goals as goal

pub returns : goal.returns
returns g c =
    let facts = g.C.Types.facts c.args.set.now in
    let before = g.O.Objects.shown c.args.objects.now in
    let n = c.in-Some.n in
    let shape = c.shape_of-shape.result in
    let test : is_sub facts shape c.args.within ≡ true = search rules in
    record {
      step = heap_step (λ world. Does (op.Class (Some n) (Some shape)) (reply.Shape shape)) facts (λ from.
          ask.ClassOf from c.args.object c.args.within)
          (λ roots rest t taken from. class_right facts (world_of roots before rest) t taken from _ n shape
          c.in-Some.ensures.number c.in-Some.ensures.below (c.shape_of-shape.ensures.shape n
          c.in-Some.ensures.number) c.args.within test)
          (heap_did (λ world. Does (op.Class (Some n) (Some shape)) (reply.Shape shape)) (op.Class (Some n) (Some
          shape)) (reply.Shape shape)
          (λ roots rest. refl) tt refl (λ world. tt) (λ world t. refl));
    }
