use Rattle.std.proofs.Common.{refl}
use Rattle.natives.specs.declared.requests.Request.TheVariants as ask
use Rattle.natives.specs.declared.requests.Reply.TheVariants as reply
use Rattle.run_history.specs.declared.act.Op.TheVariants as op
use Rattle.plain_model.specs.Steps.{Does}
use Rattle.shared_objects.specs.Shown.{item_value}
use Rattle.shared_objects.specs.Worlds.{world_of}
use Rattle.step_forms.proofs.Going.{heap_step, heap_did}
use Rattle.object_steps.specs.Tests.{item_of, same_number}
use Rattle.object_steps.proofs.Tested.{same_is, known_bool}
use Rattle.object_steps.proofs.testing.same.Goals as goal

pub returns-clause-step : goal.returns-clause-step
returns-clause-step g c set =
    let before = g.O.Objects.shown c.args.objects.now in
    let yes = same_number (before.number c.args.left) (before.number c.args.right) in
    let value = item_value before.number (item_of yes) in
    rw (
      c.bool_item.ensures,
      c.is_same-yes.ensures,
      ← c.numbered.ensures.number,
      ←
          c.numbered-2.ensures.number,
    )
    (heap_step (λ world. Does (op.Same yes) (reply.Item value)) set (λ from. ask.Same from c.args.left
    c.args.right)
    (λ roots rest t taken from. same_is set (world_of roots before rest) t taken from (before.number
    c.args.left) (before.number c.args.right) before.number)
    (heap_did (λ world. Does (op.Same yes) (reply.Item value)) (op.Same yes) (reply.Item (item_of yes)) (λ
    roots rest. refl)
    (known_bool before.number yes) refl (λ world. tt) (λ world t. refl)))
