use Rattle.std.proofs.Common.{rules, refl, ◌≡◌, true, is_some, ap, sym, ◌∙◌, pos, ℕ, ℤ, w32}
use Rattle.std.proofs.lemmas.Int.{to_z_pos}
use Rattle.ap_base.specs.declared.reference.Item.TheVariants.{Int as IntItem}
use Rattle.graph_model.specs.declared.types.Value.TheVariants.{Int}
use Rattle.natives.specs.declared.requests.Request.TheVariants as ask
use Rattle.natives.specs.declared.requests.Reply.TheVariants as reply
use Rattle.run_history.specs.declared.act.Op.TheVariants as op
use Rattle.plain_model.specs.Facts.{element_of}
use Rattle.plain_model.specs.Steps.{Does, measures}
use Rattle.shared_objects.specs.Worlds.{world_of}
use Rattle.step_forms.proofs.Going.{heap_step, heap_did}
use Rattle.object_steps.proofs.Arrays.{length_right}
use Rattle.shared_heap.proofs.at_once.read_length.Goals as goal

pub returns : goal.returns
returns g c =
    let facts = g.C.Types.facts c.args.set.now in
    let before = g.O.Objects.shown c.args.objects.now in
    let n = c.in-Some.object in
    let count = c.length_of-length.result in
    let present : is_some (element_of facts c.shape_of.result) ≡ true = search rules in
    let long = c.length_of-length.ensures.length n c.in-Some.ensures.number in
    record {
      step = heap_step (λ world. measures facts world n) facts (λ from. ask.Length from c.args.array)
          (λ roots rest t taken from. length_right facts (world_of roots before rest) t taken from _ n c.shape_of.result
          c.in-Some.ensures.number c.in-Some.ensures.below (c.shape_of.ensures.shape n c.in-Some.ensures.number)
          present)
          (heap_did (λ world. measures facts world n) (op.Length n count) (reply.Item (IntItem _))
          (λ roots rest. ap (λ (x : ℕ). Does (op.Length n x) (reply.Item (Int (pos x)))) (sym long)
          ∙ ap (λ (x : ℤ). Does (op.Length n count) (reply.Item (Int x))) (sym (to_z_pos w32 count
          c.length_of-length.ensures.few)))
          tt refl (λ world. tt) (λ world t. refl));
    }
