use Rattle.std.proofs.Common.{rules, refl, ◌≡◌, true, false, is_some, ap, sym, ◌∙◌, pos, ℕ, ℤ, w32}
use Rattle.std.proofs.lemmas.Int.{to_z_pos}
use Rattle.ap_base.specs.declared.reference.Item.TheVariants.{Int as IntItem}
use Rattle.graph_model.specs.declared.types.Value.TheVariants.{Int}
use Rattle.natives.specs.declared.requests.Request.TheVariants as ask
use Rattle.natives.specs.declared.requests.Reply.TheVariants as reply
use Rattle.run_history.specs.declared.act.Op.TheVariants as op
use Rattle.plain_model.specs.declared.throws.Throws.TheVariants as exception
use Rattle.plain_model.specs.Facts.{element_of}
use Rattle.plain_model.specs.Steps.{Does, WrongOperand, throws, measures}
use Rattle.shared_objects.specs.Worlds.{world_of}
use Rattle.step_forms.proofs.Going.{heap_step, heap_wrong, heap_did}
use Rattle.object_steps.proofs.Arrays.{length_none, length_wrong, length_right}
use Rattle.object_steps.proofs.reading.length.Goals as goal

pub returns-in_default-clause-step : goal.returns-in_default-clause-step
returns-in_default-clause-step g c =
    let facts = g.C.Types.facts c.args.set.now in
    let before = g.O.Objects.shown c.args.objects.now in
    heap_step (λ world. throws facts world exception.NullPointer) facts (λ from. ask.Length from c.args.array)
    (λ roots rest t taken from. length_none facts (world_of roots before rest) t taken from _ (search rules))
    c.throw.ensures.step

pub returns-then-is_none-clause-step : goal.returns-then-is_none-clause-step
returns-then-is_none-clause-step g c =
    let facts = g.C.Types.facts c.args.set.now in
    let before = g.O.Objects.shown c.args.objects.now in
    let absent : is_some (element_of facts c.shape_of.result) ≡ false = search rules in
    heap_step (λ world. WrongOperand) facts (λ from. ask.Length from c.args.array)
    (λ roots rest t taken from. length_wrong facts (world_of roots before rest) t taken from _
    c.in-Some.object c.shape_of.result
    c.in-Some.ensures.number c.in-Some.ensures.below (c.shape_of.ensures.shape c.in-Some.object
    c.in-Some.ensures.number) absent)
    (heap_wrong (λ world. WrongOperand) (λ roots rest. refl))

pub returns-clause-step : goal.returns-clause-step
returns-clause-step g c =
    let facts = g.C.Types.facts c.args.set.now in
    let before = g.O.Objects.shown c.args.objects.now in
    let n = c.in-Some.object in
    let count = c.length_of-length.result in
    let present : is_some (element_of facts c.shape_of.result) ≡ true = search rules in
    let long = c.length_of-length.ensures.length n c.in-Some.ensures.number in
    heap_step (λ world. measures facts world n) facts (λ from. ask.Length from c.args.array)
    (λ roots rest t taken from. length_right facts (world_of roots before rest) t taken from _ n
    c.shape_of.result
    c.in-Some.ensures.number c.in-Some.ensures.below (c.shape_of.ensures.shape n c.in-Some.ensures.number)
    present)
    (heap_did (λ world. measures facts world n) (op.Length n count) (reply.Item (IntItem _))
    (λ roots rest. ap (λ (x : ℕ). Does (op.Length n x) (reply.Item (Int (pos x)))) (sym long)
    ∙ ap (λ (x : ℤ). Does (op.Length n count) (reply.Item (Int x))) (sym (to_z_pos w32 count
    c.length_of-length.ensures.few)))
    tt refl (λ world. tt) (λ world t. refl))
