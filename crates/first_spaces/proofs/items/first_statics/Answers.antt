use Rattle.std.proofs.Common.{◌∙◌, ap, subst, ◌++◌, ◌∷◌, []}
use Rattle.std.proofs.lemmas.List.{take_all}
use Rattle.two_spaces.specs.declared.spaces.Static.TheVariants as static
use Rattle.ap_base.specs.declared.reference.Item.TheVariants.{Ref as RefItem}
use Rattle.first_spaces.specs.Items.{BeginAll}
use Rattle.first_spaces.proofs.Statics.{begin_none, begin_more}
use Rattle.first_spaces.proofs.items.first_statics.Goals as goal

pub loop-field-init : goal.loop-field-init
loop-field-init c = begin_none c.args.stream c.args.literals.now c.args.fields.now c.push.new.self.items
    (c.in_ok-push.ensures.items ∙ ap (λ xs. xs ++ static.Beside (RefItem c.args.stream) ∷ [])
    c.new-statics.ensures.items)

pub loop-field-preserved : goal.loop-field-preserved
loop-field-preserved c =
    begin_more c.args.stream c.args.literals.now c.args.fields.now c.loop-field.field-index
    c.loop-field.statics.items
    c.push-in-loop-field.new.self.items c.first_static.result c.loop-field-test.true c.loop-field.invariant
    c.first_static.ensures c.in_ok-push-2.ensures.items

pub returns : goal.returns
returns c =
    subst (λ fs. BeginAll c.args.stream c.args.literals.now fs c.loop-field.statics.items)
    (take_all c.loop-field.field-index c.args.fields.now c.loop-field-test.false) c.loop-field.invariant
