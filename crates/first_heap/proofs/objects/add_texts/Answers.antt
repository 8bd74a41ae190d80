use Rattle.std.proofs.Common.{◌∙◌, ℕ, List, ap, refl}
use Rattle.first_heap.specs.Objects.{chars_of, text_object}
use Rattle.first_heap.proofs.Lists.{made_more}
use Rattle.first_heap.proofs.Starting.{object_made}
use Rattle.first_heap.proofs.objects.add_texts.Goals as goal

pub loop-text-preserved : goal.loop-text-preserved
loop-text-preserved c =
    made_more (text_object c.args.class) c.args.texts.now c.text-item.result c.loop-text.text-index c.new.result
    c.args.objects.now.items c.loop-text.objects.items c.push.new.self.items c.loop-text-test.true c.text-item.is
    (object_made c.args.class c.args.class (chars_of c.text-item.result) c.in_ok-values.values.items c.new.result
    c.new.ensures refl
    (c.in_ok-values.ensures ∙ ap (λ (chars : List ℕ). chars_of chars) c.as_slice.ensures))
    c.in_ok-push.ensures.items c.loop-text.invariant
