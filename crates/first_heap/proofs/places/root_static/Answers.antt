use Rattle.std.proofs.Common.{◌∙◌, ◌+◌, ap, get_or, refl, sym}
use Rattle.class_set.specs.Tables.{static_now}
use Rattle.first_heap.proofs.Lists.{at_itself}
use Rattle.first_heap.proofs.Located.{from_first, passed}
use Rattle.first_heap.proofs.places.root_static.Goals as goal

pub loop-field-init : goal.loop-field-init
loop-field-init c = record { place = refl; left = sym (from_first _) }

pub loop-field-preserved : goal.loop-field-preserved
loop-field-preserved c =
    let items = c.statics-field-items.result.now in
    let index = c.loop-field.field-index in
    record {
      place = ap (λ n. n + 1) c.loop-field.invariant.place;
      left = c.loop-field.invariant.left
          ∙ passed (static_now c.args.set.now.files) items (get_or items index _) index c.loop-field-test.true
          (at_itself items index _ c.loop-field-test.true) c.args.name.now
          (sym c.in_ok-is_root_named.ensures ∙ c.if-branch.false);
    }
