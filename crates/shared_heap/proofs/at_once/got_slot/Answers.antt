use Rattle.std.proofs.Common.{refl}
use Rattle.ap_base.specs.declared.place.Place.TheVariants.{Slot}
use Rattle.object_steps.proofs.Stored.{read_goes}
use Rattle.shared_heap.proofs.at_once.got_slot.Goals as goal

pub returns : goal.returns
returns g c = record {
  step = λ set. read_goes set (g.O.Objects.shown c.args.objects.now) (Slot c.args.object c.args.index)
      c.read-item.result c.valued-value.result
      c.valued-value.ensures (c.read-item.ensures.value c.args.object c.requires.number) (λ roots. refl)
      c.read-item.ensures.known;
}
