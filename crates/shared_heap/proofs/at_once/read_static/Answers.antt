use Rattle.std.proofs.Common.{rules, refl, ◌≡◌, ◌∙◌, true}
use Rattle.ap_base.specs.declared.place.Place.TheVariants.{Static}
use Rattle.plain_model.specs.Steps.{reads}
use Rattle.shared_objects.specs.Worlds.{world_of}
use Rattle.step_forms.proofs.Going.{same_goes}
use Rattle.step_forms.proofs.Ways.{class_finished}
use Rattle.object_steps.proofs.Fields.{step_get_static}
use Rattle.object_steps.proofs.Stored.{read_goes}
use Rattle.shared_heap.proofs.at_once.read_static.Goals as goal

pub returns : goal.returns
returns g c =
    let shown = g.O.Objects.shown c.args.objects.now in
    let rest = c.args.rest.now in
    let field = c.args.field in
    let finishes : c.is_finished.result ≡ true = search rules in
    record {
      step = λ set t from known. same_goes (λ roots taken.
          step_get_static set (world_of roots shown rest) t taken from field
          ∙ class_finished set (world_of roots shown rest) t field.class (reads set (world_of roots shown rest) (Static
          field.at)) (c.is_finished.ensures finishes))
          (read_goes set shown (Static field.at) c.read_static-item.result c.valued-value.result
          c.valued-value.ensures c.read_static-item.ensures.value (λ roots. refl) c.read_static-item.ensures.known t
          rest known);
    }
