use Rattle.std.proofs.Common.{[], get_or, refl}
use Rattle.line_image.specs.declared.effect.Effect.{Effect}
use Rattle.line_image.specs.declared.effect.Done.TheVariants.{Wrote}
use Rattle.line_image.proofs.Effects.{versions_pushed}
use Rattle.line_image.proofs.crash.line_versions.Goals as goal

pub loop-effect-preserved : goal.loop-effect-preserved
loop-effect-preserved c =
    let done = c.args.done.now in
    let i = c.loop-effect.effect-index in
    let none : Effect = record { at = 0; done = Wrote 0 [] } in
    let call = c.in_ok-add_version.ensures in
    record {
      some = call.some;
      found = versions_pushed c.args.first done i c.args.line none (get_or done i none).done
          c.loop-effect.found.items c.add_version.new.found.items c.loop-effect-test.true refl
          c.loop-effect.invariant.found call.versions;
    }
