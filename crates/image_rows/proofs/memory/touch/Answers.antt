use Rattle.std.proofs.Common.{inl, ap}
use Rattle.line_image.specs.Told.{Told}
use Rattle.line_memory.specs.Memory.{IsResident}
use Rattle.image_rows.proofs.memory.touch.Goals as goal

pub returns : goal.returns
unfolding IsResident
returns g c =
    let quiet = c.touch.ensures.quiet c.requires in
    record {
      size = c.touch.ensures.keeps.size;
      deed = record { nothing = ap (λ (told : Told). told.trace) quiet.image; shows = c.touch.ensures.keeps.shows; count = inl quiet };
    }
