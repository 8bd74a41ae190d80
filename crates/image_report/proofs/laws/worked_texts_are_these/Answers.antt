use Rattle.std.proofs.Common.{refl}
use Rattle.std.specs.Fmt.{digits}
use Rattle.image_report.proofs.laws.worked_texts_are_these.Goals as goal

pub returns : goal.returns
unfolding digits
returns c = record { empty_check = refl; empty_dump = refl; ring_check = refl; ring_dump = refl; longs_dump = refl }
