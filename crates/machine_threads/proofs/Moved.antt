-- Each event of a thread, by what it makes of the table of objects.
use Rattle.std.proofs.Common.{ℕ, List, refl}
use Rattle.convert_words.specs.declared.step.ConvertStep.TheVariants as answer
use Rattle.twin_forms.specs.Table.{Entry}
use Rattle.machine_ends.specs.Passed.{Opening, Machine, scene_of}
use Rattle.machine_ends.specs.Passed.{KeepsRun}
use Rattle.machine_ends.specs.Passed.{Happens}
use Rattle.machine_ends.specs.Passed.{called, written, fenced, converted, failed, begun, sealed, asked, acted}
use Rattle.machine_ends.specs.Passed.{stored}
use Rattle.machine_ends.specs.Passed.{region}
use Rattle.machine_ends.proofs.Passed.{table-is}
use Rattle.machine_ends.proofs.Noted.{table-adds}
use Rattle.machine_threads.proofs.Tables.{Goes, same-goes, converts-goes, begins-goes, adds-goes}

module _ (o : Opening) (t : ℕ) where
  pub table-goes : (m m' : Machine) (es es' : List Entry) → KeepsRun o m es → Happens o t m es m' es' → Goes t es es'
  table-goes m _ es _ k (called twin e) = same-goes t es es refl
  table-goes m _ es _ k (written twin e) = same-goes t es es refl
  table-goes m _ es _ k (fenced twin e) = same-goes t es es refl
  table-goes m _ es _ k (converted m' did e no_seal) =
      converts-goes t did e.event.at (scene_of m') es e.event.after e.event.goes_on.agrees e.event.converts
  table-goes m _ es _ k (failed m' e) = same-goes t es es refl
  table-goes m _ es _ k (begun m' es' n word did e) =
      begins-goes t n did (scene_of m) (scene_of m') es es' e.begins
  table-goes m _ es _ k (sealed m' set named e) =
      let event = e.converts.event in
      converts-goes t (answer.Sealed set) event.at (scene_of m') es event.after event.goes_on.agrees event.converts
  table-goes m _ es _ k (asked request place item e) = same-goes t es es refl
  table-goes m _ es _ k (acted m' request operation r e) =
      adds-goes t es _ (table-adds m operation es _ (table-is m operation es))
  table-goes m _ es _ k (stored m' request place item e) = same-goes t es es refl
  table-goes m _ es _ k (region m' e) = same-goes t es es refl
