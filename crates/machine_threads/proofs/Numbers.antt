-- What a reference stands for it stands for after each event.
use Rattle.std.proofs.Common.{ℕ, List}
use Rattle.shared_objects.specs.Shown.{Keeps, Numbers}
use Rattle.convert_words.specs.declared.step.ConvertStep.TheVariants as answer
use Rattle.twin_forms.specs.Sights.{Twin}
use Rattle.twin_forms.specs.Table.{Entry}
use Rattle.machine_ends.proofs.Passed.{shows}
use Rattle.region_log.specs.Log.{Log}
use Rattle.machine_ends.specs.Passed.{Opening, Machine, shown_in}
use Rattle.machine_ends.specs.Passed.{KeepsRun}
use Rattle.machine_ends.specs.Passed.{CallsImage, RegionStep, with_logged, with_twin}
use Rattle.machine_ends.specs.RegionSteps as step
use Rattle.machine_ends.specs.Passed.{called, written, fenced, converted, failed, begun, sealed, asked, acted, stored}
use Rattle.machine_ends.specs.Passed.{region}
use Rattle.machine_ends.proofs.Passed.{quiet}
use Rattle.machine_ends.proofs.Passed.{failed_move, move_begun}
use Rattle.machine_ends.proofs.Passed.{move}
use Rattle.machine_ends.proofs.Passed.{closing_goes_on, ending_goes_on, left_goes_on, logged_goes_on}
use Rattle.machine_ends.proofs.Passed.{LogGoesOn}
use Rattle.machine_threads.specs.Keeping.{ReferencesStandStill}

chained : (one two three : Numbers) → Keeps one two → Keeps two three → Keeps one three
chained one two three first then r n is = then r n (first r n is)

module _ (o : Opening) (m : Machine) (es : List Entry) (k : KeepsRun o m es) where
  called-keeps : (twin : Twin) → CallsImage m twin → Keeps (shown_in m).number (shown_in (with_twin m twin)).number
  called-keeps twin c = (shows m.spaces twin es es (quiet o m es (k.heap, k.world) twin c.call)).keeps

  logged-keeps : (t : ℕ) (log : Log) (twin : Twin) → LogGoesOn o m es t log twin
      → Keeps (shown_in m).number (shown_in (with_logged m twin t log)).number
  logged-keeps t log twin goes = (shows m.spaces twin es es goes.move).keeps

  region-keeps : (t : ℕ) (m' : Machine) → RegionStep o t m es m' → Keeps (shown_in m).number (shown_in m').number
  region-keeps t _ (step.begun m' request r e) = e.does.step.goes_on.keeps
  region-keeps t _ (step.guarded request place item entry e) = λ r n is. is
  region-keeps t _ (step.logged twin log e) = logged-keeps t log twin (logged_goes_on o m es k twin t log e)
  region-keeps t _ (step.stored m' request place item e) = e.does.step.goes_on.keeps
  region-keeps t _ (step.ending twin request log e) =
      logged-keeps t log twin (ending_goes_on o m es k twin t request log e)
  region-keeps t _ (step.closing twin request log e) =
      logged-keeps t log twin (closing_goes_on o m es k twin t request log e)
  region-keeps t _ (step.ended m' request r e) =
      let over = with_logged m e.twin t e.log in
      chained (shown_in m).number (shown_in over).number (shown_in m').number
      (logged-keeps t e.log e.twin (left_goes_on o m es k e.twin t request e.leaves)) e.does.step.goes_on.keeps

pub references_stand_still : ReferencesStandStill
references_stand_still o t m _ es _ k (called twin e) = called-keeps o m es k twin e
references_stand_still o t m _ es _ k (written twin e) = called-keeps o m es k twin e.calls
references_stand_still o t m _ es _ k (fenced twin e) = called-keeps o m es k twin e.calls
references_stand_still o t m _ es _ k (converted m' did e no_seal) =
    (shows m.spaces m'.spaces.twin es e.event.after (move o m m' es k t did e)).keeps
references_stand_still o t m _ es _ k (failed m' e) =
    (shows m.spaces m'.spaces.twin es es (failed_move o m m' es k t e)).keeps
references_stand_still o t m _ es _ k (begun m' es' n word did e) =
    (shows m.spaces m'.spaces.twin es es' (move_begun o m m' es es' k t n word did e)).keeps
references_stand_still o t m _ es _ k (sealed m' set named e) =
    (shows m.spaces m'.spaces.twin es e.converts.event.after (move o m m' es k t (answer.Sealed set) e.converts)).keeps
references_stand_still o t m _ es _ k (asked request place item e) = λ r n is. is
references_stand_still o t m _ es _ k (acted m' request operation r e) = e.does.step.goes_on.keeps
references_stand_still o t m _ es _ k (stored m' request place item e) = e.does.step.goes_on.keeps
references_stand_still o t m _ es _ k (region m' e) = region-keeps o m es k t m' e
