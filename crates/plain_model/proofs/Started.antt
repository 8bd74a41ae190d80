-- Main has made and started its worker, and the run goes on from there.
use Rattle.std.proofs.Common.{List, refl}
use Rattle.run_history.specs.Recorded.{Recorded}
use Rattle.run_history.specs.Knowing.{known_after_op}
use Rattle.run_history.specs.Wanted.{NoWish}
use Rattle.plain_model.specs.First.{first_world, first_heap, first_known}
use Rattle.plain_model.specs.Requests.{PlainRequest}
use Rattle.plain_model.specs.Steps.{step}
use Rattle.plain_model.specs.Codes.{frames_after_op}
use Rattle.plain_model.specs.Runs.{IsPlainRun, first_frames}
use Rattle.plain_model.specs.StepWorld.{boxes, main_class}
use Rattle.plain_model.specs.RunRows.{two_boxes, both, started, Do}
use Rattle.plain_model.proofs.RunParts.{◌▸◌, may, GoesOnAfter, GoesOn-rest, GoesOn-both}

started_run : (mains workers : List PlainRequest)
    → IsPlainRun boxes main_class two_boxes (both mains workers) started
unfolding first_world first_heap known_after_op frames_after_op step
started_run mains workers =
    may refl refl refl refl refl
    ▸ may refl refl refl refl refl
    ▸ may refl refl refl refl refl
    ▸ may refl refl refl refl refl
    ▸ may refl refl refl refl refl
    ▸ may refl refl refl refl refl
    ▸ tt

abbrev pub Goes : List PlainRequest → List PlainRequest → List Recorded → Type 0
Goes mains workers acts = GoesOnAfter boxes main_class two_boxes (both mains workers)
    (first_known boxes two_boxes) (first_frames boxes main_class two_boxes (both mains workers)) NoWish
    started acts

pub go_on : (mains workers : List PlainRequest) (acts : List Recorded)
    → Goes mains workers acts → Do mains workers acts
go_on mains workers acts = GoesOn-both boxes main_class two_boxes (both mains workers)
    (first_known boxes two_boxes) (first_frames boxes main_class two_boxes (both mains workers)) NoWish
    started acts
    (started_run mains workers)

pub gone_on : (mains workers : List PlainRequest) (acts : List Recorded)
    → Do mains workers acts → Goes mains workers acts
gone_on mains workers acts = GoesOn-rest boxes main_class two_boxes (both mains workers)
    (first_known boxes two_boxes) (first_frames boxes main_class two_boxes (both mains workers)) NoWish
    started acts
