use Rattle.std.proofs.Common.{◌≡◌, ◌⊎◌, inl, inr, refl}
use Rattle.statuses.specs.declared.status.Status.{Status}
use Rattle.statuses.specs.declared.status.Status.TheVariants as status
use Rattle.statuses.specs.Stages.{IsFreeStage, stage_of}
use Rattle.statuses.proofs.laws.statuses_stand_at_their_stages.Goals as goal

only_free : (s : Status) → IsFreeStage (stage_of s) → (s ≡ status.OutOfMemory) ⊎ (s ≡ status.SourceFault)
only_free status.OutOfMemory free = inl refl
only_free status.SourceFault free = inr refl
only_free status.Ok free = absurd free
only_free (status.Uncaught thread class) free = absurd free
only_free status.Usage free = absurd free
only_free (status.BadClass file refusal) free = absurd free
only_free (status.BadListing line kind) free = absurd free
only_free (status.LinkRefused refusal) free = absurd free
only_free (status.BadCode method pc) free = absurd free
only_free (status.RegionRace thread other place) free = absurd free
only_free (status.Full full) free = absurd free
only_free status.ImageFault free = absurd free
only_free status.SinkFault free = absurd free
only_free (status.Stuck waits) free = absurd free
only_free (status.LinkFault kind name) free = absurd free
only_free (status.NewImage reason) free = absurd free
only_free (status.BadHistory word) free = absurd free
only_free status.Refuted free = absurd free
only_free (status.BadImage line reason) free = absurd free
only_free (status.ShapeChanged shape) free = absurd free

pub returns : goal.returns
returns c = record {
  usage = refl;
  source = refl;
  memory = refl;
  file = λ file refusal. refl;
  listing = λ line kind. refl;
  linking = λ refusal. refl;
  refused = λ line reason. refl;
  changed = λ shape. refl;
  room = λ full. refl;
  names = λ kind name. refl;
  image = refl;
  ok = refl;
  uncaught = λ thread class. refl;
  code = λ method pc. refl;
  race = λ thread other place. refl;
  stuck = λ waits. refl;
  sink = refl;
  fresh = λ reason. refl;
  history = λ word. refl;
  refuted = refl;
  free = only_free;
}
