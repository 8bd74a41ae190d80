-- A heap whose objects have moved stands for the plain run for which it stood.
use Rattle.std.proofs.Common.{List, sym, ◌∙◌}
use Rattle.run_history.specs.Recorded.{Recorded}
use Rattle.plain_model.specs.First.{literal_number}
use Rattle.shared_objects.specs.declared.rest.Rest.{Rest}
use Rattle.shared_objects.specs.Shown.{Shown}
use Rattle.run_forms.specs.Views.{ThreadFrames, plain_frames}
use Rattle.run_forms.specs.Standing.{Launch, IsLaunch, StandsFor, known_at}
use Rattle.run_forms.specs.Laws.{ShowsSameWorld}
use Rattle.run_forms.proofs.Asked.{BuiltIns, frames-in, shown-objects}
use Rattle.run_forms.proofs.Acted.{map-same}
use Rattle.run_forms.proofs.Seen.{frames-kept}

pub shifted : BuiltIns → (launch : Launch) (acts : List Recorded) (shown : Shown) (rest : Rest)
    (threads : List ThreadFrames) → IsLaunch launch → StandsFor launch acts shown rest threads
    → (now : Shown) (rest_now : Rest) → ShowsSameWorld shown now rest rest_now
    → StandsFor launch acts now rest_now threads
shifted laws launch acts shown rest threads is stands now rest_now same = record {
  run = stands.run;
  roots = stands.roots;
  world = stands.world ∙ sym (same.world stands.roots);
  frames = stands.frames ∙ map-same (plain_frames shown) (plain_frames now) threads (λ u g here. sym
      (frames-kept shown now same.keeps launch.set (known_at launch acts).world u
      (shown-objects laws launch acts shown rest threads is stands) g
      (frames-in laws launch acts shown rest threads is stands u g here)));
  monitors = same.monitors;
  literals = λ k below. same.keeps (launch.literal k) (literal_number launch.set launch.opening k)
      (stands.literals k below);
  null = same.null;
}
