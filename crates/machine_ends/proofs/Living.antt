-- A thread that lives asks the plain machine something, whatever it is about.
use Rattle.std.proofs.Common.{◌≡◌, ℕ, List, Option, Some, None, ap, ◌∙◌, if◌then◌else◌}
use Rattle.std.specs.Prelude.{slice_get}
use Rattle.std.specs.Option.{option_map}
use Rattle.std.proofs.lemmas.Option.{slice_get-map}
use Rattle.ap_base.specs.declared.reference.Ref.{Ref}
use Rattle.ap_base.specs.declared.reference.Item.{Item}
use Rattle.natives.specs.declared.requests.Request.{Request}
use Rattle.run_history.specs.Worlds.{Thread, World}
use Rattle.plain_model.specs.Requests.{PlainRequest}
use Rattle.plain_model.specs.Codes.{asks_live}
use Rattle.shared_objects.specs.Worlds.{plain_thread}
use Rattle.run_forms.specs.Views.{ThreadFrames, PlainFrames, plain_frames}
use Rattle.run_forms.specs.Standing.{plain_code, known_at, frames_at}
use Rattle.machine_laws.specs.Passed.{Opening, Machine, doing_of, shown_in}
use Rattle.machine_laws.specs.Frames.{RunsAsPlain, Asks, acted_frames, all_acted}
use Rattle.machine_laws.proofs.Lagging.{frames-at}
use Rattle.machine_ends.specs.Laws.{Lives}
use Rattle.machine_ends.proofs.Rooms.{requests}

-- one whose own frames ask something does
pub asking-lives : (o : Opening) (m : Machine) (threads : List ThreadFrames) (t : ℕ) (fs : ThreadFrames)
    (request : Request Ref Item) → Asks o m threads t fs request → Lives m threads t fs
asking-lives o m threads t fs request asks =
    record { state = asks.state; thread = asks.thread; lives = asks.lives; frames = asks.frames }

module _ (o : Opening) (m : Machine) (threads : List ThreadFrames) (plain : RunsAsPlain o m threads)
    (lines t : ℕ) (fs : ThreadFrames) (lives : Lives m threads t fs) where
  thread-there : slice_get (known_at o.launch m.acts).world.threads t ≡ Some (plain_thread lives.state)
  thread-there =
      ap (λ (w : World). slice_get w.threads t) plain.stands.world
      ∙ slice_get-map plain_thread m.rest.threads t
      ∙ ap (option_map plain_thread) lives.thread

  -- the frames that the plain machine has
  abbrev acted : PlainFrames
  acted = plain_frames (shown_in m) (acted_frames o.launch (doing_of m t) fs)

  frames-there : slice_get (frames_at o.launch m.acts) t ≡ Some acted
  frames-there =
      ap (λ fss. slice_get fss t) plain.stands.frames
      ∙ slice_get-map (plain_frames (shown_in m)) (all_acted o.launch m.doing threads) t
      ∙ ap (option_map (plain_frames (shown_in m))) (frames-at o.launch m.doing threads t fs lives.frames)

  abbrev pub asked_then : PlainRequest
  asked_then = ((plain_code o.launch).turn acted).1

  abbrev asks_so : Option Thread → Option PlainFrames → Option PlainRequest
  asks_so thread frames =
      asks_live o.launch.set o.launch.main o.launch.opening (plain_code o.launch) thread frames

  pub lives-asks : requests o.launch m.acts lines t t ≡ Some asked_then
  lives-asks =
      ap (λ thread. asks_so thread (slice_get (frames_at o.launch m.acts) t)) thread-there
      ∙ ap (asks_so (Some (plain_thread lives.state))) frames-there
      ∙ ap (λ b. if b then None else Some asked_then) lives.lives
