-- Which threads ask something.
use Rattle.std.proofs.Common.{◌≡◌, ◌↔◌, ℕ, zero, suc, Bool, true, false, not, IsTrue, List, [], ◌∷◌, map, Option, Some, None}
use Rattle.std.proofs.Common.{refl, ap, sym, ◌∙◌, inl, inr, if◌then◌else◌}
use Rattle.std.specs.Prelude.{slice_get}
use Rattle.run_history.specs.declared.act.Act.{Act}
use Rattle.run_history.specs.Recorded.{Recorded}
use Rattle.run_history.specs.Worlds.{Thread, World}
use Rattle.plain_model.specs.Codes.{asks, asks_live, is_persistent, taken_by}
use Rattle.plain_model.specs.Requests.{PlainRequest}
use Rattle.plain_model.specs.Runs.{op_given, request_after}
use Rattle.shared_objects.specs.declared.rest.Rest.{Rest}
use Rattle.shared_objects.specs.declared.threads.ThreadState.{ThreadState}
use Rattle.shared_objects.specs.Shown.{Shown}
use Rattle.shared_objects.specs.Worlds.{plain_thread}
use Rattle.run_forms.specs.Views.{PlainFrames, ThreadFrames, plain_frames}
use Rattle.run_forms.specs.Standing.{Launch, StandsFor, frames_at, known_at, plain_code}
use Rattle.plain_machine.specs.Ops.{is_live}
use Rattle.plain_machine.specs.Standing.{IsNext}
use Rattle.plain_machine.proofs.Possible.{no-false, no-true}

some-none : {X P : Type 0} (v : X) → ◌≡◌ {A = Option X} None (Some v) → P
some-none v e = absurd (let no = e in cc)

pub live-state : (ss : List ThreadState) (t : ℕ) → is_live ss t ≡ true
    → (s : ThreadState) × (slice_get ss t ≡ Some s) × (s.ended ≡ false)
live-state [] t e = no-false e
live-state (s ∷ ss) zero e = (s, refl, lives s.ended e)
  where
    lives : (b : Bool) → not b ≡ true → b ≡ false
    lives true h = no-false h
    lives false h = refl
live-state (s ∷ ss) (suc t) e = live-state ss t e

module _ (launch : Launch) where
  ended-asks : (b : Bool) (o : Option PlainRequest) → not b ≡ false
      → (if b then None else o) ≡ None
  ended-asks true o e = refl
  ended-asks false o e = no-true e

  dead-asks : (ss : List ThreadState) (t : ℕ) → is_live ss t ≡ false → (o : Option PlainFrames)
      → asks_live launch.set launch.main launch.opening (plain_code launch) (slice_get (map plain_thread
      ss) t) o
      ≡ None
  dead-asks [] t e o = refl
  dead-asks (s ∷ ss) zero e o = ended-asks s.ended
      (asks launch.set launch.main launch.opening (plain_code launch) o) e
  dead-asks (s ∷ ss) (suc t) e o = dead-asks ss t e o

  none-both : (b : Bool) → ◌≡◌ {A = Option PlainRequest} (if b then None else None) None
  none-both true = refl
  none-both false = refl

  no-frames : (thread : Option Thread)
      → asks_live launch.set launch.main launch.opening (plain_code launch) thread None ≡ None
  no-frames None = refl
  no-frames (Some thread) = none-both thread.ended

  none-mapped : (f : ThreadFrames → PlainFrames) (gs : List ThreadFrames) (t : ℕ) → slice_get gs t ≡ None
      → slice_get (map f gs) t ≡ None
  none-mapped f [] t e = refl
  none-mapped f (g ∷ gs) zero e = some-none (f g) (sym (ap (λ (o : Option ThreadFrames). elim o [
    | None ↦ None
    | Some x ↦ Some (f x)
  ]) e))
  none-mapped f (g ∷ gs) (suc t) e = none-mapped f gs t e

  module _ (acts : List Recorded) (shown : Shown) (rest : Rest) (threads : List ThreadFrames)
      (stands : StandsFor launch acts shown rest threads) (t : ℕ) where
    abbrev asked : Option PlainRequest
    asked = request_after launch.set launch.main launch.opening (plain_code launch) acts t

    pub dead-request : is_live rest.threads t ≡ false → asked ≡ None
    dead-request dead =
        ap (λ (w : World). asks_live launch.set launch.main launch.opening (plain_code launch)
        (slice_get w.threads t) (slice_get (frames_at launch acts) t)) stands.world
        ∙ dead-asks rest.threads t dead (slice_get (frames_at launch acts) t)

    pub missing-request : slice_get threads t ≡ None → asked ≡ None
    missing-request missing =
        ap (λ gs. asks_live launch.set launch.main launch.opening (plain_code launch)
        (slice_get (known_at launch acts).world.threads t) (slice_get gs t)) stands.frames
        ∙ ap (asks_live launch.set launch.main launch.opening (plain_code launch)
        (slice_get (known_at launch acts).world.threads t)) (none-mapped (plain_frames shown) threads t
        missing)
        ∙ no-frames (slice_get (known_at launch acts).world.threads t)

-- an act of a thread that asks nothing
pub idle-refuses : (launch : Launch) (acts : List Recorded) (act : Act) → is_persistent act.op ≡ false
    → request_after launch.set launch.main launch.opening (plain_code launch) acts act.thread ≡ None
    → IsTrue false ↔ IsNext launch acts act
idle-refuses launch acts act visible none = (λ so. no-false so, λ next. no-next next)
  where
    no-next : IsNext launch acts act → false ≡ true
    no-next (inl persists) = sym visible ∙ persists
    no-next (inr about) = some-none act.op (sym (ap (op_given launch.set (known_at launch acts).world
        act.thread
        (taken_by act.op)) none) ∙ about)

pub persist-next : (launch : Launch) (acts : List Recorded) (act : Act) → is_persistent act.op ≡ true
    → IsTrue true ↔ IsNext launch acts act
persist-next launch acts act e = (λ so. inl e, λ next. refl)
