-- What the outside is told of a run, and how it is over by the outside.
use Rattle.std.specs.Prelude.{◌≡◌, ℕ, List, ◌++◌, length, Option, Some, None, All}
use Rattle.ap_base.specs.Causes.{next_count}
use Rattle.ap_base.specs.Sinks.{TakesBehind, with_bytes}
use Rattle.ap_base.specs.declared.reference.Ref.{Ref}
use Rattle.ap_base.specs.declared.reference.Item.{Item}
use Rattle.run_types.specs.declared.fault.RunFault.{RunFault}
use Rattle.run_types.specs.declared.fault.RunFault.TheVariants as fault
use Rattle.natives.specs.declared.requests.Request.{Request}
use Rattle.run_history.specs.declared.act.Op.{Op}
use Rattle.run_history.specs.Recorded.{Recorded}
use Rattle.plain_model.specs.Runs.{output_of}
use Rattle.machine.specs.Events.{IsShare}

-- what a watcher that tells it has seen, once it saw these acts too
abbrev pub with_all : Option (List Recorded) → List Recorded → Option (List Recorded)
with_all None acts = None
with_all (Some seen) acts = Some (seen ++ acts)

-- From the one list of acts to the other there were further ones, which the watcher saw, each once and in
-- order, and whose output the sink took.
pub record HasTold (old new : List Recorded) (sees sees' : Option (List Recorded))
    (takes takes' : Option (List ℕ))
    : Type 0 where
  pub further : List Recorded
  pub acts : new ≡ old ++ further
  pub watched : sees' ≡ with_all sees further
  pub printed : takes' ≡ with_bytes takes (output_of further)

-- From the one list of acts to the other there were further ones. Behind what they print, the sink takes what it would have taken
-- before.
pub record LeavesShares (takes takes' : ℕ → ℕ → Option ℕ) (old new : List Recorded) : Type 0 where
  pub further : List Recorded
  pub acts : new ≡ old ++ further
  pub behind : TakesBehind takes takes' (length (output_of further))

-- what an operation prints of a request is its share
abbrev pub IsShareOf : Option (Request Ref Item) → (ℕ → Option ℕ) → Op → Type 0
IsShareOf None takes operation = Unit {0}
IsShareOf (Some request) takes operation = IsShare request takes operation

-- From the one list of acts to the other there were further ones; one that prints, prints its share.
pub record AddsShare (asks : Option (Request Ref Item)) (takes : ℕ → Option ℕ) (old new : List Recorded)
    : Type 0 where
  pub further : List Recorded
  pub acts : new ≡ old ++ further
  pub shares : All (λ (a : Recorded). IsShareOf asks takes a.act.op) further

-- The counts of faults of the sink and of the image stand still, but where the run is over by one of them: then its own is one more.
abbrev pub IsCaused : Option RunFault → (sink sink' image image' : ℕ) → Type 0
IsCaused (Some fault.SinkFault) sink sink' image image' = (sink' ≡ next_count sink) × (image' ≡ image)
IsCaused (Some fault.ImageFault) sink sink' image image' = (sink' ≡ sink) × (image' ≡ next_count image)
IsCaused over sink sink' image image' = (sink' ≡ sink) × (image' ≡ image)
