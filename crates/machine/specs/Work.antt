-- How many quiet steps events make (`KeepsBound` of specs/Events.antt).
use Rattle.std.specs.Prelude.{◌≡◌, ℕ, ◌+◌, ◌-◌, ◌*◌, ◌≤◌, length}
use Rattle.shared_objects.specs.declared.rest.Rest.{Rest}
use Rattle.two_spaces.specs.Seen.{Spaces}
use Rattle.machine_threads.specs.Passed.{work_left}
use Rattle.shared_heap.specs.First.{first_shared}
use Rattle.shared_heap.specs.Shared.{Shared}
use Rattle.machine.specs.declared.events.Event.{Event}
use Rattle.machine.specs.declared.events.Event.TheVariants.{Micro, Over}
use Rattle.machine.specs.Events.{AddsActs, KeepsBound, acts_added, lines_taken}

-- The machine with which a run begins has no work left.
abbrev pub FirstHasNoWork : Type 0
FirstHasNoWork = (spaces : Spaces) (free : ℕ) (rest : Rest) (limit : ℕ)
    → work_left (first_shared spaces free rest limit).machine ≡ 0

-- ---- events, one after another

abbrev pub GoesOn : Event → Type 0
GoesOn (Over halt) = ⊥
GoesOn result = Unit {0}

-- An event that doesn't end the run, with what `machine::event` says of its acts and its work.
pub record IsEvent (old new : Shared) : Type 0 where
  pub thread : ℕ
  pub result : Event
  pub on : GoesOn result
  pub acts : AddsActs result thread old.history.acts new.history.acts
  pub work : KeepsBound result old new

-- Events, of whatever threads, each of the heap that the one before has left: between them only notes change.
pub data Events (first : Shared) : Shared → Type 0 where
  no_event : Events first first
  one_more : (last old new : Shared) → Events first last → old.machine ≡ last.machine → old.history ≡ last.history
      → IsEvent old new → Events first new

-- one for a quiet step
abbrev pub quiet_of : Event → Shared → Shared → ℕ
quiet_of Micro old new = 1 - acts_added old new
quiet_of result old new = 0

abbrev pub quiet_in : {first last : Shared} → Events first last → ℕ
quiet_in no_event = 0
quiet_in (one_more last old new before machine history e) = quiet_in before + quiet_of e.result old new

-- how many lines they take in all
abbrev pub lines_in : {first last : Shared} → Events first last → ℕ
lines_in no_event = 0
lines_in (one_more last old new before machine history e) = lines_in before + lines_taken old new

-- ---- how many are quiet

-- At most as many as there is work left, and 16 for each act that they add and each line that they take.
abbrev pub QuietStepsAreFew : Type 0
QuietStepsAreFew = (first last : Shared) (events : Events first last) → quiet_in events + work_left last.machine
    ≤ work_left first.machine
    + 16 * ((length last.history.acts - length first.history.acts) + lines_in events)

-- So from a new heap on at most 16 for each act and each line taken.
abbrev pub QuietStepsOfRunsAreFew : Type 0
QuietStepsOfRunsAreFew = (spaces : Spaces) (free : ℕ) (rest : Rest) (limit : ℕ) (last : Shared)
    (events : Events (first_shared spaces free rest limit) last)
    → quiet_in events ≤ 16 * (length last.history.acts + lines_in events)
