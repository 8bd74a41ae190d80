-- Events in a row that wait, of whatever threads: nothing changes but the places of conversions, and what threads need.
--
-- `plain t` is what thread t waits for in the plain world, if it does: a monitor's owner, a thread's end, or a class's
-- initialisation. In a row of waits no act is added and no request is answered, so that this stays.
use Rattle.std.specs.Prelude.{◌≡◌, ◌≢◌, ℕ, ◌<◌, true, nat_eq, List, Option, Some, None, if◌then◌else◌}
use Rattle.monitors.specs.declared.monitor.Monitor.{Monitor}
use Rattle.run_types.specs.declared.wait.On.{On}
use Rattle.run_types.specs.declared.wait.On.TheVariants as on
use Rattle.twin_forms.specs.Table.{Entry, entry, IsClaimed}
use Rattle.convert_queue.specs.Queues.{phase_of, place_of}
use Rattle.convert_queue.specs.Threads.{needs_of}
use Rattle.convert_words.specs.declared.step.ConvertStep.TheVariants as step
use Rattle.convert_words.specs.Scenes.{Scene, AgreesAt}
use Rattle.convert_words.specs.Converting.{GoesOn, Lacks, Waits, WaitsFor}
use Rattle.converter.specs.Beginning.{BeginsByNeed}
use Rattle.converter.specs.Laws.{AreUnwritten}
use Rattle.converter.specs.Stepping.{Event}
use Rattle.convert_waits.specs.Waiting.{WaitsForMember}

-- Why a thread waits: in the plain world; its repair lacks an object that this thread has claimed; it is settled, and
-- this member of its
-- group isn't.
pub data Why : Type 0 where
  Plain : On → Why
  Lacking : ℕ → Why
  Member : ℕ → Why

-- the wait that is told
abbrev pub on_of : Why → On
on_of (Plain on) = on
on_of (Lacking u) = on.Conversion u
on_of (Member u) = on.Conversion u

abbrev pub HasNothing : List Entry → ℕ → Type 0
HasNothing es t = (n : ℕ) → IsClaimed es t n → ⊥

abbrev pub HasSome : List Entry → ℕ → Type 0
HasSome es t = (n : ℕ) × IsClaimed es t n

-- The wait holds. Who waits plainly has claimed nothing; a member that is waited for has claimed something.
abbrev pub HoldsStill : (ℕ → Option On) → Scene → List Entry → ℕ → Why → Type 0
HoldsStill plain s es t (Plain on) = (plain t ≡ Some on) × HasNothing es t
HoldsStill plain s es t (Lacking u) = Lacks s es t u
HoldsStill plain s es t (Member u) = (u < 64) × WaitsForMember s t u × HasSome es u

-- A row of waits, up to here. `waited t`: why thread t's last event in the row waited, None where t had none in the row.
pub record InRow (plain : ℕ → Option On) (s : Scene) (es : List Entry) (waited : ℕ → Option Why) : Type 0 where
  pub agrees : AgreesAt s es
  pub unwritten : AreUnwritten s.queue es
  -- all that a thread has claimed that waited is forwarded
  pub forwarded : (t : ℕ) (why : Why) → waited t ≡ Some why → (n : ℕ) → IsClaimed es t n → (entry es n).stage ≡ 2
  pub holds : (t : ℕ) (why : Why) → waited t ≡ Some why → HoldsStill plain s es t why

-- with thread t's wait
abbrev pub with_wait : (ℕ → Option Why) → ℕ → Why → ℕ → Option Why
with_wait waited t why u = if nat_eq u t then Some why else waited u

abbrev pub none_waited : ℕ → Option Why
none_waited t = None

-- ---- events

-- A row begins where no thread has waited.
abbrev pub RowsBegin : Type 0
RowsBegin = (plain : ℕ → Option On) (s : Scene) (es : List Entry) → AgreesAt s es → AreUnwritten s.queue es
    → InRow plain s es none_waited

-- a wait in the plain world, of a thread that has claimed nothing
abbrev pub PlainWaitsKeep : Type 0
PlainWaitsKeep = (plain : ℕ → Option On) (s : Scene) (es : List Entry) (waited : ℕ → Option Why) (t : ℕ) (on : On)
    → InRow plain s es waited → plain t ≡ Some on → HasNothing es t → InRow plain s es (with_wait waited t (Plain on))

-- a wait of a repair that lacks another thread's object
abbrev pub LackingWaitsKeep : Type 0
LackingWaitsKeep = (plain : ℕ → Option On) (s s' : Scene) (es : List Entry) (waited : ℕ → Option Why) (t u : ℕ)
    → InRow plain s es waited → GoesOn t s s' es → Waits s' es t u → Lacks s' es t u
    → InRow plain s' es (with_wait waited t (Lacking u))

-- a wait of a settled thread for a member of its group
abbrev pub MemberWaitsKeep : Type 0
MemberWaitsKeep = (plain : ℕ → Option On) (s s' : Scene) (es : List Entry) (waited : ℕ → Option Why) (t u : ℕ) → u < 64
    → InRow plain s es waited → GoesOn t s s' es → Waits s' es t u → WaitsFor s' t u
    → InRow plain s' es (with_wait waited t (Member u))

-- A thread that has claimed nothing begins its conversion by a need: its own place and phase may be any, and it needs more.
pub record BeginsToNeed (t : ℕ) (s s' : Scene) (es : List Entry) : Type 0 where
  pub nothing : HasNothing es t
  pub heap : s'.heap ≡ s.heap
  pub queues : s'.queue.queues ≡ s.queue.queues
  pub marks : s'.queue.marks ≡ s.queue.marks
  pub other_phases : (u : ℕ) → u ≢ t → phase_of s'.queue u ≡ phase_of s.queue u
  pub other_places : (u : ℕ) → u ≢ t → place_of s'.queue u ≡ place_of s.queue u
  pub kept : (a b : ℕ) → needs_of s.queue.needs a b ≡ true → needs_of s'.queue.needs a b ≡ true

-- It does so, and waits in the same event, for a member of its group: it has claimed nothing to repair.
abbrev pub NeedingWaitsKeep : Type 0
NeedingWaitsKeep = (plain : ℕ → Option On) (s at s' : Scene) (es : List Entry) (waited : ℕ → Option Why) (t u : ℕ) → u < 64
    → InRow plain s es waited → BeginsToNeed t s at es → GoesOn t at s' es → Waits s' es t u
    → InRow plain s' es (with_wait waited t (Member u))

-- A thread that was settled already waits with no step of its conversion, for the least member that isn't; and so does
-- one that has just begun
-- by a need, if it is settled.
abbrev pub SettledWaitsKeep : Type 0
SettledWaitsKeep = (plain : ℕ → Option On) (s : Scene) (es : List Entry) (waited : ℕ → Option Why) (t u : ℕ) → u < 64
    → InRow plain s es waited → WaitsFor s t u → InRow plain s es (with_wait waited t (Member u))

abbrev pub NeedsWaitSettled : Type 0
NeedsWaitSettled = (plain : ℕ → Option On) (s s' : Scene) (es : List Entry) (waited : ℕ → Option Why) (t u : ℕ) → u < 64
    → InRow plain s es waited → BeginsToNeed t s s' es → AgreesAt s' es → WaitsFor s' t u
    → InRow plain s' es (with_wait waited t (Member u))

-- A conversion that begins by a need does so.
abbrev pub BeginningsNeed : Type 0
BeginningsNeed = (s s' : Scene) (es : List Entry) (t m u : ℕ) → HasNothing es t → BeginsByNeed s s' es es t m u → BeginsToNeed t s s' es

-- Each event of a conversion that waits keeps the row, by one or the other.
abbrev pub ConvertingWaitsKeep : Type 0
ConvertingWaitsKeep = (plain : ℕ → Option On) (s s' : Scene) (es : List Entry) (ms ms' : List Monitor) (waited : ℕ → Option Why) (t u : ℕ)
    → u < 64 → InRow plain s es waited → Event t (step.Wait u) s s' es ms ms'
    → (why : Why) × (on_of why ≡ on.Conversion u) × InRow plain s' es (with_wait waited t why)
