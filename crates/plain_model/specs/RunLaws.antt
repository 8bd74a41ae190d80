-- What holds of every plain run, said of its acts alone: which stores aren't fenced, how deep regions are
-- and what they guard, and who owns the monitors.
use Rattle.std.specs.Prelude.{◌≡◌, ◌⊎◌, ℕ, suc, length, ◌+◌, ◌≤◌, ◌<◌, Bool, true, false, nat_eq, ◌&&◌, List, [], ◌∷◌, ◌++◌}
use Rattle.std.specs.Prelude.{if◌then◌else◌, Some, None, ◌≢◌}
use Rattle.ap_base.specs.declared.place.Place.{Place}
use Rattle.graph_model.specs.declared.types.Value.{Value}
use Rattle.graph_model.specs.declared.types.Graph.{Graph}
use Rattle.graph_model.specs.Heaps.{place_is}
use Rattle.run_history.specs.declared.act.PlainKey.{PlainKey}
use Rattle.run_history.specs.declared.plain.Monitor.{Monitor}
use Rattle.run_history.specs.declared.act.Op.{Op}
use Rattle.run_history.specs.declared.act.Op.TheVariants as op
use Rattle.run_types.specs.declared.fault.RunFault.{RunFault}
use Rattle.run_history.specs.Recorded.{Recorded}
use Rattle.run_history.specs.Worlds.{World, depth_of, held, key_is}
use Rattle.run_history.specs.Knowing.{Fate, Single, Mark, Guard, has_guards, durable_at, guard_of}
use Rattle.plain_model.specs.Facts.{SetFacts}
use Rattle.plain_model.specs.Codes.{Code}
use Rattle.plain_model.specs.Runs.{MayAct, IsPlainRun, known_of, wants_of, request_after}
use Rattle.plain_model.specs.Ends.{waits_of}
use Rattle.plain_model.specs.Causes.{IsStuck}

-- how many acts pass the test
abbrev pub how_many : (Recorded → Bool) → List Recorded → ℕ
how_many test [] = 0
how_many test (a ∷ acts) = if test a then suc (how_many test acts) else how_many test acts

abbrev pub is_begin : Op → Bool
is_begin op.Begin = true
is_begin o = false

abbrev pub is_end : Op → Bool
is_end op.End = true
is_end o = false

-- an Enter or an Exit of this key
abbrev pub is_enter : PlainKey → Op → Bool
is_enter key (op.Enter k) = key_is k key
is_enter key o = false

abbrev pub is_exit : PlainKey → Op → Bool
is_exit key (op.Exit k) = key_is k key
is_exit key o = false

-- an act of thread t whose operation passes the test
abbrev pub is_by : ℕ → (Op → Bool) → Recorded → Bool
is_by t test a = nat_eq a.act.thread t && test a.act.op

abbrev pub begins : ℕ → List Recorded → ℕ
begins t acts = how_many (is_by t is_begin) acts

abbrev pub ends : ℕ → List Recorded → ℕ
ends t acts = how_many (is_by t is_end) acts

abbrev pub enters : ℕ → PlainKey → List Recorded → ℕ
enters t key acts = how_many (is_by t (is_enter key)) acts

abbrev pub exits : ℕ → PlainKey → List Recorded → ℕ
exits t key acts = how_many (is_by t (is_exit key)) acts

abbrev pub is_single_of : ℕ → Fate → Bool
is_single_of t (Single u) = nat_eq u t
is_single_of t fate = false

-- how many stores of thread t outside regions aren't fenced
abbrev pub singles : ℕ → List Mark → ℕ
singles t [] = 0
singles t (m ∷ ms) = if is_single_of t m.fate then suc (singles t ms) else singles t ms

-- Of each thread at most one durable store outside regions isn't fenced.
abbrev pub OneStoreIsUnfenced : Type 0 → Type 0
OneStoreIsUnfenced Frames = (set : SetFacts) (main : ℕ) (opening : Graph)
    (code : Code set main opening Frames)
    (acts : List Recorded) (t : ℕ) → IsPlainRun set main opening code acts
    → singles t (known_of set main opening code acts).marks ≤ 1

-- A region is as deep as its thread's Begins are more than its Ends.
abbrev pub DepthIsBeginsLessEnds : Type 0 → Type 0
DepthIsBeginsLessEnds Frames = (set : SetFacts) (main : ℕ) (opening : Graph)
    (code : Code set main opening Frames)
    (acts : List Recorded) (t : ℕ) → IsPlainRun set main opening code acts
    → depth_of (known_of set main opening code acts).world t + ends t acts ≡ begins t acts

-- A thread outside regions guards nothing.
abbrev pub GuardsAreOfOpenRegions : Type 0 → Type 0
GuardsAreOfOpenRegions Frames = (set : SetFacts) (main : ℕ) (opening : Graph)
    (code : Code set main opening Frames)
    (acts : List Recorded) (t : ℕ) → IsPlainRun set main opening code acts
    → depth_of (known_of set main opening code acts).world t ≡ 0
    → has_guards (known_of set main opening code acts).guards t ≡ false

-- Thread t guarded the place in these acts, and its region has been open since: after no front from then on
-- are its Ends as many as its Begins.
pub record WasGuarded (acts : List Recorded) (t : ℕ) (place : Place) : Type 0 where
  pub front : List Recorded
  pub guarded : Recorded
  pub rest : List Recorded
  pub is_here : acts ≡ front ++ guarded ∷ rest
  pub by_thread : guarded.act.thread ≡ t
  pub is_guarded : guarded.act.op ≡ op.Guarded place
  pub is_open : (middle later : List Recorded) → rest ≡ middle ++ later
      → ends t (front ++ guarded ∷ middle) < begins t (front ++ guarded ∷ middle)

-- A guard was made by its thread within the region that is still open.
abbrev pub GuardsWereMadeInTheirRegion : Type 0 → Type 0
GuardsWereMadeInTheirRegion Frames = (set : SetFacts) (main : ℕ) (opening : Graph)
    (code : Code set main opening Frames)
    (acts : List Recorded) (t : ℕ) (place : Place) → IsPlainRun set main opening code acts
    → guard_of (known_of set main opening code acts).guards place ≡ Some t → WasGuarded acts t place

-- A durable store within a region is at a place that was guarded within the same outermost Begin and End.
abbrev pub StoresOfRegionsWereGuarded : Type 0 → Type 0
StoresOfRegionsWereGuarded Frames = (set : SetFacts) (main : ℕ) (opening : Graph)
    (code : Code set main opening Frames)
    (front : List Recorded) (a : Recorded) (rest : List Recorded) (place : Place) (value : Value)
    → IsPlainRun set main opening code (front ++ a ∷ rest) → a.act.op ≡ op.Stored place value
    → durable_at (known_of set main opening code front) place ≡ true
    → depth_of (known_of set main opening code front).world a.act.thread ≢ 0
    → WasGuarded front a.act.thread place

-- how many guards there are of a place
abbrev pub guards_of : Place → List Guard → ℕ
guards_of place [] = 0
guards_of place (g ∷ gs) = if place_is g.place place then suc (guards_of place gs) else guards_of place gs

-- A place has at most one guard.
abbrev pub OneGuardAPlace : Type 0 → Type 0
OneGuardAPlace Frames = (set : SetFacts) (main : ℕ) (opening : Graph) (code : Code set main opening Frames)
    (acts : List Recorded) (place : Place) → IsPlainRun set main opening code acts
    → guards_of place (known_of set main opening code acts).guards ≤ 1

-- A thread that makes an Exit of a key has made more Enters of it than Exits.
abbrev pub ExitsFollowEnters : Type 0 → Type 0
ExitsFollowEnters Frames = (set : SetFacts) (main : ℕ) (opening : Graph) (code : Code set main opening Frames)
    (front : List Recorded) (a : Recorded) (rest : List Recorded) (key : PlainKey)
    → IsPlainRun set main opening code (front ++ a ∷ rest) → a.act.op ≡ op.Exit key
    → exits a.act.thread key front < enters a.act.thread key front

-- At most one thread has made more Enters of a key than Exits.
abbrev pub OneOwnerAKey : Type 0 → Type 0
OneOwnerAKey Frames = (set : SetFacts) (main : ℕ) (opening : Graph) (code : Code set main opening Frames)
    (acts : List Recorded) (key : PlainKey) (t u : ℕ) → IsPlainRun set main opening code acts
    → exits t key acts < enters t key acts → exits u key acts < enters u key acts → t ≡ u

-- a region is nested, and a monitor entered, at most so many times; and at most so many monitors are held
pub record CountsAtMost (most : ℕ) (world : World) : Type 0 where
  pub depth : (t : ℕ) → depth_of world t ≤ most
  pub entries : (key : PlainKey) (m : Monitor) → held world.monitors key ≡ Some m → m.count ≤ most
  pub monitors : length world.monitors ≤ most

-- Regions, entries of a monitor and monitors that are held are no more than there are acts.
abbrev pub CountsAreAtMostActs : Type 0 → Type 0
CountsAreAtMostActs Frames = (set : SetFacts) (main : ℕ) (opening : Graph) (code : Code set main opening Frames)
    (acts : List Recorded) → IsPlainRun set main opening code acts
    → CountsAtMost (length acts) (known_of set main opening code acts).world

-- Where all live threads wait, nothing comes but what becomes durable for them, and no live thread owes a
-- fence.
abbrev pub StuckThreadsDoNothing : Type 0 → Type 0
StuckThreadsDoNothing Frames = (set : SetFacts) (main : ℕ) (opening : Graph)
    (code : Code set main opening Frames)
    (acts : List Recorded) (a : Recorded) (f : RunFault)
    → let known = known_of set main opening code acts in let request =
    request_after set main opening code acts in
    IsStuck (waits_of set known request) request f
    → MayAct set known (wants_of set main opening code acts) (request a.act.thread) a
    → (a.act.op ≡ op.Joined) ⊎ ((a.act.op ≡ op.Fenced) × (request a.act.thread ≡ None))
