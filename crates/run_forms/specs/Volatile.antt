-- Machines of runs without durable roots: nothing becomes durable, so each step's act comes at once.
use Rattle.std.specs.Prelude.{◌≡◌, ℕ, ◌-◌, ◌<◌, ◌≤◌, List, [], ◌∷◌, ◌++◌, map, length, sum_by, None}
use Rattle.std.specs.List.{AllByRecursion}
use Rattle.ap_base.specs.declared.reference.Ref.{Ref}
use Rattle.ap_base.specs.declared.reference.Ref.TheVariants.{Null}
use Rattle.ap_base.specs.declared.reference.Item.{Item}
use Rattle.run_types.specs.declared.limits.Limits.{Limits}
use Rattle.natives.specs.declared.requests.Request.{Request}
use Rattle.natives.specs.declared.requests.Reply.{Reply}
use Rattle.run_history.specs.declared.act.Op.{Op}
use Rattle.run_history.specs.Recorded.{Recorded}
use Rattle.run_history.specs.Knowing.{Knowledge}
use Rattle.plain_model.specs.Facts.{classes_of}
use Rattle.plain_model.specs.Codes.{begun_by}
use Rattle.plain_model.specs.Limits.{words_of}
use Rattle.monitors.specs.declared.monitor.Monitor.{Monitor}
use Rattle.shared_objects.specs.declared.rest.Rest.{Rest}
use Rattle.shared_objects.specs.declared.threads.ThreadState.{ThreadState}
use Rattle.shared_objects.specs.Shown.{Shown}
use Rattle.step_forms.specs.declared.stepped.Stepped.TheVariants as stepped
use Rattle.step_forms.specs.Follows.{Agrees, IsStep}
use Rattle.run_forms.specs.Views.{ThreadFrames, plain_frames}
use Rattle.run_forms.specs.Standing.{Launch, IsLaunch, StandsFor, IsAsking, IsRun, plain_code, known_at}
use Rattle.run_forms.specs.Laws.{answered_threads}

-- nothing is durable, guarded, or to be fenced
pub record HasNothingDurable (known : Knowledge) : Type 0 where
  pub objects : known.durable ≡ []
  pub roots : known.world.heap.roots ≡ []
  pub guards : known.guards ≡ []
  pub unfenced : known.unfenced ≡ []

-- no monitor was entered, and no region begun, more than n times
pub record CountsTo (n : ℕ) (rest : Rest) : Type 0 where
  pub monitors : AllByRecursion (λ (m : Monitor). m.count ≤ n) rest.monitors
  pub threads : AllByRecursion (λ (s : ThreadState). s.depth ≤ n) rest.threads

-- of so many words, what the objects leave
abbrev pub words_left_of : Limits → Shown → ℕ
words_left_of limits shown = limits.heap_words - sum_by words_of shown.objects

-- The machine stands for a plain run from no durable objects, in which nothing became durable, after so many
-- calls of an image at most. Each class has its progress, and what is left of the words is what the objects
-- leave.
pub record IsVolatile (launch : Launch) (calls : ℕ) (acts : List Recorded) (shown : Shown)
    (rest : Rest) (threads : List ThreadFrames) : Type 0 where
  pub stands : StandsFor launch acts shown rest threads
  pub nothing : HasNothingDurable (known_at launch acts)
  pub timed : (known_at launch acts).at ≤ calls
  pub classes : length rest.classes.items ≡ length (classes_of launch.set)
  pub counts : CountsTo (length acts) rest
  pub words : shown.left ≡ words_left_of launch.limits shown
  pub nodes : launch.opening.nodes ≡ []

-- the act of a thread that names no objects, after so many calls of the image
abbrev pub act_of : (t calls : ℕ) → Op → Recorded
act_of t calls o = record { act = record { thread = t; at = calls; op = o }; named = [] }

-- of every such machine
abbrev pub OfVolatile : ((launch : Launch) → ℕ → List Recorded → Shown → Rest → List ThreadFrames
    → Type 0) → Type 0
OfVolatile P = (launch : Launch) (calls : ℕ) (acts : List Recorded) (shown : Shown)
    (rest : Rest) (threads : List ThreadFrames) → IsLaunch launch
    → IsVolatile launch calls acts shown rest threads
    → P launch calls acts shown rest threads

-- Its parts agree, as steps want it, while there are fewer acts than a count may reach.
abbrev pub VolatileMachinesAgree : Type 0
VolatileMachinesAgree = OfVolatile (λ launch calls acts shown rest threads.
    length acts < 18446744073709551615 → Agrees launch.set shown rest)

-- What a step does is an act that may come next.
abbrev pub VolatileActsAreRuns : Type 0
VolatileActsAreRuns = OfVolatile (λ launch calls acts shown rest threads.
    (t : ℕ) (fs : ThreadFrames) (request : Request Ref Item) (o : Op) (r : Reply Ref Item)
    (now : Shown) (rest_now : Rest) → IsAsking launch rest threads t fs request
    → IsStep launch.set t request shown rest (stepped.Did o r) now rest_now
    → IsRun launch (acts ++ act_of t calls o ∷ []))

-- So the machine after the step and the answer to its reply is such a machine, with one act more.
abbrev pub VolatileActsGoOn : Type 0
VolatileActsGoOn = OfVolatile (λ launch calls acts shown rest threads.
    (t : ℕ) (fs : ThreadFrames) (request : Request Ref Item) (o : Op) (r : Reply Ref Item)
    (now : Shown) (rest_now : Rest) (begun : List ThreadFrames)
    → IsAsking launch rest threads t fs request
    → IsStep launch.set t request shown rest (stepped.Did o r) now rest_now
    → now.number Null ≡ None
    → map (plain_frames now) begun ≡ begun_by launch.set launch.main launch.opening (plain_code launch) o
    → IsVolatile launch calls (acts ++ act_of t calls o ∷ []) now rest_now
    (answered_threads launch threads t fs r begun))
