-- What a step comes to that is made, and maybe taken back.
use Rattle.std.specs.Prelude.{◌≡◌, ◌⊎◌, ◌≢◌, ℕ, ◌<◌, Bool, true, false, List, All, Option, Some, None}
use Rattle.ap_base.specs.declared.reference.Ref.{Ref}
use Rattle.ap_base.specs.declared.reference.Item.{Item}
use Rattle.graph_model.specs.declared.types.Root.{Root}
use Rattle.natives.specs.declared.requests.Request.{Request}
use Rattle.natives.specs.declared.requests.Reply.{Reply}
use Rattle.monitors.specs.declared.monitor.Monitor.{Monitor}
use Rattle.run_types.specs.declared.fault.Full.{Full}
use Rattle.run_history.specs.declared.act.Op.{Op}
use Rattle.run_history.specs.declared.act.Op.TheVariants as op
use Rattle.plain_model.specs.Codes.{taken_by}
use Rattle.plain_model.specs.Facts.{SetFacts}
use Rattle.plain_model.specs.Steps.{op_of}
use Rattle.shared_objects.specs.declared.rest.Rest.{Rest}
use Rattle.shared_objects.specs.Shown.{Shown}
use Rattle.shared_objects.specs.Worlds.{KnowsMonitors, world_of}
use Rattle.step_forms.specs.declared.stepped.Stepped.TheVariants as stepped
use Rattle.step_forms.specs.Follows.{Agrees, IsOutOfMonitors, IsStep}
use Rattle.shared_steps.specs.Lasting.{AtMost}
use Rattle.plain_machine.specs.declared.trying.Did.{Did}
use Rattle.plain_machine.specs.Foreseeing.{step_in}
use Rattle.plain_machine.specs.Ops.{changes_heap, changes_rest}

-- What every heap and rest are, after so many steps: they agree, each held monitor was entered, and no
-- count is at
-- its end.
pub record IsReady (set : SetFacts) (shown : Shown) (rest : Rest) (steps : ℕ) : Type 0 where
  pub agrees : Agrees set shown rest
  pub entered : All (λ (m : Monitor). 0 < m.count) rest.monitors
  pub most : AtMost steps rest
  pub few : steps < 18446744073709551614

-- but for the words that are left
abbrev pub with_left : Shown → ℕ → Shown
with_left shown left = record shown { left = left }

-- All is as before, but for the words that are left.
pub record IsKept (before : Shown) (rest : Rest) (now : Shown) (rest_now : Rest) : Type 0 where
  pub shown : now ≡ with_left before now.left
  pub world : (roots : List Root) → world_of roots now rest_now ≡ world_of roots before rest
  pub monitors : KnowsMonitors now rest_now

-- The step of the request did this, however many words were left.
abbrev pub DidSo : SetFacts → ℕ → Request Ref Item → Op → Reply Ref Item → Shown → Rest → Shown → Rest
    → Type 0
DidSo set t q o r before rest now rest_now =
    (left : ℕ) × IsStep set t q (with_left before left) rest (stepped.Did o r) now rest_now

-- the heap before a change, if the operation is one
abbrev pub IsBackIf : Bool → (before now back : Shown) → Type 0
IsBackIf true before now back = back ≡ before
IsBackIf false before now back = now ≡ before

abbrev pub IsBack : Op → (before now back : Shown) → Type 0
IsBack o before now back = IsBackIf (changes_heap o) before now back

-- The step does nothing, whatever it may print.
abbrev pub IsNoStep : SetFacts → ℕ → Request Ref Item → Shown → Rest → Type 0
IsNoStep set t q before rest = (roots : List Root) (taken : ℕ)
    → op_of (step_in set roots before rest t taken q) ≡ None

-- The step was made, and the heap can be had back; or there is none, and all is as before.
abbrev pub MakesTo : SetFacts → ℕ → Request Ref Item → Shown → Rest → Option Did → (now back : Shown)
    → Rest → Type 0
MakesTo set t q before rest (Some did) now back rest_now =
    (left : ℕ) × IsStep set t q (with_left before left) rest (stepped.Did did.op did.reply) now rest_now
    × IsBack did.op (with_left before left) now back
MakesTo set t q before rest None now back rest_now =
    IsKept before rest now rest_now × IsNoStep set t q before rest

-- The step does this operation, and the reply is the step's; or it does another one, or none, and all is
-- as before.
abbrev pub DoesOr : SetFacts → ℕ → Request Ref Item → Op → Shown → Rest → Option (Reply Ref Item) → Shown
    → Rest → Type 0
DoesOr set t q o before rest (Some r) now rest_now = DidSo set t q o r before rest now rest_now
DoesOr set t q o before rest None now rest_now = IsKept before rest now rest_now
    × ((roots : List Root) → op_of (step_in set roots before rest t (taken_by o) q) ≢ Some o)

-- Whatever the step does is this operation, or changes the heap at most; or it isn't this operation.
abbrev pub MayBe : SetFacts → ℕ → Request Ref Item → Op → Shown → Rest → Bool → Type 0
MayBe set t q o before rest true = (roots : List Root) (taken : ℕ) (p : Op)
    → op_of (step_in set roots before rest t taken q) ≡ Some p → (p ≡ o) ⊎ (changes_rest p ≡ false)
MayBe set t q o before rest false = (roots : List Root) (taken : ℕ)
    → op_of (step_in set roots before rest t taken q) ≢ Some o

-- ---- why a step can't be made

abbrev pub MakesObject : Op → Type 0
MakesObject (op.Alloc n shape count) = Unit {0}
MakesObject (op.Throw n class) = Unit {0}
MakesObject o = ⊥

-- The step makes an object, for which memory is wanted; it takes a monitor that nobody holds, and 4,096
-- are held.
abbrev pub IsShort : SetFacts → ℕ → Request Ref Item → Shown → Rest → Type 0
IsShort set t q before rest = (roots : List Root)
    → ((o : Op) × (op_of (step_in set roots before rest t 1 q) ≡ Some o) × MakesObject o)
    ⊎ ((full : Full) × IsOutOfMonitors (world_of roots before rest) (step_in set roots before rest t 1 q)
    full)
