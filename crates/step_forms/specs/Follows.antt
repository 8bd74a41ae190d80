-- What a step of a shared world does is what the plain step does.
use Rattle.std.specs.Prelude.{◌≡◌, ◌⊎◌, ◌<◌, ◌≤◌, ◌-◌, ℕ, List, [], length, Option, None, Some}
use Rattle.ap_base.specs.declared.reference.Ref.{Ref}
use Rattle.ap_base.specs.declared.reference.Item.{Item}
use Rattle.ap_base.specs.declared.place.Place.{Place}
use Rattle.run_types.specs.declared.resolved.At.{At}
use Rattle.run_types.specs.declared.fault.Full.{Full}
use Rattle.run_types.specs.declared.fault.Which.{Which}
use Rattle.run_types.specs.declared.fault.Which.TheVariants as which
use Rattle.run_types.specs.declared.fault.StepFault.{StepFault}
use Rattle.run_types.specs.declared.fault.StepFault.TheVariants as fault
use Rattle.graph_model.specs.declared.types.Root.{Root}
use Rattle.graph_model.specs.declared.types.Value.{Value}
use Rattle.graph_model.specs.declared.types.Heap.{Heap}
use Rattle.natives.specs.declared.requests.Request.{Request}
use Rattle.natives.specs.declared.requests.Reply.TheVariants as reply
use Rattle.run_history.specs.declared.act.Op.TheVariants as op
use Rattle.run_history.specs.declared.act.PlainKey.{PlainKey}
use Rattle.run_history.specs.Worlds.{World, after, held}
use Rattle.plain_model.specs.Facts.{SetFacts, classes_of}
use Rattle.plain_model.specs.Consistent.{IsConsistent}
use Rattle.plain_model.specs.TypeLaws.{IsOfSet}
use Rattle.plain_model.specs.Typed.{IsTyped}
use Rattle.plain_model.specs.Limits.{words_made, monitors_left}
use Rattle.plain_model.specs.Steps.{Step, Does, Waits, WrongOperand, IsOver, step, with_class}
use Rattle.plain_model.specs.Codes.{taken_by}
use Rattle.shared_objects.specs.declared.rest.Rest.{Rest}
use Rattle.shared_objects.specs.Shown.{Numbers, Shown}
use Rattle.shared_objects.specs.Changes.{GoesOn}
use Rattle.shared_objects.specs.Plain.{plain_request, plain_reply, KnowsReply}
use Rattle.shared_objects.specs.Worlds.{heap_of, world_of, KnowsMonitors, HasCounts}
use Rattle.step_forms.specs.declared.stepped.Stepped.{Stepped}
use Rattle.step_forms.specs.declared.stepped.Stepped.TheVariants as stepped

-- ---- limits that the plain step doesn't know

-- the words of the object that a step makes, if it makes one
abbrev pub words_of_step : Heap → Step → Option ℕ
words_of_step heap (Does o r) = words_made heap o
words_of_step heap other = None

-- the plain step makes an object that takes more words than are left
pub record IsOutOfWords (world : World) (there : ℕ) (plain : Step) (full : Full) : Type 0 where
  pub need : words_of_step world.heap plain ≡ Some full.need
  pub left : full.left ≡ there
  pub short : there < full.need

-- the plain step takes a monitor that nobody holds, and one more than may be
pub record IsOutOfMonitors (world : World) (plain : Step) (full : Full) : Type 0 where
  pub takes : (key : PlainKey) × (plain ≡ Does (op.Enter key) reply.Done) × (held world.monitors key ≡ None)
  pub need : full.need ≡ 1
  pub left : full.left ≡ monitors_left world.monitors
  pub short : full.left < full.need

abbrev pub IsFullOf : World → ℕ → Step → Full → Which → Type 0
IsFullOf world left plain full which.VolatileWords = IsOutOfWords world left plain full
IsFullOf world left plain full which.Monitors = IsOutOfMonitors world plain full
IsFullOf world left plain full other = ⊥

abbrev pub DoesPrint : Step → Type 0
DoesPrint (Does (op.Print bytes) r) = Unit {0}
DoesPrint other = ⊥

-- where the plain step, which has no limits of memory and whose sink never fails, would go on
abbrev pub IsLimit : World → ℕ → Step → StepFault → Type 0
IsLimit world left plain (fault.Full full) = IsFullOf world left plain full full.which
IsLimit world left plain fault.SinkFault = DoesPrint plain
IsLimit world left plain f = ⊥

-- ---- what is left of the words

-- so many words were there, if some are taken, and are taken
abbrev pub TakesWords : Option ℕ → ℕ → ℕ → Type 0
TakesWords None before now = now ≡ before
TakesWords (Some need) before now = (need ≤ before) × (now ≡ before - need)

abbrev pub LeavesWords : Heap → Stepped → ℕ → ℕ → Type 0
LeavesWords heap (stepped.Did o r) before now = TakesWords (words_made heap o) before now
LeavesWords heap other before now = now ≡ before

-- ---- what is left of the monitors

-- a monitor that nobody holds is taken where one is left
abbrev pub FindsMonitor : World → Stepped → Type 0
FindsMonitor world (stepped.Did (op.Enter key) r) =
    held world.monitors key ≡ None → 0 < monitors_left world.monitors
FindsMonitor world other = Unit {0}

-- ---- steps

-- From one world to the next as the plain step says, which may depend on how many bytes a print takes. `left`
-- are the words that
-- are left before, and `number` is what references stand for afterwards.
abbrev pub Follows : (ℕ → Step) → ℕ → ℕ → World → Stepped → Numbers → World → Type 0
Follows plain t left before (stepped.Did o r) number now =
    (plain (taken_by o) ≡ Does o (plain_reply number r)) × KnowsReply number r × (now ≡ after before t o)
Follows plain t left before (stepped.Waits on) number now = ((taken : ℕ) → plain taken ≡ Waits on)
    × (now ≡ before)
Follows plain t left before stepped.Wrong number now = ((taken : ℕ) → plain taken ≡ WrongOperand)
    × (now ≡ before)
Follows plain t left before (stepped.Over f) number now =
    (IsLimit before left (plain 1) f ⊎ ((taken : ℕ) → plain taken ≡ IsOver f)) × (now ≡ before)

-- A heap of a consistent class set, whose objects and static fields are of their kinds. Heaps of plain runs
-- are.
pub record IsHeapOf (set : SetFacts) (shown : Shown) : Type 0 where
  pub consistent : IsConsistent set
  pub of_set : IsOfSet set (heap_of [] shown)
  pub typed : IsTyped set (heap_of [] shown)

-- What every step is given: such a heap, the progress of each class, monitors of objects and classes, and
-- counts that can rise.
pub record Agrees (set : SetFacts) (shown : Shown) (rest : Rest) : Type 0 where
  pub heap : IsHeapOf set shown
  pub classes : length rest.classes.items ≡ length (classes_of set)
  pub monitors : KnowsMonitors shown rest
  pub counts : HasCounts rest

-- What a heap and the rest show goes as the plain step says, whatever the durable roots are. A move of an
-- object is no step: it turns keys false.
pub record Goes (plain : List Root → ℕ → Step) (t : ℕ) (before : Shown) (rest : Rest) (result : Stepped) (now
    : Shown)
    (rest_now : Rest) : Type 0 where
  pub follows : (roots : List Root)
      → Follows (plain roots) t before.left (world_of roots before rest) result now.number (world_of roots
      now rest_now)
  pub words : LeavesWords (heap_of [] before) result before.left now.left
  pub monitor : FindsMonitor (world_of [] before rest) result
  pub goes_on : GoesOn before now
  pub monitors : KnowsMonitors now rest_now

-- What a request comes to is what the plain step of the request does.
abbrev pub IsStep : SetFacts → ℕ → Request Ref Item → Shown → Rest → Stepped → Shown → Rest → Type 0
IsStep set t request before rest result now rest_now =
    Goes (λ roots taken. step set (world_of roots before rest) t taken (plain_request before.number request))
    t before rest result now rest_now

-- The same of a step that looks at the heap alone and leaves the rest as it is: whichever thread makes it.
abbrev pub HeapGoes : (World → Step) → Shown → Stepped → Shown → Type 0
HeapGoes plain before result now = (t : ℕ) (rest : Rest) → KnowsMonitors before rest
    → Goes (λ roots taken. plain (world_of roots before rest)) t before rest result now rest

-- and wherever the request comes from
abbrev pub IsHeapStep : SetFacts → (At → Request Ref Item) → Shown → Stepped → Shown → Type 0
IsHeapStep set request before result now = (t : ℕ) (rest : Rest) (from : At) → KnowsMonitors before rest
    → IsStep set t (request from) before rest result now rest

-- a store of what a place keeps
abbrev pub stored_as : Place → Value → Step
stored_as place kept = Does (op.Stored place kept) reply.Done

-- Nothing comes before the use of a class, and all is as before; or what comes first.
abbrev pub InitialisesFirst : ℕ → ℕ → Rest → Option Stepped → Rest → Type 0
InitialisesFirst t class rest None now =
    ((set : SetFacts) (world : World) (go : Step) → world.classes ≡ rest.classes.items
    → with_class set world t class go ≡ go)
    × (now ≡ rest)
InitialisesFirst t class rest (Some result) now = (set : SetFacts) (shown : Shown) (go : List Root → ℕ → Step)
    → KnowsMonitors shown rest
    → Goes (λ roots taken. with_class set (world_of roots shown rest) t class (go roots taken)) t shown rest
    result shown now
