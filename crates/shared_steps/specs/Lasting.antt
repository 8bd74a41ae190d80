-- What a step leaves is what the next step needs.
use Rattle.std.specs.Prelude.{◌≡◌, ℕ, suc, ◌<◌, ◌≤◌, ◌-◌, ◌^◌, [], length, All}
use Rattle.ap_base.specs.declared.reference.Ref.{Ref}
use Rattle.ap_base.specs.declared.reference.Item.{Item}
use Rattle.run_types.specs.declared.limits.Limits.{Limits}
use Rattle.graph_model.specs.declared.types.Graph.{Graph}
use Rattle.natives.specs.declared.requests.Request.{Request}
use Rattle.monitors.specs.declared.monitor.Monitor.{Monitor}
use Rattle.plain_model.specs.Duties.{IsFit}
use Rattle.plain_model.specs.Facts.{SetFacts}
use Rattle.plain_model.specs.Limits.{words_left}
use Rattle.shared_objects.specs.declared.rest.Rest.{Rest}
use Rattle.shared_objects.specs.declared.threads.ThreadState.{ThreadState}
use Rattle.shared_objects.specs.Shown.{Shown}
use Rattle.shared_objects.specs.Plain.{plain_request}
use Rattle.shared_objects.specs.Worlds.{heap_of, world_of}
use Rattle.step_forms.specs.declared.stepped.Stepped.{Stepped}
use Rattle.step_forms.specs.Follows.{Agrees, IsHeapOf, IsStep}

-- No monitor has more entries, and no region is deeper, than there were acts.
pub record AtMost (acts : ℕ) (rest : Rest) : Type 0 where
  pub monitors : All (λ (m : Monitor). m.count ≤ acts) rest.monitors
  pub threads : All (λ (t : ThreadState). t.depth ≤ acts) rest.threads

-- a step of a fit request
pub record IsFitStep (set : SetFacts) (t : ℕ) (request : Request Ref Item) (before : Shown) (rest : Rest)
    (result : Stepped) (now : Shown) (rest_now : Rest) : Type 0 where
  pub fit : IsFit set (world_of [] before rest) t (plain_request before.number request)
  pub is : IsStep set t request before rest result now rest_now

-- It leaves a heap of the set, whose objects and static fields are of their kinds.
abbrev pub StepsKeepHeaps : Type 0
StepsKeepHeaps = (set : SetFacts) (t : ℕ) (request : Request Ref Item) (before : Shown) (rest : Rest)
    (result : Stepped) (now : Shown) (rest_now : Rest)
    → IsFitStep set t request before rest result now rest_now → IsHeapOf set before → IsHeapOf set now

-- It leaves the progress of as many classes.
abbrev pub StepsKeepClasses : Type 0
StepsKeepClasses = (set : SetFacts) (t : ℕ) (request : Request Ref Item) (before : Shown) (rest : Rest)
    (result : Stepped) (now : Shown) (rest_now : Rest)
    → IsFitStep set t request before rest result now rest_now
    → length rest_now.classes.items ≡ length rest.classes.items

-- It adds at most one to each count.
abbrev pub StepsCountOne : Type 0
StepsCountOne = (set : SetFacts) (t : ℕ) (request : Request Ref Item) (before : Shown) (rest : Rest)
    (result : Stepped) (now : Shown) (rest_now : Rest) (acts : ℕ)
    → IsFitStep set t request before rest result now rest_now → AtMost acts rest → AtMost (suc acts) rest_now

-- So what it leaves agrees, while the acts are counted in 64 bits.
abbrev pub StepsLeaveWhatAgrees : Type 0
StepsLeaveWhatAgrees = (set : SetFacts) (t : ℕ) (request : Request Ref Item) (before : Shown) (rest : Rest)
    (result : Stepped) (now : Shown) (rest_now : Rest) (acts : ℕ)
    → IsFitStep set t request before rest result now rest_now → Agrees set before rest
    → AtMost acts rest → suc acts < 2 ^ 64 - 1 → Agrees set now rest_now

-- It takes no object away.
abbrev pub StepsKeepObjects : Type 0
StepsKeepObjects = (set : SetFacts) (t : ℕ) (request : Request Ref Item) (before : Shown) (rest : Rest)
    (result : Stepped) (now : Shown) (rest_now : Rest)
    → IsFitStep set t request before rest result now rest_now
    → length before.objects ≤ length now.objects

-- What is left of the words is what the limits of the run leave, where it was so before: of so many words
-- the objects after the first ones, which are those of the opening graph, take theirs.
abbrev pub StepsLeaveTheWords : Type 0
StepsLeaveTheWords = (set : SetFacts) (t : ℕ) (request : Request Ref Item) (before : Shown) (rest : Rest)
    (result : Stepped) (now : Shown) (rest_now : Rest) (limits : Limits) (opening : Graph)
    → IsFitStep set t request before rest result now rest_now
    → length opening.nodes ≤ length before.objects
    → before.left ≡ words_left limits opening (heap_of [] before)
    → now.left ≡ words_left limits opening (heap_of [] now)
