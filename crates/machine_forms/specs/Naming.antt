-- Which objects the seal of a group names.
use Rattle.std.specs.Prelude.{◌≡◌, ◌≢◌, ◌⊎◌, ℕ, zero, suc, ◌+◌, ◌<◌, true, List, [], ◌++◌, length, map, if◌then◌else◌}
use Rattle.monitors.specs.declared.monitor.Monitor.{Monitor}
use Rattle.twin_forms.specs.Table.{Entry}
use Rattle.convert_queue.specs.Queues.{Queued, queue_of, total}
use Rattle.convert_queue.specs.Threads.{IsGroupOf, has, needs_of}
use Rattle.convert_words.specs.declared.step.ConvertStep.TheVariants as step
use Rattle.convert_words.specs.Scenes.{Scene, AgreesAt}
use Rattle.converter.specs.Laws.{number_at}
use Rattle.converter.specs.Stepping.{Event}
use Rattle.machine_forms.specs.Events.{NamesSet}

-- the numbers of the objects that a thread has queued, in their order
abbrev pub queue_names : Scene → ℕ → List ℕ
queue_names s u = map (λ (x : Queued). number_at s x.0) (queue_of s.queue u)

-- of a thread, if the set has it
abbrev pub member_names : Scene → ℕ → ℕ → List ℕ
member_names s set u = if has set u then queue_names s u else []

-- of the set's threads among the first so many, in their order
abbrev pub names_below : Scene → ℕ → ℕ → List ℕ
names_below s set zero = []
names_below s set (suc u) = names_below s set u ++ member_names s set u

abbrev pub group_names : Scene → ℕ → List ℕ
group_names s set = names_below s set 64

-- Something is there to be sealed: the thread has queued an object, or needs a thread.
abbrev pub HasToSeal : Scene → ℕ → Type 0
HasToSeal s t = (queue_of s.queue t ≢ []) ⊎ ((u : ℕ) × (u < 64) × (needs_of s.queue.needs t u ≡ true))

-- The names of a thread's group are each object that a member has claimed, once, and no other; and there are some.
abbrev pub GroupsNameTheirs : Type 0
GroupsNameTheirs = (s : Scene) (es : List Entry) (t set : ℕ) → t < 64 → AgreesAt s es → IsGroupOf s.queue.needs t set
    → HasToSeal s t → NamesSet (group_names s set) es set

-- The seal of a group leaves as many objects fewer queued as it names.
abbrev pub SealsTakeQueues : Type 0
SealsTakeQueues = (t set : ℕ) (s s' : Scene) (es : List Entry) (ms ms' : List Monitor) → AgreesAt s es
    → Event t (step.Sealed set) s s' es ms ms'
    → total s'.queue.queues + length (group_names s set) ≡ total s.queue.queues
