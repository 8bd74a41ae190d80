-- What threads that convert objects have claimed, how far each has come, and which of them may be sealed.
use Rattle.std.specs.Prelude.{◌≡◌, ℕ, ◌<◌, true, List, [], slice_index_or, sum_by, length}
use Rattle.convert_queue.specs.declared.phase.Phase.{Phase}
use Rattle.convert_queue.specs.declared.phase.Phase.TheVariants.{Copy, Flush}
use Rattle.convert_queue.specs.Marks.{Mark, IsClean}
use Rattle.convert_queue.specs.Threads.{has, IsGroupOf}

-- an object that was claimed and isn't sealed, and the first line of its copy
abbrev pub Queued : Type 0
Queued = ℕ × ℕ

-- queues: of each thread its queued objects, in the order in which they were put.
-- places: of each thread how far its phase has come, an object of its queue and a line of that. phases: what it does.
-- needs: of each thread the set of those that it needs. marks: of each line of the image how it stands.
pub record Queues : Type 0 where
  pub queues : List (List Queued)
  pub places : List (ℕ × ℕ)
  pub phases : List Phase
  pub needs : List ℕ
  pub marks : List Mark

abbrev pub queue_in : List (List Queued) → ℕ → List Queued
queue_in queues t = slice_index_or queues t []

abbrev pub queue_of : Queues → ℕ → List Queued
queue_of q t = queue_in q.queues t

abbrev pub place_of : Queues → ℕ → ℕ × ℕ
place_of q t = slice_index_or q.places t (0, 0)

abbrev pub phase_of : Queues → ℕ → Phase
phase_of q t = slice_index_or q.phases t Copy

-- how many objects are queued in all
abbrev pub total : List (List Queued) → ℕ
total queues = sum_by (λ (queue : List Queued). length queue) queues

-- copied, forwarded and repaired, and each line written after its last store, and fenced
pub record IsSettled (q : Queues) (t : ℕ) : Type 0 where
  pub phase : phase_of q t ≡ Flush
  pub clean : IsClean q.marks t

-- the members of the set are settled
abbrev pub AllSettled : Queues → ℕ → Type 0
AllSettled q set = (u : ℕ) → u < 64 → has set u ≡ true → IsSettled q u

-- a member of the group of t that isn't settled, the least one
pub record IsLeastUnsettled (q : Queues) (t u : ℕ) : Type 0 where
  pub set : ℕ
  pub group : IsGroupOf q.needs t set
  pub member : has set u ≡ true
  pub unsettled : IsSettled q u → ⊥
  pub least : (w : ℕ) → w < u → has set w ≡ true → IsSettled q w
