-- Empty queues: nothing is claimed.
use Rattle.std.proofs.Common.{◌≡◌, ℕ, zero, suc, [], replicate, refl, ap, ◌∙◌, slice_index_or}
use Rattle.convert_queue.specs.Queues.{Queues, queue_of}
use Rattle.first_spaces.specs.Laws.{first_queues}

pub all_alike : {X : Type 0} (x : X) (count n : ℕ) → slice_index_or (replicate count x) n x ≡ x
all_alike x zero n = refl
all_alike x (suc count) zero = refl
all_alike x (suc count) (suc n) = all_alike x count n

module _ (q : Queues) (lines : ℕ) (empty : q ≡ first_queues lines) where
  pub nothing_queued : (t : ℕ) → queue_of q t ≡ []
  nothing_queued t = ap (λ (x : Queues). queue_of x t) empty ∙ all_alike [] 64 t
