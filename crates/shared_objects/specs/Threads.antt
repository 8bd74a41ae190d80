-- The threads of a run, by their numbers.
use Rattle.std.specs.Prelude.{ℕ, zero, suc, ◌-◌, Bool, true, false, nat_eq, List, [], ◌∷◌, Option, Some, None, if◌then◌else◌}
use Rattle.ap_base.specs.Causes.{next_count}
use Rattle.run_types.specs.declared.fault.Full.{Full}
use Rattle.run_types.specs.declared.fault.Which.TheVariants as which
use Rattle.shared_objects.specs.declared.threads.ThreadState.{ThreadState}

-- a thread that has just begun
abbrev pub new_state : Option ℕ → ThreadState
new_state object = record { object = object; depth = 0; ended = false; uncaught = None }

abbrev pub is_of_object : ℕ → Option ℕ → Bool
is_of_object n None = false
is_of_object n (Some m) = nat_eq m n

-- the thread of this Thread object, if it was started: its number, and its state, where the first of these
-- threads has the number t
abbrev pub started_from : ℕ → List ThreadState → ℕ → Option (ℕ × ThreadState)
started_from t [] n = None
started_from t (s ∷ ss) n = if is_of_object n s.object then Some (t, s) else started_from (suc t) ss n

-- how deep the region of a thread is
abbrev pub depth_at : List ThreadState → ℕ → ℕ
depth_at [] t = 0
depth_at (s ∷ ss) zero = s.depth
depth_at (s ∷ ss) (suc t) = depth_at ss t

-- one level deeper, in a count of 64 bits that stays at its highest value
abbrev pub deepened : ThreadState → ThreadState
deepened s = record { object = s.object; depth = next_count s.depth; ended = s.ended; uncaught = s.uncaught }

abbrev pub raised : ThreadState → ThreadState
raised s = record { object = s.object; depth = s.depth - 1; ended = s.ended; uncaught = s.uncaught }

abbrev pub ended : Option ℕ → ThreadState → ThreadState
ended uncaught s = record { object = s.object; depth = s.depth; ended = true; uncaught = uncaught }

abbrev pub at_state : (ThreadState → ThreadState) → List ThreadState → ℕ → List ThreadState
at_state f [] t = []
at_state f (s ∷ ss) zero = f s ∷ ss
at_state f (s ∷ ss) (suc t) = s ∷ at_state f ss t

abbrev pub ThreadsFull : Full
ThreadsFull = record { which = which.Threads; need = 1; left = 0 }
