-- What is so at every point of a run, of the parts of a machine.
use Rattle.std.proofs.Common.{◌≡◌, ◌⊎◌, ◌^◌, ◌<◌, ◌≤◌, List, sym, subst, arith}
use Rattle.line_memory.specs.Memory.{Memory, SameImage, OneCall}
use Rattle.line_memory.specs.Moments.{KeepsShown}
use Rattle.run_history.specs.Recorded.{Recorded}
use Rattle.stop_theorem.specs.Choices.{Threads}
use Rattle.stop_theorem.specs.Layouts.{Layout}
use Rattle.stop_theorem.specs.Running.{State, Event, Runs, Called, with_memory}
use Rattle.stop_theorem.proofs.Running.{keeps}
use Rattle.machine_forms.specs.Machines.{Opening, first_of}

abbrev pub state_with : List Recorded → Layout → Threads → Memory → State
state_with acts lay waits m = record { acts = acts; layout = lay; waits = waits; memory = m }

abbrev pub RunsAt : Opening → State → Type 0
RunsAt o s = Runs (first_of o) o.start.size o.directory o.begin o.start s

-- one event of the stop theorem
pub runs_on : (o : Opening) (old new : State) → 32768 ≤ o.start.size → Event (first_of o) old new
    → RunsAt o old → RunsAt o new
runs_on o old new long event runs =
    keeps (first_of o) o.start.size o.directory o.begin o.start old new (omega (arith, long)) event runs

-- the same parts, named otherwise
pub moved : (o : Opening) (a b : List Recorded) (k l : Layout) (v w : Threads) (m n : Memory) → b ≡ a → l ≡ k
    → w ≡ v → n ≡ m → RunsAt o (state_with a k v m) → RunsAt o (state_with b l w n)
moved o a b k l v w m n ab kl vw mn runs =
    subst (λ (z : List Recorded). RunsAt o (state_with z l w n)) (sym ab)
    (subst (λ (z : Layout). RunsAt o (state_with a z w n)) (sym kl)
    (subst (λ (z : Threads). RunsAt o (state_with a k z n)) (sym vw)
    (subst (λ (z : Memory). RunsAt o (state_with a k v z)) (sym mn) runs)))

-- a count of calls that goes up by one, or stays at its end
pub later_call : (old new : Memory) → old.calls < 2 ^ 64 → OneCall old new → old.calls ≤ new.calls
later_call old new few one = let e = one.calls in omega (arith, few, e)

-- a call of the image, made or failed
pub called : (o : Opening) (s : State) (new : Memory) → 32768 ≤ o.start.size → KeepsShown s.memory new
    → SameImage s.memory new ⊎ OneCall s.memory new → s.memory.calls ≤ new.calls → RunsAt o s
    → RunsAt o (with_memory s new)
called o s new long kept count later runs =
    runs_on o s (with_memory s new) long (Called s new kept count later) runs
