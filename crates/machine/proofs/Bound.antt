-- The work that events leave.
use Rattle.std.proofs.Common.{◌≡◌, ◌+◌, ◌*◌, ◌≤◌, [], ◌∷◌, ◌++◌, length, ◌∙◌, ap, arith}
use Rattle.std.proofs.lemmas.List.{length-append}
use Rattle.run_types.specs.declared.wait.On.{On}
use Rattle.run_history.specs.Recorded.{Recorded}
use Rattle.machine_threads.specs.Passed.{memory_of}
use Rattle.machine_threads.specs.Passed.{measure, work_left}
use Rattle.shared_heap.specs.Shared.{Shared}
use Rattle.machine.specs.declared.events.Event.{Event}
use Rattle.machine.specs.declared.events.Event.TheVariants.{Did, Micro, WouldWait, Over}
use Rattle.machine.specs.Events.{KeepsBound, acts_added, lines_taken}

module _ (old new : Shared) where
  -- A quiet step takes one.
  pub quiet-bound : work_left new.machine + 1 ≤ work_left old.machine + 16 * lines_taken old new
      → KeepsBound Micro old new
  quiet-bound less = omega (arith, less)

  -- A wait adds none.
  pub wait-bound : (on : On) → work_left new.machine ≤ work_left old.machine → KeepsBound (WouldWait on) old new
  wait-bound on less = omega (arith, less)

  -- An act adds 16 at most.
  pub act-bound : (result : Event) (act : Recorded) → new.history.acts ≡ old.history.acts ++ act ∷ []
      → work_left new.machine ≤ work_left old.machine + 16 → KeepsBound result old new
  act-bound result act acts more = by result
    where
      one : acts_added old new ≡ 1
      one = let long = ap length acts ∙ length-append old.history.acts (act ∷ []) in omega (arith, long)

      by : (result : Event) → KeepsBound result old new
      by (Did r) = omega (arith, one, more)
      by Micro = omega (arith, one, more)
      by (WouldWait on) = omega (arith, one, more)
      by (Over halt) = tt

-- where no line is taken the work goes with the measure
module _ (old new : Shared) (size : (memory_of new.machine).size ≡ (memory_of old.machine).size)
    (free : new.machine.free ≡ old.machine.free) where
  pub quiet-measured : measure new.machine + 1 ≤ measure old.machine → KeepsBound Micro old new
  quiet-measured less = quiet-bound old new (omega (arith, size, free, less))

  pub act-measured : (result : Event) (act : Recorded) → new.history.acts ≡ old.history.acts ++ act ∷ []
      → measure new.machine ≤ measure old.machine + 16 → KeepsBound result old new
  act-measured result act acts more = act-bound old new result act acts (omega (arith, size, free, more))

-- so it is of two other heaps between which as many acts and lines are, and no more work
pub bound-alike : (result : Event) (old new old' new' : Shared) → acts_added old' new' ≡ acts_added old new
    → lines_taken old' new' ≡ lines_taken old new → work_left old.machine ≤ work_left old'.machine
    → work_left new'.machine ≤ work_left new.machine → KeepsBound result old new → KeepsBound result old' new'
bound-alike (Did r) old new old' new' acts lines more less bound = omega (arith, acts, lines, more, less, bound)
bound-alike Micro old new old' new' acts lines more less bound = omega (arith, acts, lines, more, less, bound)
bound-alike (WouldWait on) old new old' new' acts lines more less bound = omega (arith, acts, lines, more, less, bound)
bound-alike (Over halt) old new old' new' acts lines more less bound = tt
