-- By what an event ends its run.
use Rattle.std.specs.Prelude.{ℕ}
use Rattle.run_types.specs.declared.fault.RunFault.{RunFault}
use Rattle.run_types.specs.declared.fault.RunFault.TheVariants as fault
use Rattle.run_types.specs.declared.fault.StepFault.{StepFault}
use Rattle.run_types.specs.declared.fault.StepFault.TheVariants as met
use Rattle.run_types.specs.declared.fault.Which.{Which}
use Rattle.run_types.specs.Faults.{run_fault}
use Rattle.shared_heap.specs.Shared.{Shared}
use Rattle.machine.specs.declared.events.Halt.{Halt}
use Rattle.machine.specs.declared.events.Halt.TheVariants.{Met, Stuck}

-- the fault of the run: what the thread met, or what the threads wait for, as it is remembered
abbrev pub fault_of_halt : Shared → Halt → RunFault
fault_of_halt s (Met f) = run_fault f
fault_of_halt s Stuck = fault.Stuck s.notes.waits

-- more is needed than is left
abbrev pub lacks : Which → ℕ → ℕ → StepFault
lacks which need left = met.Full (record { which = which; need = need; left = left })
