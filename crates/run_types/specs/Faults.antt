-- A fault that a step meets, as that of the run.
use Rattle.run_types.specs.declared.fault.RunFault.{RunFault}
use Rattle.run_types.specs.declared.fault.RunFault.TheVariants as fault
use Rattle.run_types.specs.declared.fault.StepFault.{StepFault}
use Rattle.run_types.specs.declared.fault.StepFault.TheVariants as met

-- the run's fault where a step meets this: all but that its threads are stuck
abbrev pub run_fault : StepFault → RunFault
run_fault (met.BadCode at) = fault.BadCode at
run_fault (met.RegionRace thread other place) = fault.RegionRace thread other place
run_fault (met.Full full) = fault.Full full
run_fault met.SinkFault = fault.SinkFault
run_fault met.ImageFault = fault.ImageFault
run_fault (met.LinkFault kind class index) = fault.LinkFault kind class index
