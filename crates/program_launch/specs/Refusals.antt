-- Why a run can't begin.
use Rattle.run_types.specs.declared.fault.Full.{Full}
use Rattle.one_space.specs.declared.failing.NoFirstHeap.{NoFirstHeap}
use Rattle.one_space.specs.declared.failing.NoFirstHeap.TheVariants as no_heap
use Rattle.program_launch.specs.declared.refusals.NoLaunch.{NoLaunch}
use Rattle.program_launch.specs.declared.refusals.NoLaunch.TheVariants as refusal

abbrev pub IfFull : NoLaunch → (Full → Type 0) → Type 0
IfFull (refusal.Full answer) P = P answer
IfFull refusal.OutOfMemory P = Unit {0}

abbrev pub refusal_of : NoFirstHeap → NoLaunch
refusal_of (no_heap.Full answer) = refusal.Full answer
refusal_of no_heap.OutOfMemory = refusal.OutOfMemory
