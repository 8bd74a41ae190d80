-- The machine with which a run over an opened image begins keeps its run, and runs as the plain machine does.
use Rattle.std.specs.Prelude.{List, ℕ, [], ◌∷◌}
use Rattle.run_forms.specs.Views.{ThreadFrames}
use Rattle.twin_forms.specs.Table.{Entry}
use Rattle.machine_laws.specs.Passed.{Opening, Machine, first_of}
use Rattle.machine_laws.specs.Passed.{KeepsHeap, KeepsWorld, KeepsAsked, KeepsStops, KeepsRun, HasSlotsOfRoots}
use Rattle.machine_laws.specs.Frames.{RunsAsPlain}
use Rattle.launch_laws.specs.First.{IsFirstMachine, BeginsMain}

-- of every first machine
abbrev pub OfFirst : (Opening → Machine → List Entry → Type 0) → Type 0
OfFirst P = (o : Opening) (lines : List ℕ) (m : Machine) (es : List Entry) → IsFirstMachine o lines m es
    → P o m es

-- Each durable root lies in its root slot. Each root's static is there, and no two have the same one.
abbrev pub RootsLieInTheirSlots : Type 0
RootsLieInTheirSlots = OfFirst (λ o m es. HasSlotsOfRoots (first_of o).world.heap m.spaces)

abbrev pub FirstMachinesKeepAsked : Type 0
FirstMachinesKeepAsked = OfFirst KeepsAsked

abbrev pub FirstMachinesKeepStops : Type 0
FirstMachinesKeepStops = OfFirst KeepsStops

abbrev pub FirstMachinesKeepHeaps : Type 0
FirstMachinesKeepHeaps = OfFirst KeepsHeap

abbrev pub FirstMachinesKeepWorlds : Type 0
FirstMachinesKeepWorlds = OfFirst (λ o m es. KeepsWorld o m)

abbrev pub FirstMachinesKeepRuns : Type 0
FirstMachinesKeepRuns = OfFirst KeepsRun

-- The empty list of acts is a plain run, whose frames are those of thread 0 before `main`.
abbrev pub FirstMachinesRunAsPlain : Type 0
FirstMachinesRunAsPlain = OfFirst (λ o m es. (frames : ThreadFrames) → BeginsMain o m frames
    → RunsAsPlain o m (frames ∷ []))
