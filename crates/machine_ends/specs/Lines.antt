-- Which lines of the image the objects of a run take.
use Rattle.std.specs.Prelude.{◌≡◌, ℕ, ◌+◌, ◌-◌, ltb, Bool, List, length, filter, sum_by}
use Rattle.std.specs.List.{range_with_len}
use Rattle.run_types.specs.declared.fault.RunFault.{RunFault}
use Rattle.run_types.specs.declared.fault.Which.TheVariants as which
use Rattle.plain_model.specs.Ends.{FillsImage, full}
use Rattle.twin_forms.specs.Table.{Entry, entry, lines_of}
use Rattle.machine_laws.specs.Passed.{Opening, Machine, known_in, wants_in, memory_of}

-- it lies in lines of the image, or its copy is begun there
abbrev pub has_lines : Entry → Bool
has_lines e = ltb 0 e.stage

-- how many objects the opened image had
abbrev pub nodes_of : Opening → ℕ
nodes_of o = length o.launch.opening.nodes

-- The objects of the run that have lines, claimed or durable, in the order of their numbers. Those of the
-- opened image are none of them.
abbrev pub taken_by : Opening → List Entry → List ℕ
taken_by o es = filter (λ n. has_lines (entry es n)) (range_with_len (nodes_of o) (length es - nodes_of o))

-- how many lines they have
abbrev pub lines_taken : Opening → List Entry → ℕ
lines_taken o es = sum_by (λ n. lines_of (entry es n)) (taken_by o es)

-- Line `first` was the first free one when the run began. From there on its objects took lines, one behind
-- another.
abbrev pub TakesLines : Opening → ℕ → Machine → List Entry → Type 0
TakesLines o first m es = m.free ≡ first + lines_taken o es

-- how many lines the image has for the objects of the run
abbrev pub lines_from : Machine → ℕ → ℕ
lines_from m first = (memory_of m).size - first

-- the fault of a run that needs so many lines for an object, where so many are left
abbrev pub lines_fault : ℕ → ℕ → RunFault
lines_fault need left = full which.ImageLines need left

-- Thread t is refused so many lines, where so many are left: by the acts, that fills the image.
abbrev pub IsRefused : Opening → Machine → ℕ → ℕ → ℕ → ℕ → Type 0
IsRefused o m first t need left =
    FillsImage o.launch.opening (lines_from m first) (known_in o m) (wants_in o m) t (lines_fault need left)
