-- Each event of a machine keeps what a stop may leave: it is one or a few events of the stop theorem.
use Rattle.std.specs.Prelude.{◌≡◌, ℕ, false, List, []}
use Rattle.line_memory.specs.Moments.{CountsFrom}
use Rattle.stop_theorem.specs.Starts.{Starts}
use Rattle.twin_forms.specs.Table.{Entry}
use Rattle.machine_forms.specs.Machines.{Opening, Machine, first_of, memory_of, layout_in, waits_in}
use Rattle.machine_forms.specs.Keeping.{KeepsHeap, KeepsStops}
use Rattle.machine_forms.specs.Happening.{OfEvents}

-- where the heap is kept
abbrev pub EventsKeepStops : Type 0
EventsKeepStops = OfEvents (λ o m es m' es'. KeepsHeap o m' es' → KeepsStops o m' es')

-- ---- the start

-- A machine without acts, whose threads owe nothing, over an image that was opened.
abbrev pub StartsKeepStops : Type 0
StartsKeepStops = (o : Opening) (m : Machine) (es : List Entry) → m.acts ≡ [] → memory_of m ≡ o.start
    → ((t : ℕ) → waits_in m t ≡ false)
    → Starts (first_of o) (layout_in o es) o.start → CountsFrom o.begin o.start → KeepsStops o m es
