-- An image in memory, and which of its calls fail.
use Rattle.std.specs.Prelude.{◌⊎◌, ◌≤◌, ℕ, reverse, length, Contains, Some, refl}
use Rattle.line_image.specs.Trace.{Trace}
use Rattle.line_image.specs.Told.{Told, IsCounted}
use Rattle.line_image.specs.declared.memory.Fails.{Fails}
use Rattle.line_image.specs.declared.memory.MemoryImage.{MemoryImage}

-- its lines as they were first, and its writes and fences
abbrev pub trace_of : MemoryImage → Trace
trace_of image = record { first = image.first.items; done = reverse image.done.items }

abbrev pub size_of : MemoryImage → ℕ
size_of image = length image.first.items

abbrev pub calls_of : MemoryImage → ℕ
calls_of image = image.calls

abbrev pub faults_of : MemoryImage → ℕ
faults_of image = image.faults

abbrev pub fails_of : MemoryImage → Fails
fails_of image = image.fails

-- how many further writes and fences it has room for
abbrev pub room_of : MemoryImage → ℕ
room_of image = image.room

-- the call is listed, or no call from there on is answered
abbrev pub CallFails : Fails → ℕ → Type 0
CallFails fails call = Contains fails.calls.items call ⊎ (fails.since ≤ call)

abbrev pub told_of : MemoryImage → Told
told_of image = record { size = size_of image; calls = calls_of image; trace = Some (trace_of image) }

abbrev pub in_order_of : (image : MemoryImage) → IsCounted (told_of image)
in_order_of image = record { fits = image.fits; order = record { lines = refl; eights = image.eights; so_far = image.so_far } }
