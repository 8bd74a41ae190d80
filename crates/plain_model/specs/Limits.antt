-- The limits of a run, and what is left of each: words of volatile memory, acts, lines of the image, places in a
-- region's log, monitors, threads. What is left of a thread's frame slots is for the code to tell.
use Rattle.std.specs.Prelude.{ℕ, ◌+◌, ◌-◌, ◌/◌, ◌≤◌, max, nat_eq, nat_le, List, length, drop, filter, sum_by, Option, Some}
use Rattle.std.specs.Prelude.{None}
use Rattle.run_types.specs.declared.limits.Limits.{Limits}
use Rattle.graph_model.specs.declared.types.Obj.{Obj}
use Rattle.graph_model.specs.declared.types.Heap.{Heap}
use Rattle.graph_model.specs.declared.types.Graph.{Graph}
use Rattle.graph_model.specs.Heaps.{values_of, fresh_values, shape_at}
use Rattle.run_history.specs.declared.act.Op.{Op}
use Rattle.run_history.specs.declared.act.Op.TheVariants as op
use Rattle.run_history.specs.declared.plain.Monitor.{Monitor}
use Rattle.run_history.specs.Worlds.{Thread}
use Rattle.run_history.specs.Knowing.{Knowledge, Guard}
use Rattle.plain_model.specs.Facts.{SetFacts}
use Rattle.plain_model.specs.First.{first_heap}

abbrev pub most_threads : ℕ
most_threads = 64

-- how many slots the frames of one thread may take
abbrev pub most_frame_slots : ℕ
most_frame_slots = 65536

-- how many places a region may guard
abbrev pub most_log_entries : ℕ
most_log_entries = 1024

-- how many monitors may be held
abbrev pub most_monitors : ℕ
most_monitors = 4096

-- A volatile object takes three words and one for each slot.
abbrev pub words_of : Obj → ℕ
words_of object = 3 + length object.values

-- the words of the objects that were made in volatile memory: all but the nodes of the opening graph
abbrev pub words_taken : Graph → Heap → ℕ
words_taken opening heap = sum_by words_of (drop (length opening.nodes) heap.objects)

-- the words of the object that an operation makes
abbrev pub words_made : Heap → Op → Option ℕ
words_made heap (op.Alloc n shape count) = Some (3 + length (fresh_values (shape_at heap shape) count))
words_made heap (op.Throw n class) = Some (3 + length (fresh_values (shape_at heap class) 0))
words_made heap o = None

abbrev pub words_left : Limits → Graph → Heap → ℕ
words_left limits opening heap = limits.heap_words - words_taken opening heap

abbrev pub acts_left : Limits → Knowledge → ℕ
acts_left limits known = limits.acts - length known.marks

-- an object takes a head word and a word for each slot, in whole lines of eight words
abbrev pub object_lines : Heap → ℕ → ℕ
object_lines heap n = (length (values_of heap n) + 8) / 8

abbrev pub lines_left : ℕ → Heap → List ℕ → ℕ
lines_left lines heap claimed = lines - sum_by (object_lines heap) claimed

abbrev pub guards_of : List Guard → ℕ → List Guard
guards_of guards t = filter (λ g. nat_eq g.thread t) guards

abbrev pub log_entries_left : List Guard → ℕ → ℕ
log_entries_left guards t = most_log_entries - length (guards_of guards t)

abbrev pub monitors_left : List Monitor → ℕ
monitors_left monitors = most_monitors - length monitors

abbrev pub threads_left : List Thread → ℕ
threads_left threads = most_threads - length threads

-- the objects that became durable in the run
abbrev pub joined_of : Graph → Knowledge → List ℕ
joined_of opening known = filter (λ n. nat_le (length opening.nodes) n) known.durable

-- No more is taken than there is: of volatile memory, beyond what the first heap takes, and of all else. `lines` are those
-- that the image has for objects, from the first free one on.
pub record KeepsWithin (set : SetFacts) (opening : Graph) (limits : Limits) (lines : ℕ) (known : Knowledge) : Type 0 where
  pub words : words_taken opening known.world.heap ≤ max limits.heap_words (words_taken opening (first_heap set opening))
  pub image : sum_by (object_lines known.world.heap) (joined_of opening known) ≤ lines
  pub acts : length known.marks ≤ limits.acts
  pub log_entries : (t : ℕ) → length (guards_of known.guards t) ≤ most_log_entries
  pub monitors : length known.world.monitors ≤ most_monitors
  pub threads : length known.world.threads ≤ most_threads
