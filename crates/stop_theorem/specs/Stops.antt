-- What a stop may leave now.
use Rattle.std.specs.Prelude.{◌≡◌, ◌⊎◌, ◌≢◌, ◌==◌, ◌&&◌, nat_lt, ◌<◌, ◌≤◌, ℕ, Bool, true, List, length, Option, Some, None}
use Rattle.ap_base.specs.declared.place.Place.{Place}
use Rattle.graph_model.specs.declared.types.Value.{Value}
use Rattle.graph_model.specs.declared.types.Heap.{Heap}
use Rattle.graph_model.specs.declared.types.Graph.{Graph}
use Rattle.graph_model.specs.Heaps.{has_number}
use Rattle.line_image.specs.Trace.{Outcome}
use Rattle.line_memory.specs.Memory.{Memory, shown, ReadsWord, CanLeaveAll}
use Rattle.image_layout.specs.Places.{logs, root_slots}
use Rattle.image_meaning.specs.Directories.{Directory}
use Rattle.image_meaning.specs.Logs.{log_count, log_of, logs_below, old_word, put_back}
use Rattle.image_meaning.specs.Meaning.{root_word, StandsFor}
use Rattle.image_meaning.specs.Corresponds.{Holds, Corresponds}
use Rattle.image_meaning.specs.Laws.{Opens}
use Rattle.run_history.specs.Recorded.{Recorded}
use Rattle.run_history.specs.Knowing.{Knowledge, guard_of}
use Rattle.run_history.specs.Kept.{IsAllowedFrom}
use Rattle.stop_theorem.specs.Choices.{Threads, NoThread, EachThread, MayHave, AllKept}
use Rattle.stop_theorem.specs.Orderly.{IsOrderly}
use Rattle.stop_theorem.specs.Layouts.{Layout, Lies, HasRootSlots, place_line, place_word, place_kind, is_kept_place}

-- a closing region is kept exactly where its log counts no entry
abbrev pub regions_of : Outcome → ℕ → Bool
regions_of c t = nat_lt t logs && log_count c t == 0

-- what a counted entry says of the word
abbrev pub named_in : Outcome → ℕ → ℕ → Option ℕ
named_in c line word = old_word (logs_below c logs) line word

-- of a word that is put back all single stores are kept
abbrev pub keeps_of : Threads → Option ℕ → Threads
keeps_of Keeps None = Keeps
keeps_of Keeps (Some old) = EachThread

-- The place's word, once the logs are put back, holds a value that the place may have.
pub record PlaceIsCovered (first : Heap) (known : Knowledge) (lay : Layout) (Keeps : Threads) (c : Outcome)
    (p : Place) : Type 0 where
  pub value : Value
  pub holds : Holds (Lies lay known) (place_kind known.world.heap p)
      (put_back c (place_line lay known.world.heap p) (place_word known.world.heap p)) value
  pub has : MayHave first known.marks (regions_of c)
      (keeps_of Keeps (named_in c (place_line lay known.world.heap p) (place_word known.world.heap p)))
      p value

-- the word is that of a durable place which thread t's region has guarded, and hasn't ended
pub record IsGuardedWord (known : Knowledge) (lay : Layout) (t line word : ℕ) : Type 0 where
  pub place : Place
  pub is_kept : is_kept_place known place ≡ true
  pub line_is : line ≡ place_line lay known.world.heap place
  pub word_is : word ≡ place_word known.world.heap place
  pub guard : guard_of known.guards place ≡ Some t

-- These words are an image that opens. Its counted entries are of guarded places, what isn't named by them
-- was stored by no region that is to be undone, and each durable place has, once they are put back, a value
-- that it may have, with the single stores of these threads kept.
pub record IsCovered (first : Heap) (known : Knowledge) (lay : Layout) (Keeps : Threads) (c : Outcome)
    : Type 0 where
  pub opens : Opens lay.size c lay.directory
  pub heads : (n : ℕ) → has_number known.durable n ≡ true → put_back c (lay.line_of n) 0 ≡ lay.head n
  pub unused : (r : ℕ) → length known.world.heap.roots ≤ r → r < root_slots → root_word (put_back c) r ≡ 0
  pub named : (t line word old : ℕ) → t < logs → old_word (log_of c t) line word ≡ Some old
      → IsGuardedWord known lay t line word
  pub free : (p : Place) → is_kept_place known p ≡ true
      → named_in c (place_line lay known.world.heap p) (place_word known.world.heap p) ≡ None
      → AllKept (regions_of c) p known.marks
  pub places : (p : Place) → is_kept_place known p ≡ true → PlaceIsCovered first known lay Keeps c p

-- were a fence made now, a stop would leave of each word what a read gives or what is shown
abbrev pub IsAfterFence : Memory → Outcome → Type 0
IsAfterFence m c = (l w : ℕ) → l < m.size → (c l w ≡ shown m l w) ⊎ ReadsWord m.image.trace l w (c l w)

-- The memory shows the plain heap where durable objects lie, and what a stop may leave of it is covered by
-- what is known. Where a fence was made, it keeps the single stores of the threads that wait for it: each of
-- these has had its line written back since its store.
pub record Stands (first : Heap) (known : Knowledge) (lay : Layout) (Waits : Threads) (m : Memory)
    : Type 0 where
  pub orderly : IsOrderly first known
  pub size : m.size ≡ lay.size
  pub roots : HasRootSlots known.world.heap
  pub shows : Corresponds (Lies lay known) lay.directory lay.size (shown m) known.world.heap
  pub heads : (n : ℕ) → has_number known.durable n ≡ true → shown m (lay.line_of n) 0 ≡ lay.head n
  pub apart : (p q : Place) → is_kept_place known p ≡ true → is_kept_place known q ≡ true
      → place_line lay known.world.heap p ≡ place_line lay known.world.heap q
      → place_word known.world.heap p ≡ place_word known.world.heap q
      → p ≡ q
  pub no_heads : (p : Place) (n : ℕ) → is_kept_place known p ≡ true → has_number known.durable n ≡ true
      → place_line lay known.world.heap p ≡ lay.line_of n → place_word known.world.heap p ≢ 0
  pub leaves : (c : Outcome) → CanLeaveAll m c → IsCovered first known lay NoThread c
  pub fenced : (c : Outcome) → CanLeaveAll m c → IsAfterFence m c → IsCovered first known lay Waits c

-- The image opens with this directory, is well formed, and stands for a graph that the acts allow.
pub record IsAllowedImage (first : Knowledge) (size : ℕ) (directory : Directory) (acts : List Recorded) (c : Outcome)
    : Type 0 where
  pub opens : Opens size c directory
  pub graph : Graph
  pub stands : StandsFor size c graph
  pub allowed : IsAllowedFrom first acts graph
