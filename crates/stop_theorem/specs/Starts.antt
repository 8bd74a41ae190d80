-- The start of a run.
use Rattle.image_layout.specs.Places.{logs, root_slots, slot_line, slot_word, directory_line, directory_word, log_head_line}
use Rattle.stop_theorem.specs.InvariantEvents.{line_at, word_at}
use Rattle.ap_base.specs.declared.place.Place.{Place}
use Rattle.stop_theorem.specs.Layouts.{is_kept_place}
use Rattle.std.specs.Prelude.{◌≡◌, ◌<◌, ◌≤◌, ℕ, true, []}
use Rattle.graph_model.specs.Heaps.{has_number}
use Rattle.line_memory.specs.Memory.{Memory, shown, IsDurable}
use Rattle.image_meaning.specs.Logs.{NoneLogged}
use Rattle.image_meaning.specs.Laws.{Opens}
use Rattle.run_history.specs.Knowing.{Knowledge}
use Rattle.stop_theorem.specs.Layouts.{Layout, HasRootSlots}
use Rattle.stop_theorem.specs.InvariantEvents.{ShowsKnown}

-- A run starts: the image was opened, with nothing logged, each word durable that says something of
-- what is durable, and the memory shows the first heap.
pub record Starts (known : Knowledge) (lay : Layout) (m : Memory) : Type 0 where
  pub no_marks : known.marks ≡ []
  pub size : m.size ≡ lay.size
  pub big : 32768 ≤ m.size
  pub roots : HasRootSlots known.world.heap
  pub shows : ShowsKnown lay known m
  pub heads : (n : ℕ) → has_number known.durable n ≡ true → shown m (lay.line_of n) 0 ≡ lay.head n
  pub opens : Opens lay.size (shown m) lay.directory
  pub unlogged : NoneLogged (shown m)
  pub super : (w : ℕ) → w < 4 → IsDurable m 0 w
  pub entries : (i : ℕ) → i < shown m 0 3 → IsDurable m (directory_line i) (directory_word i)
  pub counts : (t : ℕ) → t < logs → IsDurable m (log_head_line t) 0
  pub slots : (r : ℕ) → r < root_slots → IsDurable m (slot_line r) (slot_word r)
  pub durable_heads : (n : ℕ) → has_number known.durable n ≡ true → IsDurable m (lay.line_of n) 0
  pub durable_places : (p : Place) → is_kept_place known p ≡ true
      → IsDurable m (line_at lay known p) (word_at known p)
