-- A group of objects that becomes durable, as the layers below tell it.
use Rattle.stop_theorem.specs.InvariantEvents.{known_by}
use Rattle.std.specs.Prelude.{◌≡◌, ℕ, true, false, List}
use Rattle.ap_base.specs.declared.place.Place.{Place}
use Rattle.graph_model.specs.Heaps.{has_number}
use Rattle.line_memory.specs.Memory.{Memory, shown, IsDurable}
use Rattle.image_meaning.specs.Corresponds.{Corresponds}
use Rattle.run_history.specs.declared.act.Op.TheVariants as op
use Rattle.run_history.specs.Knowing.{Knowledge}
use Rattle.stop_theorem.specs.Layouts.{Layout, Lies, place_line, place_word, is_kept_place}

-- and after one that makes these objects durable
abbrev pub joined : Knowledge → ℕ → ℕ → List ℕ → Knowledge
joined known t at named = known_by known t at op.Joined named

-- The act of thread t that makes these objects durable. What the memory shows of them, at their lines,
-- corresponds to the plain heap, so that they lie
-- apart from all that was durable and refer to durable objects alone; and each of their words is durable.
pub record Joins (known : Knowledge) (lay new : Layout) (m : Memory) (t at : ℕ) (named : List ℕ)
    : Type 0 where
  pub size : new.size ≡ lay.size
  pub directory : new.directory ≡ lay.directory
  pub lines : (n : ℕ) → has_number known.durable n ≡ true → new.line_of n ≡ lay.line_of n
  pub same_heads : (n : ℕ) → has_number known.durable n ≡ true → new.head n ≡ lay.head n
  pub shows : Corresponds (Lies new (joined known t at named)) new.directory new.size (shown m)
      (joined known t at named).world.heap
  pub heads : (n : ℕ) → has_number (joined known t at named).durable n ≡ true
      → shown m (new.line_of n) 0 ≡ new.head n
  pub durable_heads : (n : ℕ) → has_number (joined known t at named).durable n ≡ true
      → has_number known.durable n ≡ false → IsDurable m (new.line_of n) 0
  pub durable_words : (p : Place) → is_kept_place (joined known t at named) p ≡ true
      → is_kept_place known p ≡ false
      → IsDurable m (place_line new known.world.heap p) (place_word known.world.heap p)
