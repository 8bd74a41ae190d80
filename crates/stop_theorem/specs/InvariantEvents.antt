-- What events do that make no store durable, as the layers below tell it.
use Rattle.std.specs.Prelude.{◌≡◌, ◌⊎◌, ◌≢◌, ◌<◌, ◌≤◌, ℕ, true, List}
use Rattle.ap_base.specs.declared.place.Place.{Place}
use Rattle.graph_model.specs.Heaps.{has_number}
use Rattle.line_memory.specs.Memory.{Memory, shown, ReadsWord, Narrows, SameImage}
use Rattle.image_layout.specs.Places.{first_object_line}
use Rattle.image_meaning.specs.Corresponds.{Corresponds}
use Rattle.run_history.specs.declared.act.Op.{Op}
use Rattle.run_history.specs.Knowing.{Knowledge, next_known}
use Rattle.stop_theorem.specs.Layouts.{Layout, Lies, place_line, place_word, is_kept_place}

-- what is known after an act of thread t
abbrev pub known_by : Knowledge → ℕ → ℕ → Op → List ℕ → Knowledge
known_by known t at o named =
    next_known known (record { act = record { thread = t; at = at; op = o }; named = named })

-- A call of the image, made or failed: a line write, a read or a fence. No word shows another value, and a
-- stop leaves no more than before.
pub record Calls (old new : Memory) : Type 0 where
  pub size : new.size ≡ old.size
  pub shows : (l w : ℕ) → l < old.size → shown new l w ≡ shown old l w
  pub leaves : Narrows old new
  pub reads : (l w v : ℕ) → l < old.size → ReadsWord new.image.trace l w v
      → ReadsWord old.image.trace l w v ⊎ (v ≡ shown old l w)

-- One word shows another value, and there is no call.
pub record Puts (line word x : ℕ) (old new : Memory) : Type 0 where
  pub size : new.size ≡ old.size
  pub same : SameImage old new
  pub here : shown new line word ≡ x
  pub others : (l w : ℕ) → (l ≡ line → w ≢ word) → shown new l w ≡ shown old l w

-- The word says nothing of a durable thing: it lies outside the logs, the superblock, the directory and the
-- root slots, is no head of a durable object and of no durable place. Such are the words of unsealed copies
-- and of free lines.
pub record IsFreeWord (known : Knowledge) (lay : Layout) (line word : ℕ) : Type 0 where
  pub low : first_object_line ≤ line
  pub no_head : (n : ℕ) → has_number known.durable n ≡ true → line ≡ lay.line_of n → word ≢ 0
  pub no_place : (p : Place) → is_kept_place known p ≡ true → line ≡ place_line lay known.world.heap p
      → word ≢ place_word known.world.heap p

-- the line of a durable place
abbrev pub line_at : Layout → Knowledge → Place → ℕ
line_at lay known p = place_line lay known.world.heap p

-- and its word
abbrev pub word_at : Knowledge → Place → ℕ
word_at known p = place_word known.world.heap p

-- the memory shows the plain heap where durable objects lie
abbrev pub ShowsKnown : Layout → Knowledge → Memory → Type 0
ShowsKnown lay known m = Corresponds (Lies lay known) lay.directory lay.size (shown m) known.world.heap
