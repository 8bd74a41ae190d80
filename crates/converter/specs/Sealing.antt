-- How a group's objects are sealed, one after another.
use Rattle.std.specs.Prelude.{◌≡◌, ◌⊎◌, ℕ, ◌<◌, ◌^◌, true, List, length}
use Rattle.twin_forms.specs.Table.{Entry, entry, View, Lies, IsClaimed}
use Rattle.twin_forms.specs.Moves.{Moved}
use Rattle.convert_queue.specs.Queues.{Queues, queue_of}
use Rattle.convert_queue.specs.Threads.{has}
use Rattle.convert_words.specs.Agreeing.{Is, Queueing}
use Rattle.convert_words.specs.Sealing.{AreSealed}

-- Object n is one of those that the set's threads below u have claimed, or one of the first i that thread u has.
abbrev pub IsOfFirst : Queues → List Entry → ℕ → ℕ → ℕ → ℕ → Type 0
IsOfFirst q es set u i n = ((t : ℕ) × (t < u) × (has set t ≡ true) × IsClaimed es t n) ⊎ ((j : ℕ) × (j < i) × (has set u ≡ true) × Is q es u j n)

-- From a table by which all objects of the set are forwarded, these are sealed so far; nothing that is shown has changed.
pub record AreSealedTo (q : Queues) (v0 : View) (es0 : List Entry) (set u i : ℕ) (v : View) (es : List Entry) : Type 0 where
  pub lies : Lies v0 es0
  pub queued : Queueing q es0
  pub few : (t : ℕ) → length (queue_of q t) < 2 ^ 32
  pub forwarded : (t n : ℕ) → has set t ≡ true → IsClaimed es0 t n → (entry es0 n).stage ≡ 2
  pub moved : Moved v0 es0 v es
  pub sealed : AreSealed (IsOfFirst q es0 set u i) es0 es
