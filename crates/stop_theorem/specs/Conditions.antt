-- What each kind of event needs, of its own thread, word or log, as the layers below tell it.
use Rattle.std.specs.Prelude.{◌≡◌, ◌≢◌, ◌<◌, ℕ, suc, true, false, Some, None}
use Rattle.ap_base.specs.declared.place.Place.{Place}
use Rattle.graph_model.specs.declared.types.Value.{Value}
use Rattle.graph_model.specs.Heaps.{has_number}
use Rattle.line_image.specs.Trace.{Outcome}
use Rattle.line_memory.specs.Memory.{Memory, shown, CanLeaveAll, IsWritten, IsDurable}
use Rattle.image_layout.specs.Places.{logs, log_entries, log_head_line}
use Rattle.image_meaning.specs.Logs.{log_count, logged_at, is_log_line, SameLogs, log_of, old_word}
use Rattle.image_meaning.specs.Corresponds.{Holds}
use Rattle.run_history.specs.declared.act.Op.{Op}
use Rattle.run_history.specs.Knowing.{Knowledge, Open, guard_of, has_guards, fate_of, with_sure, is_outermost, owes_fence}
use Rattle.run_history.specs.Knowing.{unfenced_at}
use Rattle.stop_theorem.specs.Choices.{Threads, stores_at}
use Rattle.stop_theorem.specs.Orderly.{KeepsRule}
use Rattle.stop_theorem.specs.Layouts.{Layout, Lies, KeepsPlaces, place_kind, is_kept_place}
use Rattle.stop_theorem.specs.Stops.{regions_of}
use Rattle.stop_theorem.specs.InvariantEvents.{Puts, line_at, word_at, ShowsKnown}
use Rattle.stop_theorem.specs.RegionLaws.{number_of}
use Rattle.run_history.specs.Laws.{IsSingleStore}

-- so at each stop now
abbrev pub AtEachStop : Memory → (Outcome → Type 0) → Type 0
AtEachStop m P = (c : Outcome) → CanLeaveAll m c → P c

-- An act that is sure, stores at no durable place and leaves these where they were; the memory shows what is
-- known then.
pub record IsSureAct (known next : Knowledge) (lay : Layout) (m : Memory) (t : ℕ) (o : Op) : Type 0 where
  pub rule : KeepsRule known t o
  pub places : KeepsPlaces known next
  pub marks : next.marks ≡ with_sure known.marks o
  pub guards : (p : Place) (u : ℕ) → guard_of known.guards p ≡ Some u → guard_of next.guards p ≡ Some u
  pub elsewhere : (p : Place) → is_kept_place known p ≡ true → stores_at p o ≡ false
  pub shows : ShowsKnown lay next m

-- The word of a durable place is stored to, and no other. It holds the value.
pub record StoresAt (known : Knowledge) (lay : Layout) (old new : Memory) (p : Place) (v : Value) (x : ℕ)
    : Type 0 where
  pub puts : Puts (line_at lay known p) (word_at known p) x old new
  pub inside : line_at lay known p < old.size
  pub is_kept : is_kept_place known p ≡ true
  pub holds : Holds (Lies lay known) (place_kind known.world.heap p) x v

-- The store is one outside regions, at a place that nobody guards, of a thread that owes no fence.
pub record IsSingleUnguarded (known : Knowledge) (waits : Threads) (t : ℕ) (p : Place) : Type 0 where
  pub single : IsSingleStore known t p
  pub unguarded : guard_of known.guards p ≡ None
  pub waits_not : waits t ≡ false

-- The line of the thread's store was written back since.
pub record IsWrittenBack (known : Knowledge) (lay : Layout) (m : Memory) (t : ℕ) (p : Place) : Type 0 where
  pub owes : unfenced_at known.unfenced t ≡ Some p
  pub inside : line_at lay known p < m.size
  pub written : IsWritten m (line_at lay known p) (word_at known p)

-- A word of a log is stored that no count covers: whatever a stop leaves, the logs say what they said.
pub record StoresUncounted (old new : Memory) (line word x : ℕ) : Type 0 where
  pub puts : Puts line word x old new
  pub inside : line < old.size
  pub log : is_log_line line ≡ true
  pub uncounted : (c d : Outcome) → CanLeaveAll old c → CanLeaveAll new d
      → ((l w : ℕ) → (l ≡ line → w ≢ word) → d l w ≡ c l w) → SameLogs c d

-- The count of the thread's log is raised over an entry of a place that its region has guarded. Each stop
-- counts the entries before it, which are of other places, and has the entry whole, with the word that is
-- shown.
pub record RaisesCount (known : Knowledge) (lay : Layout) (old new : Memory) (t n : ℕ) (p : Place)
    : Type 0 where
  pub log : t < logs
  pub room : n < log_entries
  pub puts : Puts (log_head_line t) 0 (suc n) old new
  pub inside : log_head_line t < old.size
  pub is_kept : is_kept_place known p ≡ true
  pub guard : guard_of known.guards p ≡ Some t
  pub not_closing : has_number known.closing t ≡ false
  pub in_image : line_at lay known p < lay.size
  pub counts : AtEachStop old (λ c. log_count c t ≡ n)
  pub unnamed : AtEachStop old (λ c. old_word (log_of c t) (line_at lay known p) (word_at known p) ≡ None)
  pub whole : AtEachStop old (λ c. logged_at c t n ≡ record {
    place = number_of (line_at lay known p) (word_at known p);
    old = shown old (line_at lay known p) (word_at known p);
  })

-- The store is one of the thread's open region, whose log names the place at each stop.
pub record IsInRegion (known : Knowledge) (lay : Layout) (m : Memory) (t : ℕ) (p : Place) : Type 0 where
  pub fate : fate_of known t p ≡ Open t
  pub guard : guard_of known.guards p ≡ Some t
  pub owes_none : owes_fence known.unfenced t ≡ false
  pub log : t < logs
  pub named : AtEachStop m (λ c. (o : ℕ)
      × (old_word (log_of c t) (line_at lay known p) (word_at known p) ≡ Some o))

-- The count of the log of a closing region is lowered to nothing, once all places that it has guarded are
-- durable.
pub record LowersCount (known : Knowledge) (lay : Layout) (old new : Memory) (t : ℕ) : Type 0 where
  pub log : t < logs
  pub puts : Puts (log_head_line t) 0 0 old new
  pub inside : log_head_line t < old.size
  pub closing : has_number known.closing t ≡ true
  pub durable : (p : Place) → is_kept_place known p ≡ true → guard_of known.guards p ≡ Some t
      → IsDurable old (line_at lay known p) (word_at known p)
  pub counts : AtEachStop old (λ c. regions_of c t ≡ false)

-- The outermost End of the thread's region: if it has guarded a place it is closing, and its log counts
-- nothing at any stop.
pub record EndsRegion (known : Knowledge) (m : Memory) (t : ℕ) : Type 0 where
  pub outermost : is_outermost known t ≡ true
  pub is_closing : has_guards known.guards t ≡ true → has_number known.closing t ≡ true
  pub empty : AtEachStop m (λ c. regions_of c t ≡ true)
