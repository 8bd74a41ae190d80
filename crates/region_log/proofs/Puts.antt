-- What stores to the words of an entry show.
use Rattle.std.proofs.Common.{◌≡◌, ◌≢◌, ◌+◌, ℕ, inl, refl, ◌∙◌, arith}
use Rattle.image_layout.specs.Places.{log_entry_line, log_entry_word}
use Rattle.image_meaning.specs.Logs.{Logged}
use Rattle.line_memory.specs.Memory.{Memory, shown, IsResident, IsWritten, SameImage, SameResident}
use Rattle.line_memory.specs.Moments.{KeepsShown}
use Rattle.region_log.specs.Kept.{IsEntryWritten}
use Rattle.region_log.specs.Made.{entry_words, Puts, PutsThenCalls}

-- a store, as its contract says it
module _ (old new : Memory) (size : new.size ≡ old.size) (same : SameImage old new) where
  pub puts : (line word value : ℕ) → shown new line word ≡ value → ((l w : ℕ) → (l ≡ line → w ≢ word)
      → shown new l w ≡ shown old l w)
      → Puts (record { line = line; word = word; value = value }) old new
  puts line word value here others = record { size = size; same = same; here = here; others = others }

-- the two words of an entry, whose line and words the code computes
module _ (old ready one two new : Memory) (t n line word : ℕ) (e : Logged)
    (is_line : line ≡ log_entry_line t n) (is_word : word ≡ log_entry_word n)
    (is_ready : ready ≡ old) (first : Puts (record { line = line; word = word; value = e.place }) ready one)
    (second : Puts (record { line = line; word = word + 1; value = e.old }) one two)
    (calls : KeepsShown two new) where
  pub puts_entry : PutsThenCalls (entry_words t n e) old new
  puts_entry = record {
    placed = two;
    puts = (one, rw (is_line, is_word, is_ready) at first, (two, rw (is_line, is_word) at second, refl));
    calls = calls;
  }

  pub writes_entry : IsResident old line → SameResident ready one → SameResident one two
      → SameResident two new
      → ((w : ℕ) → IsWritten new line w) → IsEntryWritten new t n e
  writes_entry resident on_one on_two on_new written =
      let there_two : IsResident two line = on_two.kept line (on_one.kept line (rw (← is_ready) at resident))
      in
      let shows = λ (w : ℕ). calls.shows line w (inl there_two) (inl (on_new.kept line there_two)) in
      let place : shown new line word ≡ e.place = shows word ∙ second.others line word (λ _. omega arith)
      ∙ first.here in
      let old_word : shown new line (word + 1) ≡ e.old = shows (word + 1) ∙ second.here in
      let both : IsWritten new line word = written word in
      let next : IsWritten new line (word + 1) = written (word + 1) in
      record {
        place = rw (is_line, is_word) at place;
        old = rw (is_line, is_word) at old_word;
        place_written = rw (is_line, is_word) at both;
        old_written = rw (is_line, is_word) at next;
      }
