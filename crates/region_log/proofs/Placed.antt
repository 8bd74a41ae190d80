-- What a log is once words of its own were stored.
use Rattle.std.proofs.Common.{◌≡◌, ◌≢◌, ◌⊎◌, inl, inr, ⊎_elim, ◌<◌, ◌+◌, ℕ, List, [], ◌∷◌, ◌++◌, length, true, false, sym, ◌∙◌}
use Rattle.std.proofs.Common.{ap, subst, arith}
use Rattle.std.proofs.lemmas.List.{length_push}
use Rattle.std.specs.Prelude.{nat_lt, if◌then◌else◌}
use Rattle.image_layout.specs.Places.{log_entries, log_head_line, log_entry_line, log_entry_word}
use Rattle.image_meaning.specs.Logs.{Logged}
use Rattle.line_memory.specs.Memory.{Memory, CanLeave}
use Rattle.region_log.specs.declared.entry.Entry.{Entry}
use Rattle.region_log.specs.declared.entry.EntryStage.{EntryStage}
use Rattle.region_log.specs.declared.entry.EntryStage.TheVariants.{Begun, Written, Fenced, Counting, Counted}
use Rattle.region_log.specs.declared.entry.EndStage.{EndStage}
use Rattle.region_log.specs.declared.entry.EndStage.TheVariants.{Writing, AllFenced, Clearing, Cleared}
use Rattle.region_log.specs.Kept.{HasEntry, HasEntries, IsWhole, IsCounting, IsClearing, HoldsAdding, HoldsEnding}
use Rattle.region_log.specs.Log.{logged_of}
use Rattle.region_log.specs.Made.{Word, Puts, PutsAll, Fences, IsOfLog, AreOfLog}
use Rattle.region_log.specs.Stages.{next_stage, failed_stage, words_at, HasMade, next_end, failed_end, words_to_end, HasEnded}
use Rattle.region_log.proofs.Frames.{put-leaves, put-here, put-only, head_of_log, entry_of_log}
use Rattle.region_log.proofs.Left.{entries-append}

-- ---- stores to some words

pub puts-image : (words : List Word) (old placed : Memory) → PutsAll words old placed
    → placed.image ≡ old.image
puts-image [] old placed is = ap (λ (m : Memory). m.image) is
puts-image (word ∷ words) old placed puts = puts-image words puts.0 placed puts.2 ∙ puts.1.same.image

pub puts-size : (words : List Word) (old placed : Memory) → PutsAll words old placed → placed.size ≡ old.size
puts-size [] old placed is = ap (λ (m : Memory). m.size) is
puts-size (word ∷ words) old placed puts = puts-size words puts.0 placed puts.2 ∙ puts.1.size

pub puts-elsewhere : (t : ℕ) (words : List Word) (old placed : Memory) → AreOfLog t words
    → PutsAll words old placed
    → (l w v : ℕ) → (IsOfLog t l → ⊥) → CanLeave placed l w v → CanLeave old l w v
puts-elsewhere t [] old placed of_log is l w v elsewhere left = subst (λ (m : Memory). CanLeave m l w v) is
    left
puts-elsewhere t (word ∷ words) old placed of_log puts l w v elsewhere left =
    put-leaves word old puts.0 puts.1 l w v
    (λ same. absurd (elsewhere (subst (IsOfLog t) (sym same) of_log.0)))
    (puts-elsewhere t words puts.0 placed of_log.1 puts.2 l w v elsewhere left)

pub words_of_log : (t n : ℕ) (e : Entry) (stage : EntryStage) → n < log_entries
    → AreOfLog t (words_at t n e stage)
words_of_log t n e Begun room = (entry_of_log t n room, (entry_of_log t n room, tt))
words_of_log t n e Written room = tt
words_of_log t n e Fenced room = (head_of_log t, tt)
words_of_log t n e Counting room = (head_of_log t, tt)
words_of_log t n e Counted room = tt

pub end_words_of_log : (t : ℕ) (stage : EndStage) → AreOfLog t (words_to_end t stage)
end_words_of_log t (Writing lines) = tt
end_words_of_log t AllFenced = (head_of_log t, tt)
end_words_of_log t Clearing = (head_of_log t, tt)
end_words_of_log t Cleared = tt

-- ---- one store beside entries

-- neither word of entry k is this one
record Apart (t k : ℕ) (word : Word) : Type 0 where
  place : log_entry_line t k ≡ word.line → log_entry_word k ≢ word.word
  old : log_entry_line t k ≡ word.line → log_entry_word k + 1 ≢ word.word

module _ (t : ℕ) (word : Word) (old new : Memory) (put : Puts word old new) where
  put-entry : (k : ℕ) (e : Logged) → Apart t k word → HasEntry old t k e → HasEntry new t k e
  put-entry k e apart has = record {
    place = put-only word old new put (log_entry_line t k) (log_entry_word k) e.place apart.place has.place;
    old = put-only word old new put (log_entry_line t k) (log_entry_word k + 1) e.old apart.old has.old;
  }

  put-entries : (n : ℕ) (entries : List Entry) → ((k : ℕ) → k < n + length entries → Apart t k word)
      → HasEntries old t n entries → HasEntries new t n entries
  put-entries n [] apart has = tt
  put-entries n (e ∷ entries) apart has = (
    put-entry n (logged_of e) (apart n (omega arith)) has.0,
    put-entries (n + 1) entries (λ k below. apart k (omega (arith, below))) has.1,
  )

  put-whole : (entries : List Entry) → (log_head_line t ≡ word.line → 0 ≢ word.word)
      → ((k : ℕ) → k < length entries → Apart t k word) → IsWhole old t entries → IsWhole new t entries
  put-whole entries head apart whole = record {
    count = put-only word old new put (log_head_line t) 0 (length entries) head whole.count;
    each = put-entries 0 entries (λ k below. apart k (omega (arith, below))) whole.each;
  }

apart_head : (t k n : ℕ) → Apart t k (record { line = log_head_line t; word = 0; value = n })
apart_head t k n = record {
  place = λ same. absurd (omega (arith, same));
  old = λ same. absurd
      (omega (arith, same));
}

-- entry k stands before entry n
apart_place : (t k n v : ℕ) → k < n
    → Apart t k (record { line = log_entry_line t n; word = log_entry_word n; value = v })
apart_place t k n v below = record {
  place = λ line word. omega (arith, below, line, word);
  old = λ line word. omega (arith, below, line, word);
}

apart_old : (t k n v : ℕ) → k < n
    → Apart t k (record { line = log_entry_line t n; word = log_entry_word n + 1; value = v })
apart_old t k n v below = record {
  place = λ line word. omega (arith, below, line, word);
  old = λ line word. omega (arith, below, line, word);
}

-- ---- the count is stored

module _ (t n : ℕ) (old new : Memory) (put : Puts (record { line = log_head_line t; word = 0; value = n })
    old new) (entries : List Entry) where
  count_entries : HasEntries old t 0 entries → HasEntries new t 0 entries
  count_entries has = put-entries t (record { line = log_head_line t; word = 0; value = n }) old new put 0
      entries (λ k below. apart_head t k n) has

  count_entry : (k : ℕ) (e : Logged) → HasEntry old t k e → HasEntry new t k e
  count_entry k e has = put-entry t (record { line = log_head_line t; word = 0; value = n }) old new put k e
      (apart_head t k n) has

  count_here : (v : ℕ) → CanLeave new (log_head_line t) 0 v → CanLeave old (log_head_line t) 0 v ⊎ (v ≡ n)
  count_here v left = put-here (record { line = log_head_line t; word = 0; value = n }) old new put v left

module _ (t : ℕ) (entries : List Entry) (old placed : Memory) where
  raised : (e : Entry) → Puts (record { line = log_head_line t; word = 0; value = length entries + 1 }) old
      placed
      → IsCounting old t entries e → IsCounting placed t entries e
  raised e put is = record {
    count = λ v left. ⊎_elim (λ before. is.count v before) (λ new. inr new)
        (count_here t (length entries + 1) old placed put entries v left);
    raised = inl put.here;
    each = count_entries t (length entries + 1) old placed put entries is.each;
    entry = count_entry t (length entries + 1) old placed put entries (length entries) (logged_of e) is.entry;
  }

  lowered : Puts (record { line = log_head_line t; word = 0; value = 0 }) old placed
      → IsClearing old t entries → IsClearing placed t entries
  lowered put is = record {
    count = λ v left. ⊎_elim (λ before. is.count v before) (λ new. inr new)
        (count_here t 0 old placed put entries v left);
    lowered = inl put.here;
    each = count_entries t 0 old placed put entries is.each;
  }

-- a log of whole entries is one whose count may be raised, or lowered
to_counting : (m : Memory) (t : ℕ) (entries : List Entry) (e : Entry) → IsWhole m t entries
    → HasEntry m t (length entries) (logged_of e) → IsCounting m t entries e
to_counting m t entries e whole entry = record {
  count = λ v left. inl (whole.count v left);
  raised = inr whole.count;
  each = whole.each;
  entry = entry;
}

to_clearing : (m : Memory) (t : ℕ) (entries : List Entry) → IsWhole m t entries → IsClearing m t entries
to_clearing m t entries whole = record {
  count = λ v left. inl (whole.count v left);
  lowered = inr whole.count;
  each = whole.each;
}

-- ---- an entry is added

module _ (t : ℕ) (entries : List Entry) (e : Entry) where
  pub fails-adding : (m : Memory) (stage : EntryStage) → HoldsAdding m t entries e stage
      → HoldsAdding m t entries e (failed_stage stage)
  fails-adding m Begun is = is
  fails-adding m Written is = is
  fails-adding m Fenced is = to_counting m t entries e is.0 is.1
  fails-adding m Counting is = is
  fails-adding m Counted is = is

  -- once a stage's words are stored
  pub placed-adding : (old placed : Memory) (stage : EntryStage) → HoldsAdding old t entries e stage
      → PutsAll (words_at t (length entries) e stage) old placed
      → HoldsAdding placed t entries e (failed_stage stage)
  placed-adding old placed Begun is puts =
      let n = length entries in
      let one : IsWhole puts.0 t entries = put-whole t
      (record { line = log_entry_line t n; word = log_entry_word n; value = (logged_of e).place })
      old puts.0 puts.1 entries (λ same. absurd (omega (arith, same)))
      (λ k below. apart_place t k n (logged_of e).place below) is in
      let two : IsWhole puts.2.0 t entries = put-whole t
      (record { line = log_entry_line t n; word = log_entry_word n + 1; value = e.old })
      puts.0 puts.2.0 puts.2.1 entries (λ same. absurd (omega (arith, same)))
      (λ k below. apart_old t k n e.old below) one in
      subst (λ (m : Memory). IsWhole m t entries) (sym puts.2.2) two
  placed-adding old placed Written is puts = subst (λ (m : Memory). HoldsAdding m t entries e Written)
      (sym puts) is
  placed-adding old placed Fenced is puts =
      subst (λ (m : Memory). IsCounting m t entries e) (sym puts.2)
      (raised t entries old puts.0 e puts.1 (to_counting old t entries e is.0 is.1))
  placed-adding old placed Counting is puts =
      subst (λ (m : Memory). IsCounting m t entries e) (sym puts.2) (raised t entries old puts.0 e puts.1 is)
  placed-adding old placed Counted is puts = subst (λ (m : Memory). HoldsAdding m t entries e Counted)
      (sym puts) is

  -- once a stage's call was made
  pub made-adding : (old new : Memory) (stage : EntryStage) → HoldsAdding old t entries e stage
      → HoldsAdding new t entries e (failed_stage stage)
      → HasMade t (length entries) e stage old new → HoldsAdding new t entries e (next_stage stage)
  made-adding old new Begun was is made = (is, made)
  made-adding old new Written was is made = (
    is.0,
    record {
      place = λ v left. made.durable (log_entry_line t (length entries)) (log_entry_word (length entries))
          was.1.place_written v left ∙ is.1.place;
      old = λ v left. made.durable (log_entry_line t (length entries)) (log_entry_word (length entries) + 1)
          was.1.old_written v left ∙ is.1.old;
    },
  )
  made-adding old new Fenced was is made = (is, made)
  made-adding old new Counting was is made = (is, made)
  made-adding old new Counted was is made = is

  -- once the count is durable
  pub made-last : (old new : Memory) → HoldsAdding old t entries e Counted
      → HoldsAdding new t entries e Counted → Fences old new
      → IsWhole new t (entries ++ e ∷ [])
  made-last old new was is made = record {
    count = λ v left. made.durable (log_head_line t) 0 was.1.written v left ∙ is.1.shows
        ∙ sym (length_push entries e);
    each = entries-append new t 0 entries e is.0.each
        (subst (λ (k : ℕ). HasEntry new t k (logged_of e)) (omega arith) is.0.entry);
  }

-- ---- a region is ended

module _ (t : ℕ) (entries : List Entry) where
  pub fails-ending : (m : Memory) (stage : EndStage) → HoldsEnding m t entries stage
      → HoldsEnding m t entries (failed_end stage)
  fails-ending m (Writing lines) is = is
  fails-ending m AllFenced is = to_clearing m t entries is
  fails-ending m Clearing is = is
  fails-ending m Cleared is = is

  pub placed-ending : (old placed : Memory) (stage : EndStage) → HoldsEnding old t entries stage
      → PutsAll (words_to_end t stage) old placed → HoldsEnding placed t entries (failed_end stage)
  placed-ending old placed (Writing lines) is puts = subst (λ (m : Memory). IsWhole m t entries) (sym puts) is
  placed-ending old placed AllFenced is puts =
      subst (λ (m : Memory). IsClearing m t entries) (sym puts.2)
      (lowered t entries old puts.0 puts.1 (to_clearing old t entries is))
  placed-ending old placed Clearing is puts =
      subst (λ (m : Memory). IsClearing m t entries) (sym puts.2) (lowered t entries old puts.0 puts.1 is)
  placed-ending old placed Cleared is puts = subst (λ (m : Memory). HoldsEnding m t entries Cleared)
      (sym puts) is

  pub made-ending : (old new : Memory) (stage : EndStage) → HoldsEnding new t entries (failed_end stage)
      → HasEnded t entries stage old new → HoldsEnding new t entries (next_end (length entries) stage)
  made-ending old new (Writing lines) is made = elim (nat_lt lines (length entries)) as
      (λ b. HoldsEnding new t entries (if b then Writing (lines + 1) else AllFenced)) [
        | true ↦ is
        | false ↦ is
      ]
  made-ending old new AllFenced is made = (is, made)
  made-ending old new Clearing is made = (is, made)
  made-ending old new Cleared is made = is

  pub ended-last : (old new : Memory) → HoldsEnding old t entries Cleared
      → HoldsEnding new t entries Cleared → Fences old new → IsWhole new t []
  ended-last old new was is made = record {
    count = λ v left. made.durable (log_head_line t) 0 was.1.written v left ∙ is.1.shows;
    each = tt;
  }
