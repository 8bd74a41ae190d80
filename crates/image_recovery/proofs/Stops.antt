-- What stops within a recovery of the logs leave.
use Rattle.std.proofs.Common.{◌≡◌, inl, inr, ⊎_elim, ◌<◌, ◌≤◌, ◌+◌, ℕ, true, None, refl, sym, ◌∙◌, ap, arith}
use Rattle.std.proofs.lemmas.Bool.{cases_lt, lt-ltb, le-ltb, true≢false}
use Rattle.line_image.specs.Trace.{Outcome}
use Rattle.line_memory.specs.Memory.{Memory, shown}
use Rattle.image_layout.specs.Places.{min_lines, logs, log_entries, log_head_line, log_entry_line, log_entry_word}
use Rattle.image_meaning.specs.Checks.{Words}
use Rattle.image_meaning.specs.Logs.{logs_fault, is_log_line, put_back}
use Rattle.image_meaning.proofs.Logs.{not_log_after}
use Rattle.image_meaning.proofs.Recovering.{while_putting, while_emptying}
use Rattle.image_meaning.proofs.Stopped.{logs_pass}
use Rattle.word_changes.specs.Changes.{OldOrGiven}
use Rattle.image_recovery.specs.Putting.{IsPutBack, IsCleared, AllDurable, PutsBack, within, IsRecoveringIn}
use Rattle.image_recovery.proofs.PutSteps.{head_in, entry_in, counted_few, said, same_logged}

-- a line of the image, and one behind it
pub inside : (size : ℕ) (d e : Words) (l w : ℕ) → l < size → within size d e l w ≡ d l w
inside size d e l w below = rw (lt-ltb l size below) refl

pub behind : (size : ℕ) (d e : Words) (l w : ℕ) → size ≤ l → within size d e l w ≡ e l w
behind size d e l w past = rw (le-ltb l size past) refl

-- a line of the logs is one of the image
log_within : (size l : ℕ) → min_lines ≤ size → is_log_line l ≡ true → l < size
log_within size l enough is = ⊎_elim
    (λ (below : l < size). below)
    (λ (past : size ≤ l). absurd (true≢false (sym is ∙ not_log_after l (omega (arith, enough, past)))))
    (cases_lt l size)

module _ (old : Memory) (enough : min_lines ≤ old.size) (pass : logs_fault old.size (shown old) ≡ None) where
  -- while words are put back
  pub putting_stop : AllDurable old → (d : Outcome) → OldOrGiven (IsPutBack (shown old)) old d → IsRecoveringIn old.size (shown old) d
  putting_stop durable d all =
      let c = shown old in
      let size = old.size in
      while_putting size c (logs_pass size c pass) (within size d (put_back c))
      (λ l w is.
      let below = log_within size l enough is in
      inside size d (put_back c) l w below
      ∙ ⊎_elim (λ was. durable l w below (d l w) was) (λ given. absurd (true≢false (sym is ∙ given.0))) (all l w))
      (λ l w outside. ⊎_elim
      (λ (below : l < size). ⊎_elim
      (λ was. inl (inside size d (put_back c) l w below ∙ durable l w below (d l w) was))
      (λ given. inr (inside size d (put_back c) l w below ∙ said c l w (d l w) outside given.1))
      (all l w))
      (λ (past : size ≤ l). inr (behind size d (put_back c) l w past))
      (cases_lt l size))

  -- while the logs are emptied
  pub emptying_stop : (mid : Memory) → PutsBack old mid → AllDurable mid → (d : Outcome) → OldOrGiven IsCleared mid d
      → IsRecoveringIn old.size (shown old) d
  emptying_stop mid back durable d all =
      let c = shown old in
      let size = old.size in
      let passes = logs_pass size c pass in
      let of_mid : (l w : ℕ) → l < size → ((t : ℕ) → t < logs → l ≡ log_head_line t → w ≡ 0 → ⊥) → d l w ≡ shown mid l w =
      λ l w below other. ⊎_elim
      (λ was. durable l w (omega (arith, below, back.size)) (d l w) was)
      (λ given. absurd (other given.0 given.1 given.2.0 given.2.1))
      (all l w) in
      while_emptying size c passes (within size d (put_back c))
      (λ l w outside. ⊎_elim
      (λ (below : l < size). inside size d (put_back c) l w below
      ∙ of_mid l w below (λ t there at word. true≢false (sym (head_in t there) ∙ ap is_log_line (sym at) ∙ outside))
      ∙ back.words l w below outside)
      (λ (past : size ≤ l). behind size d (put_back c) l w past)
      (cases_lt l size))
      (λ t there.
      let head : log_head_line t < size = omega (arith, enough, there) in
      ⊎_elim
      (λ was. inl record {
        count = inside size d (put_back c) (log_head_line t) 0 head
            ∙ durable (log_head_line t) 0 (omega (arith, head, back.size)) (d (log_head_line t) 0) was
            ∙ back.logs (log_head_line t) 0 head (head_in t there);
        entries = λ n below.
            let few : n < log_entries = omega (arith, below, counted_few size c t pass there) in
            let entry : log_entry_line t n < size = omega (arith, enough, there, few) in
            let word : (w : ℕ) → within size d (put_back c) (log_entry_line t n) w ≡ c (log_entry_line t n) w =
            λ w. inside size d (put_back c) (log_entry_line t n) w entry
            ∙ of_mid (log_entry_line t n) w entry (λ s under at zero. absurd (omega (arith, at, few, under, there)))
            ∙ back.logs (log_entry_line t n) w entry (entry_in t n there few) in
            same_logged (within size d (put_back c) (log_entry_line t n) (log_entry_word n)) (c (log_entry_line t n) (log_entry_word n))
            (within size d (put_back c) (log_entry_line t n) (log_entry_word n + 1)) (c (log_entry_line t n) (log_entry_word n + 1))
            (word (log_entry_word n)) (word (log_entry_word n + 1));
      })
      (λ given. inr (inside size d (put_back c) (log_head_line t) 0 head ∙ given.2.2))
      (all (log_head_line t) 0))
