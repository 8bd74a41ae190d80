-- The directory of an image while it is recovered.
use Rattle.std.proofs.Common.{◌≡◌, ⊎_elim, inl, inr, ℕ, ◌+◌, ◌<◌, ◌≤◌, ◌∙◌, sym, subst, arith}
use Rattle.line_image.specs.Trace.{Outcome}
use Rattle.line_memory.specs.Memory.{Memory, shown}
use Rattle.image_layout.specs.Places.{directory_line, directory_word, directory_words, log_entries, log_entry_line, log_entry_word}
use Rattle.image_layout.specs.Places.{log_head_line, max_lines, min_lines}
use Rattle.image_meaning.specs.Checks.{Words}
use Rattle.image_meaning.specs.Directories.{Directory, no_entries}
use Rattle.image_meaning.specs.Laws.{Opens}
use Rattle.image_meaning.specs.Logs.{put_back}
use Rattle.image_meaning.proofs.Opened.{opens-same}
use Rattle.image_meaning.proofs.Standing.{use-within}
use Rattle.image_meaning.proofs.Stopped.{opens-still}
use Rattle.word_changes.specs.Changes.{Nothing, StopsLeave}
use Rattle.word_changes.proofs.Changing.{changes_stops, stops_then, stops_weaker}
use Rattle.directories.specs.Formatting.{IsBlankOrFormatted, IsFormatted}
use Rattle.directories.proofs.Formatted.{formatted_opens}
use Rattle.image_walk.specs.Walking.{Looks}
use Rattle.image_recovery.specs.Putting.{AllDurable, IsRecoveringIn, within}
use Rattle.image_recovery.specs.Recoveries.{HasDirectory}
use Rattle.image_recovery.proofs.PutSteps.{counted_few, same_logged}
use Rattle.image_recovery.proofs.Stops.{inside}

-- ---- the words of its lines tell an image's directory

pub opens_by_lines : (size : ℕ) (c d : Words) (directory : Directory) → min_lines ≤ size → Opens size c directory
    → ((l w : ℕ) → l < size → d l w ≡ c l w) → Opens size d directory
opens_by_lines size c d directory enough opens same =
    let in_use : c 0 3 ≤ directory_words = use-within size (c 0) opens.used opens.super in
    opens-same size c d directory opens
    (record {
      super = λ word h. same 0 word (omega (arith, enough));
      directory = λ i h. same (directory_line i) (directory_word i) (omega (arith, enough, h, in_use));
    })
    (record {
      counts = λ t h. same (log_head_line t) 0 (omega (arith, enough, h));
      entries = λ t n h below.
          let few : n < log_entries = (let count = counted_few size c t opens.logs h in omega (arith, below, count)) in
          let entry : log_entry_line t n < size = omega (arith, enough, h, few) in
          same_logged (d (log_entry_line t n) (log_entry_word n)) (c (log_entry_line t n) (log_entry_word n))
          (d (log_entry_line t n) (log_entry_word n + 1)) (c (log_entry_line t n) (log_entry_word n + 1))
          (same (log_entry_line t n) (log_entry_word n) entry) (same (log_entry_line t n) (log_entry_word n + 1) entry);
    })

pub has_by_lines : (size : ℕ) (c d : Words) (directory : Directory) → min_lines ≤ size → HasDirectory size c directory
    → ((l w : ℕ) → l < size → d l w ≡ c l w) → HasDirectory size d directory
has_by_lines size c d directory enough has same = ⊎_elim
    (λ (blank : (c 0 0 ≡ 0) × (directory ≡ no_entries)). inl (same 0 0 (omega (arith, enough)) ∙ blank.0, blank.1))
    (λ (opens : Opens size c directory). inr (opens_by_lines size c d directory enough opens same))
    has

-- ---- what stops leave

module _ (first seen : Memory) (enough : min_lines ≤ first.size) (durable : AllDurable first) (looks : Looks first seen)
    (directory : Directory) (has : HasDirectory first.size (shown first) directory) where
  abbrev Has : Outcome → Type 0
  Has c = HasDirectory first.size c directory

  -- of a memory that is only looked at
  pub looking_keeps : StopsLeave first seen Has
  looking_keeps =
      changes_stops Nothing first seen Has looks.changes
      (λ c all. has_by_lines first.size (shown first) c directory enough has
      (λ l w below. ⊎_elim (λ was. durable l w below (c l w) was) (λ none. absurd none) (all l w)))

  -- while a blank image is formatted
  pub formatting_keeps : (new : Memory) → first.size ≤ max_lines → directory ≡ no_entries
      → StopsLeave seen new (IsBlankOrFormatted first.size) → StopsLeave first new Has
  formatting_keeps new most none formats =
      stops_then first seen new Has looking_keeps
      (stops_weaker seen new (IsBlankOrFormatted first.size) Has formats
      (λ c either. ⊎_elim
      (λ (blank : c 0 0 ≡ 0). inl (blank, none))
      (λ (formatted : IsFormatted first.size c). inr
      (subst (λ (d : Directory). Opens first.size c d) (sym none) (formatted_opens first.size c enough most formatted)))
      either))

-- while one in use is recovered
pub recovering_keeps : (first new : Memory) → min_lines ≤ first.size → (directory : Directory)
    → Opens first.size (shown first) directory → StopsLeave first new (IsRecoveringIn first.size (shown first))
    → StopsLeave first new (λ c. HasDirectory first.size c directory)
recovering_keeps first new enough directory opens recovering =
    let size = first.size in
    let c = shown first in
    stops_weaker first new (IsRecoveringIn size c) (λ d. HasDirectory size d directory) recovering
    (λ d so. inr (opens_by_lines size (within size d (put_back c)) d directory enough
    (opens-still size c (within size d (put_back c)) directory opens so)
    (λ l w below. sym (inside size d (put_back c) l w below))))
