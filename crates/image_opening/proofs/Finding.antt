-- What was found in an image that was recovered.
use Rattle.std.proofs.Common.{◌≡◌, ℕ, ◌+◌, ◌<◌, ◌≤◌, ◌/◌, false, List, [], ◌∷◌, None, max, length, slice_index_or, refl, sym}
use Rattle.std.proofs.Common.{ap, ◌∙◌, subst, arith, inr, ⊎_elim, suc, ◌^◌}
use Rattle.std.proofs.lemmas.Bool.{cases_lt, le-leb, lt-leb, le-ltb}
use Rattle.graph_model.specs.declared.types.Graph.{Graph}
use Rattle.graph_model.specs.declared.types.Shape.{Shape}
use Rattle.line_memory.specs.Memory.{Memory, shown}
use Rattle.image_layout.specs.Places.{min_lines, max_lines, directory_words, first_object_line, lines_of, directory_line}
use Rattle.image_layout.specs.Places.{directory_word, log_head_line, slot_line, root_slots}
use Rattle.image_meaning.specs.Checks.{Words}
use Rattle.image_meaning.specs.Corresponds.{Corresponds}
use Rattle.image_meaning.specs.Directories.{Directory, no_entries}
use Rattle.image_meaning.specs.Laws.{Opens}
use Rattle.image_meaning.specs.Logs.{is_log_line, logs_fault, may_be_logged, put_back}
use Rattle.image_meaning.specs.Meaning.{graph_found}
use Rattle.image_meaning.specs.Objects.{length_at}
use Rattle.image_meaning.specs.Opening.{found_at, free_line}
use Rattle.image_meaning.specs.Recovering.{IsRecovering}
use Rattle.image_meaning.proofs.Directories.{directory-same}
use Rattle.image_meaning.proofs.FoundImage.{corresponds-found, directory-few}
use Rattle.image_meaning.proofs.Logs.{not_log_after, not_log_before}
use Rattle.image_meaning.proofs.Recovering.{line_still, logs_still, while_emptying}
use Rattle.image_meaning.proofs.Standing.{use-within}
use Rattle.image_meaning.proofs.Stopped.{logs_pass}
use Rattle.directories.specs.Formatting.{IsFormatted}
use Rattle.directories.specs.Kept.{Kept}
use Rattle.directories.specs.declared.stepping.Progress.TheVariants as stage
use Rattle.directories.proofs.Formatted.{formatted_opens}
use Rattle.directories.proofs.GraphHeaps.{heap_holds, heap_of}
use Rattle.image_recovery.specs.Putting.{IsRecovered, within}
use Rattle.image_recovery.specs.Recovered.{FindsImage, FindsNothing, entries_in}
use Rattle.image_recovery.proofs.Stops.{inside, behind}

-- ---- the first line behind all objects

pub same_free : (c d : Words) (lines : List ℕ)
    → ((n : ℕ) → n < length lines → d (slice_index_or lines n 0) 0 ≡ c (slice_index_or lines n 0) 0)
    → free_line d lines ≡ free_line c lines
same_free c d [] same = refl
same_free c d (line ∷ lines) same =
    let first : length_at d line ≡ length_at c line = ap (λ w. w / 2 ^ 32) (same 0 (omega arith)) in
    let rest = same_free c d lines (λ n below. same (suc n) (omega (arith, below))) in
    ap (λ n. max (line + lines_of n) (free_line d lines)) first
    ∙ ap (λ n. max (line + lines_of (length_at c line)) n) rest

-- What is found in a memory: it opens with this directory, of which no entry is planned.
pub record IsFoundNow (m : Memory) (directory : Kept) (lines : List ℕ) (free : ℕ) : Type 0 where
  pub opens : Opens m.size (shown m) (entries_in directory)
  pub unplanned : directory.left ≡ []
  pub begins : directory.progress ≡ stage.Words 0
  pub used : directory.used ≡ shown m 0 3
  pub free_is : free ≡ free_line (shown m) lines

-- ---- an image that wasn't blank

module _ (before m : Memory) (enough : min_lines ≤ before.size) (most : before.size ≤ max_lines)
    (size : m.size ≡ before.size)
    (directory : Kept) (graph : Graph) (lines : List ℕ) (free undone : ℕ)
    (found : FindsImage before.size (shown before) directory graph lines free undone)
    (done : IsRecovered before m)
  where
    abbrev c : Words
    c = shown before

    abbrev d : Words
    d = within before.size (shown m) (put_back c)

    passes : logs_fault before.size c ≡ None
    passes = found.finds.opens.logs

    recovering : IsRecovering c d
    recovering =
        while_emptying before.size c (logs_pass before.size c passes) d
        (λ l w outside. ⊎_elim
        (λ (below : l < before.size). inside before.size (shown m) (put_back c) l w below
        ∙ done.words l w below outside)
        (λ (past : before.size ≤ l). behind before.size (shown m) (put_back c) l w past)
        (cases_lt l before.size))
        (λ t there. inr (inside before.size (shown m) (put_back c)
        (log_head_line t) 0 (omega (arith, enough, there)) ∙ done.empty t there))

    -- words that no log names are as they were
    same_word : (l w : ℕ) → l < before.size → is_log_line l ≡ false → may_be_logged before.size l ≡ false
        → shown m l w ≡ c l w
    same_word l w below outside unnamed =
        sym (inside before.size (shown m) (put_back c) l w below)
        ∙ line_still before.size c (logs_pass before.size c passes) d recovering l w outside unnamed

    first_word : (w : ℕ) → shown m 0 w ≡ c 0 w
    first_word w = same_word 0 w (omega (arith, enough)) refl refl

    directory_named : (i : ℕ) → i < directory_words → may_be_logged before.size (directory_line i) ≡ false
    directory_named i h =
        rw (
          le-ltb (directory_line i) (slot_line root_slots) (omega arith),
          lt-leb first_object_line (directory_line i) (omega (arith, h)),
          le-leb (slot_line 0) (directory_line i) (omega arith),
        ) refl

    directory_same : (i : ℕ) → i < c 0 3 → shown m (directory_line i)
        (directory_word i) ≡ c (directory_line i) (directory_word i)
    directory_same i below =
        let room : c 0 3 ≤ directory_words =
        use-within before.size (c 0) found.finds.opens.used found.finds.opens.super in
        same_word (directory_line i) (directory_word i) (omega (arith, below, room, enough))
        (not_log_before (directory_line i) (omega (arith, below, room)))
        (directory_named i (omega (arith, below, room)))

    opens_now : Opens before.size (shown m) (entries_in directory)
    opens_now = record {
      super = rw (first_word 0, first_word 1, first_word 2, first_word 3) found.finds.opens.super;
      used = rw (first_word 0) found.finds.opens.used;
      entries = directory-same c (shown m) (first_word 3) directory_same ∙ found.finds.opens.entries;
      logs = logs_still before.size c (logs_pass before.size c passes) (shown m)
          (λ t there. inr (done.empty t there));
    }

    heads : (n : ℕ) → n < length lines → shown m (slice_index_or lines n 0) 0 ≡ put_back c (slice_index_or lines n 0) 0
    heads n below =
        let few = directory-few c (entries_in directory) found.finds.opens.entries in
        let graph_of : Graph = graph_found (entries_in directory) (put_back c) lines in
        let k : Corresponds (found_at lines) (entries_in directory) before.size (put_back c) (heap_of graph_of) =
        corresponds-found before.size (put_back c) (entries_in directory) lines few found.finds.roots found.finds.walk
        (heap_of graph_of) (heap_holds graph_of) in
        let o = k.objects (slice_index_or lines n 0) n (below, refl) in
        done.words (slice_index_or lines n 0) 0 (omega (arith, o.high))
        (not_log_after (slice_index_or lines n 0) o.low)

    pub used_found : IsFoundNow m directory lines free
    used_found = record {
      opens = subst (λ n. Opens n (shown m) (entries_in directory)) (sym size) opens_now;
      unplanned = found.unplanned;
      begins = found.begins;
      used = found.used ∙ sym (first_word 3);
      free_is = found.free_is ∙ sym (same_free (put_back c) (shown m) lines heads);
    }

-- ---- a blank one

module _ (before m : Memory) (enough : min_lines ≤ before.size) (most : before.size ≤ max_lines)
    (size : m.size ≡ before.size)
    (directory : Kept) (graph : Graph) (lines : List ℕ) (free undone : ℕ)
    (found : FindsNothing directory graph lines free undone) (formatted : IsFormatted before.size (shown m))
  where
    the_entries : List Shape → List (List ℕ) → Directory
    the_entries shapes roots = record { shapes = shapes; roots = roots }

    pub none_found : entries_in directory ≡ no_entries
    unfolding the_entries
    none_found = ap (λ ss. the_entries ss directory.roots) found.shapes ∙ ap (the_entries []) found.roots

    pub blank_found : IsFoundNow m directory lines free
    blank_found = record {
      opens = subst (λ n. Opens n (shown m) (entries_in directory)) (sym size)
          (subst (Opens before.size (shown m)) (sym none_found)
          (formatted_opens before.size (shown m) enough most formatted));
      unplanned = found.unplanned;
      begins = found.begins;
      used = found.used ∙ sym formatted.used;
      free_is = found.free_is ∙ ap (free_line (shown m)) (sym found.lines_are);
    }
