-- The order of checks and of putting back.
use Rattle.std.proofs.Common.{◌≡◌, ◌≢◌, ℕ, true, false, List, [], ◌∷◌, length, refl, ◌∙◌, if◌then◌else◌, Some, None, Ok, Err}
use Rattle.std.proofs.lemmas.Bool.{ne_eqb}
use Rattle.image_layout.specs.declared.superblock.BadReason.{BadReason}
use Rattle.image_layout.specs.Places.{logs, has_size, IsBlank, super_check}
use Rattle.image_meaning.specs.Checks.{Words, Bad}
use Rattle.image_meaning.specs.Directories.{Directory, directory_of}
use Rattle.image_meaning.specs.Logs.{Logged, logs_below, logs_fault, is_place, old_word, or_else, is_log_line, put_back}
use Rattle.image_meaning.specs.Logs.{put_each}
use Rattle.image_meaning.specs.Meaning.{roots_fault, root_values_of, walk, graph_from, empty_graph, meaning, StandsFor}
use Rattle.image_meaning.specs.Laws.{Opens, ChecksComeInOrder}

-- ---- putting back

looked_up : (entries : List Logged) (words : Words) (line word : ℕ)
    → or_else (old_word entries line word) (words line word) ≡ put_each entries words line word
looked_up [] words line word = refl
looked_up (e ∷ entries) words line word =
    elim (is_place e.place line word) as (λ b. or_else (if b then Some e.old else old_word entries line word) (words line word)
    ≡ (if b then e.old else put_each entries words line word)) [ true ↦ refl | false ↦ looked_up entries words line word ]

pub put_back-each : (words : Words) (line word : ℕ) → is_log_line line ≡ false
    → put_back words line word ≡ put_each (logs_below words logs) words line word
unfolding put_back
put_back-each words line word outside = rw outside (looked_up (logs_below words logs) words line word)

-- ---- checks

super-bad : (size : ℕ) (words : Words) (reason : BadReason) → super_check (words 0) size ≡ Some reason
    → meaning size words ≡ Err (0, reason)
unfolding meaning
super-bad size words reason h = rw h refl

pub blank-stands : (size : ℕ) (words : Words) → IsBlank (words 0) size → StandsFor size words empty_graph
unfolding meaning
blank-stands size words blank =
    let sized : has_size size ≡ true = blank.0 in rw (sized, blank.1) refl

directory-bad : (size : ℕ) (words : Words) (bad : Bad) → super_check (words 0) size ≡ None → words 0 0 ≢ 0
    → directory_of words ≡ Err bad → meaning size words ≡ Err bad
unfolding meaning
directory-bad size words bad super used h = rw (super, ne_eqb (words 0 0) 0 used, h) refl

logs-bad : (size : ℕ) (words : Words) (directory : Directory) (bad : Bad) → super_check (words 0) size ≡ None → words 0 0 ≢ 0
    → directory_of words ≡ Ok directory → logs_fault size words ≡ Some bad → meaning size words ≡ Err bad
unfolding meaning
logs-bad size words directory bad super used entries h = rw (super, ne_eqb (words 0 0) 0 used, entries, h) refl

opened : (size : ℕ) (words : Words) (directory : Directory) → Opens size words directory
    → meaning size words ≡ graph_from size directory (put_back words)
unfolding meaning
opened size words directory opens = rw (opens.super, ne_eqb (words 0 0) 0 opens.used, opens.entries, opens.logs) refl

roots-bad : (size : ℕ) (words : Words) (directory : Directory) (bad : Bad) → roots_fault size words (length directory.roots) ≡ Some bad
    → graph_from size directory words ≡ Err bad
unfolding graph_from
roots-bad size words directory bad h = rw h refl

objects-bad : (size : ℕ) (words : Words) (directory : Directory) (bad : Bad) → roots_fault size words (length directory.roots) ≡ None
    → walk directory.shapes size words (root_values_of words (length directory.roots)) size ≡ Err bad
    → graph_from size directory words ≡ Err bad
unfolding graph_from
objects-bad size words directory bad roots h = rw (roots, h) refl

pub in_order : (size : ℕ) (words : Words) → ChecksComeInOrder size words
in_order size words = record {
  super = super-bad size words;
  blank = blank-stands size words;
  directory = directory-bad size words;
  logs = logs-bad size words;
  roots = λ directory bad opens h. opened size words directory opens ∙ roots-bad size (put_back words) directory bad h;
  objects = λ directory bad opens roots h.
      opened size words directory opens ∙ objects-bad size (put_back words) directory bad roots h;
}
