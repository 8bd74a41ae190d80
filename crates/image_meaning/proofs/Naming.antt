-- Words that are named by the logs, and logs whose lines are the same.
use Rattle.std.proofs.Common.{◌≡◌, inl, inr, ℕ, zero, suc, ◌+◌, ◌<◌, ◌≤◌, true, Some, None, refl, sym, ◌∙◌, ap, arith}
use Rattle.std.proofs.lemmas.Bool.{cases_lt, le-leb, lt-ltb}
use Rattle.image_layout.specs.Places.{logs, log_head_line, log_entry_line, log_entry_word, first_object_line}
use Rattle.image_meaning.specs.Checks.{Words}
use Rattle.image_meaning.specs.Logs.{log_count, logged_at, first_logged, log_of, logs_below, log_fault, logs_fault, old_word}
use Rattle.image_meaning.specs.Logs.{is_log_line, SameLogs}
use Rattle.image_meaning.specs.Logging.{IsNamed}
use Rattle.image_meaning.proofs.Ranges.{mapped_same}
use Rattle.image_meaning.proofs.Places.{log_passes}
use Rattle.image_meaning.proofs.Recovering.{or_old, old_append, some_or}
use Rattle.image_meaning.proofs.Stopped.{logs_pass}

-- of two logs that say the same
pub log_same : (c d : Words) → SameLogs c d → (t : ℕ) → t < logs → log_of d t ≡ log_of c t
log_same c d same t below =
    ap (λ k. first_logged d t k) (same.counts t below)
    ∙ mapped_same (logged_at d t) (logged_at c t) 0 (log_count c t) (λ j low high. same.entries t j below (omega (arith, high)))

-- a word that is named is named in some log
pub below_some : (c : Words) (line word old n : ℕ) → old_word (logs_below c n) line word ≡ Some old
    → (t : ℕ) × (t < n) × (old_word (log_of c t) line word ≡ Some old)
unfolding logs_below or_old
below_some c line word old zero is = let wrong : None ≡ Some old = is in cc
below_some c line word old (suc n) is =
    let e : or_old (old_word (log_of c n) line word) (old_word (logs_below c n) line word) ≡ Some old =
    sym (old_append (log_of c n) (logs_below c n) line word) ∙ is in
    elim (some_or (old_word (log_of c n) line word)) [
      | inr some ↦ (
          let same : Some some.0 ≡ Some old = rw some.1 at e in
          (n, omega arith, some.1 ∙ same))
      | inl none ↦ (
          let rest : old_word (logs_below c n) line word ≡ Some old = rw none at e in
          let found = below_some c line word old n rest in
          (found.0, omega (arith, found.1), found.2))
    ]

-- a word that is named in some log is named
pub below_has : (c : Words) (t line word old n : ℕ) → t < n → old_word (log_of c t) line word ≡ Some old
    → (o : ℕ) × (old_word (logs_below c n) line word ≡ Some o)
unfolding logs_below or_old
below_has c t line word old zero below is = absurd (omega (arith, below))
below_has c t line word old (suc n) below is =
    elim (some_or (old_word (log_of c n) line word)) [
      | inr some ↦ (some.0, old_append (log_of c n) (logs_below c n) line word ∙ rw some.1 refl)
      | inl none ↦ (
          let other : t < n = elim (cases_lt t n) [
            | inl lt ↦ lt
            | inr le ↦ absurd (
                let same : t ≡ n = omega (arith, below, le) in
                let wrong : None ≡ Some old = sym none ∙ ap (λ k. old_word (log_of c k) line word) (sym same) ∙ is in cc)
          ] in
          let more = below_has c t line word old n other is in
          (more.0, old_append (log_of c n) (logs_below c n) line word ∙ rw none more.1))
    ]

pub one_log : (c : Words) (line word : ℕ) → IsNamed (old_word (logs_below c logs) line word)
    → (t : ℕ) × (t < logs) × IsNamed (old_word (log_of c t) line word)
one_log c line word is =
    let found = below_some c line word is.0 logs is.1 in
    (found.0, found.1, (is.0, found.2))

pub some_log : (c : Words) (line word : ℕ) → (t : ℕ) × (t < logs) × IsNamed (old_word (log_of c t) line word)
    → IsNamed (old_word (logs_below c logs) line word)
some_log c line word found = below_has c found.0 line word found.2.0 logs found.1 found.2.1

-- words that agree on the lines of the logs
pub same_lines : (size : ℕ) (c d : Words) → ((t : ℕ) → t < logs → log_fault size c t ≡ None)
    → ((line word : ℕ) → is_log_line line ≡ true → d line word ≡ c line word) → SameLogs c d
same_lines size c d pass same = record {
  counts = λ t below. same (log_head_line t) 0 (in_logs (log_head_line t) (omega (arith, below)) (omega (arith, below)));
  entries = λ t n below few.
      let most = (log_passes size c t (pass t below)).0 in
      let inside = in_logs (log_entry_line t n) (omega (arith, below)) (omega (arith, below, few, most)) in
      rw (same (log_entry_line t n) (log_entry_word n) inside, same (log_entry_line t n) (log_entry_word n + 1) inside) refl;
}
  where
    in_logs : (l : ℕ) → log_head_line 0 ≤ l → l < first_object_line → is_log_line l ≡ true
    in_logs l low high = rw (le-leb (log_head_line 0) l low, lt-ltb l first_object_line high) refl

pub logs_outside : (size : ℕ) (c d : Words) → logs_fault size c ≡ None
    → ((line word : ℕ) → is_log_line line ≡ true → d line word ≡ c line word) → SameLogs c d
logs_outside size c d pass same = same_lines size c d (logs_pass size c pass) same
