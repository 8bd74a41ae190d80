-- Logs without counted entries, and logs that say the same.
use Rattle.std.proofs.Common.{◌≡◌, ℕ, zero, suc, ◌<◌, ◌≤◌, ◌/◌, ◌&&◌, false, List, [], ◌++◌, refl, ap, ◌∙◌, arith, nat_le}
use Rattle.std.proofs.Common.{nat_lt, None}
use Rattle.std.specs.Prelude.{not}
use Rattle.std.proofs.lemmas.Bool.{lt-leb, le-ltb, and_left, and_right}
use Rattle.image_layout.specs.declared.superblock.BadReason.TheVariants as bad
use Rattle.image_layout.specs.Places.{logs, log_head_line, log_entry_line, first_object_line}
use Rattle.image_meaning.specs.Checks.{Words, fails_unless, first_fault}
use Rattle.image_meaning.specs.Logs.{Logged, log_count, logged_at, first_logged, log_of, logs_below, may_be_logged, has_place}
use Rattle.image_meaning.specs.Logs.{entry_fault, log_fault, logs_fault, is_log_line, put_back, SameLogs, NoneLogged}
use Rattle.image_meaning.proofs.Faults.{first_fault-none, first_fault-same}
use Rattle.image_meaning.proofs.Ranges.{mapped_same}

-- ---- no entry counts

below_none : (words : Words) (n : ℕ) → ((t : ℕ) → t < n → log_count words t ≡ 0) → logs_below words n ≡ []
unfolding logs_below
below_none words zero none = refl
below_none words (suc t) none = rw (none t (omega arith)) (below_none words t (λ s h. none s (omega (arith, h))))

pub logs_below-none : (words : Words) → NoneLogged words → logs_below words logs ≡ []
logs_below-none words none = below_none words logs none

fault_none : (size : ℕ) (words : Words) (t : ℕ) → log_count words t ≡ 0 → log_fault size words t ≡ None
unfolding first_fault
fault_none size words t none = rw none refl

pub logs_fault-none : (size : ℕ) (words : Words) → NoneLogged words → logs_fault size words ≡ None
unfolding logs_fault
logs_fault-none size words none = first_fault-none (log_fault size words) logs (λ t h. fault_none size words t (none t h))

pub put_back-none : (words : Words) → NoneLogged words → (line word : ℕ) → is_log_line line ≡ false → put_back words line word ≡ words line word
unfolding put_back
put_back-none words none line word outside = rw (outside, logs_below-none words none) refl

-- ---- lines outside the logs

pub not_log_before : (line : ℕ) → line < log_head_line 0 → is_log_line line ≡ false
not_log_before line h = and_left (nat_le (log_head_line 0) line) (nat_lt line first_object_line) (lt-leb (log_head_line 0) line h)

pub not_log_after : (line : ℕ) → first_object_line ≤ line → is_log_line line ≡ false
not_log_after line h = and_right (nat_le (log_head_line 0) line) (nat_lt line first_object_line) (le-ltb line first_object_line h)

-- ---- logs that say the same

module _ (c d : Words) (same : SameLogs c d) where
  first_same : (t n : ℕ) → t < logs → n ≤ log_count c t → first_logged d t n ≡ first_logged c t n
  first_same t n h most = mapped_same (logged_at d t) (logged_at c t) 0 n (λ j low high. same.entries t j h (omega (arith, high, most)))

  log_same : (t : ℕ) → t < logs → log_of d t ≡ log_of c t
  log_same t h = rw (same.counts t h) (first_same t (log_count c t) h (omega arith))

  below_same : (n : ℕ) → n ≤ logs → logs_below d n ≡ logs_below c n
  unfolding logs_below
  below_same zero h = refl
  below_same (suc t) h =
      ap (λ front. front ++ logs_below d t) (log_same t (omega (arith, h)))
      ∙ ap (λ rest. log_of c t ++ rest) (below_same t (omega (arith, h)))

  pub logs_below-same : logs_below d logs ≡ logs_below c logs
  logs_below-same = below_same logs (omega arith)

  entry_same : (size t n : ℕ) → t < logs → n < log_count c t → entry_fault size d t n ≡ entry_fault size c t n
  entry_same size t n h most =
      let entry : logged_at d t n ≡ logged_at c t n = same.entries t n h most in
      let earlier : first_logged d t n ++ logs_below d t ≡ first_logged c t n ++ logs_below c t =
      ap (λ front. front ++ logs_below d t) (first_same t n h (omega (arith, most)))
      ∙ ap (λ rest. first_logged c t n ++ rest) (below_same t (omega (arith, h))) in
      by_parts size t n (logged_at d t n) (logged_at c t n) entry (first_logged d t n ++ logs_below d t) (first_logged c t n ++ logs_below c t) earlier
    where
      by_parts : (size t n : ℕ) (e f : Logged) → e ≡ f → (xs ys : List Logged) → xs ≡ ys
          → fails_unless (may_be_logged size (e.place / 8) && not (has_place xs e.place)) (log_entry_line t n, bad.LogPlace)
          ≡ fails_unless (may_be_logged size (f.place / 8) && not (has_place ys f.place)) (log_entry_line t n, bad.LogPlace)
      by_parts size t n e f same_entry xs ys same_list = rw (same_entry, same_list) refl

  fault_same : (size t : ℕ) → t < logs → log_fault size d t ≡ log_fault size c t
  fault_same size t h =
      let entries = first_fault-same (entry_fault size c t) (entry_fault size d t) (log_count c t) (λ n most. entry_same size t n h most) in
      rw (same.counts t h, entries) refl

  pub logs_fault-same : (size : ℕ) → logs_fault size d ≡ logs_fault size c
  unfolding logs_fault
  logs_fault-same size = first_fault-same (log_fault size c) (log_fault size d) logs (λ t h. fault_same size t h)

  pub put_back-same : (line word : ℕ) → d line word ≡ c line word → put_back d line word ≡ put_back c line word
  unfolding put_back
  put_back-same line word e = rw (logs_below-same, e) refl
