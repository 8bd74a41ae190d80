-- The counted entries of the 64 logs are put back, and nothing else is.
use Rattle.std.proofs.Common.{◌≡◌, inl, inr, ℕ, zero, suc, ◌+◌, ◌/◌, ◌%◌, ◌<◌, ◌≤◌, true, false, [], ◌∷◌, Some, None, refl, sym}
use Rattle.std.proofs.Common.{◌∙◌, ap, arith}
use Rattle.std.proofs.lemmas.Bool.{cases_lt, eq-eqb, true≢false}
use Rattle.image_layout.specs.Places.{logs}
use Rattle.image_meaning.specs.Checks.{Words}
use Rattle.image_meaning.specs.Logs.{log_count, logged_at, first_logged, log_of, logs_below, log_fault, is_place, old_word}
use Rattle.image_meaning.specs.Logs.{put_back}
use Rattle.image_meaning.specs.Laws.{CountedEntriesArePutBack}
use Rattle.image_meaning.proofs.Places.{first_more, not_named, log_passes, entry_passes, in_log}
use Rattle.image_meaning.proofs.Recovering.{or_old, old_append, some_or, put_at}
use Rattle.image_meaning.proofs.Stopped.{logs_pass}

own_place : (p : ℕ) → is_place p (p / 8) (p % 8) ≡ true
own_place p = rw (eq-eqb (p / 8) (p / 8) refl, eq-eqb (p % 8) (p % 8) refl) refl

-- the place of an entry has its old word among the first of a log that passes
old_among : (size : ℕ) (c : Words) (t : ℕ) → log_fault size c t ≡ None → (m : ℕ) → m ≤ log_count c t → (n : ℕ) → n < m
    → old_word (first_logged c t m) ((logged_at c t n).place / 8) ((logged_at c t n).place % 8) ≡ Some (logged_at c t n).old
unfolding or_old
old_among size c t pass zero most n h = absurd (omega (arith, h))
old_among size c t pass (suc m) most n h =
    let place = (logged_at c t n).place in
    let step : suc m ≡ m + 1 = omega arith in
    ap (λ k. old_word (first_logged c t k) (place / 8) (place % 8)) step
    ∙ ap (λ list. old_word list (place / 8) (place % 8)) (first_more c t m)
    ∙ old_append (first_logged c t m) (logged_at c t m ∷ []) (place / 8) (place % 8)
    ∙ elim (cases_lt n m) [
      | inl low ↦ rw (old_among size c t pass m (omega (arith, most)) n low) refl
      | inr high ↦ (
          let e : n ≡ m = omega (arith, h, high) in
          let entry = entry_passes size c t n ((log_passes size c t pass).1 n (omega (arith, h, most))) in
          let before : old_word (first_logged c t n) (place / 8) (place % 8) ≡ None =
          not_named (first_logged c t n) place (place / 8) (place % 8) entry.1 (own_place place) in
          rw (← e, before, own_place place) refl)
    ]

-- a place that no entry names has no old word
unnamed : (c : Words) (line word : ℕ)
    → ((t n : ℕ) → t < logs → n < log_count c t → is_place (logged_at c t n).place line word ≡ false)
    → (m : ℕ) → m ≤ logs → old_word (logs_below c m) line word ≡ None
unfolding or_old logs_below
unnamed c line word none zero most = refl
unnamed c line word none (suc t) most =
    rw (old_append (log_of c t) (logs_below c t) line word) (elim (some_or (old_word (log_of c t) line word)) [
      | inl nothing ↦ rw nothing (unnamed c line word none t (omega (arith, most)))
      | inr some ↦ (
          let found = in_log c t line word some.0 some.1 in
          absurd (true≢false (sym found.2 ∙ none t found.0 (omega (arith, most)) found.1)))
    ])

pub counted-put_back : CountedEntriesArePutBack
unfolding put_back
counted-put_back = record {
  each = λ size words t n pass there below.
      let place = (logged_at words t n).place in
      (put_at size words (logs_pass size words pass) t (place / 8) (place % 8) (logged_at words t n).old there
      (old_among size words t (logs_pass size words pass t there) (log_count words t) (omega arith) n below)).1;
  others = λ words line word outside none. rw (outside, unnamed words line word none logs (omega arith)) refl;
}
