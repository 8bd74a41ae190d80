-- A stop within a recovery leaves words that stand for the same graph.
use Rattle.std.proofs.Common.{◌≡◌, ◌⊎◌, inl, inr, ℕ, zero, suc, ◌+◌, ◌/◌, ◌<◌, ◌≤◌, ◌==◌, ◌&&◌, ◌||◌, Bool, true, false, List}
use Rattle.std.proofs.Common.{[], ◌∷◌, ◌++◌, Option, Some, None, refl, sym, ◌∙◌, ap, subst, arith, if◌then◌else◌}
use Rattle.std.specs.Prelude.{not}
use Rattle.std.proofs.lemmas.Bool.{cases_lt, lt-leb, le-leb, lt-ltb, le-ltb, true≢false, false≢true}
use Rattle.std.proofs.lemmas.List.Folds.{list_any-append}
use Rattle.image_layout.specs.declared.superblock.BadReason.TheVariants as bad
use Rattle.image_layout.specs.Places.{logs, log_entries, slot_line, root_slots, first_object_line, log_head_line}
use Rattle.image_layout.specs.Places.{log_entry_line, log_entry_word}
use Rattle.image_meaning.specs.Checks.{Words, first_fault}
use Rattle.image_meaning.specs.Logs.{Logged, log_count, logged_at, first_logged, log_of, logs_below, may_be_logged, has_place}
use Rattle.image_meaning.specs.Logs.{entry_fault, log_fault, logs_fault, is_place, old_word, or_else, is_log_line, put_back}
use Rattle.image_meaning.specs.Recovering.{IsUnchanged, IsEmptied, IsRecovering}
use Rattle.image_meaning.proofs.Faults.{first_fault-none, passes_if}
use Rattle.image_meaning.proofs.Logs.{not_log_before, not_log_after}
use Rattle.image_meaning.proofs.Ranges.{mapped_same}
use Rattle.image_meaning.proofs.Places.{log_passes, entry_passes, once, in_place}

-- where an entry of the first list has the place, the second doesn't matter
unfoldable pub or_old : Option ℕ → Option ℕ → Option ℕ
or_old (Some old) other = Some old
or_old None other = other

pub old_append : (xs ys : List Logged) (line word : ℕ)
    → old_word (xs ++ ys) line word ≡ or_old (old_word xs line word) (old_word ys line word)
unfolding or_old
old_append [] ys line word = refl
old_append (e ∷ xs) ys line word =
    elim (is_place e.place line word) as (λ b. (if b then Some e.old else old_word (xs ++ ys) line word)
    ≡ or_old (if b then Some e.old else old_word xs line word) (old_word ys line word)) [ true ↦ refl | false ↦ old_append xs ys line word ]

pub some_or : (o : Option ℕ) → (o ≡ None) ⊎ ((v : ℕ) × (o ≡ Some v))
some_or None = inl refl
some_or (Some v) = inr (v, refl)

pub unchanged_log : (c d : Words) (t : ℕ) → IsUnchanged c d t → log_of d t ≡ log_of c t
unchanged_log c d t u =
    let entries : first_logged d t (log_count c t) ≡ first_logged c t (log_count c t) =
    mapped_same (logged_at d t) (logged_at c t) 0 (log_count c t) (λ j low high. u.entries j (omega (arith, high))) in
    rw (u.count, entries) refl

pub emptied_log : (d : Words) (t : ℕ) → log_count d t ≡ 0 → log_of d t ≡ []
emptied_log d t e = rw e refl

-- of the logs below t, the old word is the same, or it is there already
abbrev Same : Words → Words → ℕ → ℕ → ℕ → Type 0
Same c d t line word =
    (old_word (logs_below d t) line word ≡ old_word (logs_below c t) line word)
    ⊎ ((old_word (logs_below d t) line word ≡ None) × (old_word (logs_below c t) line word ≡ Some (d line word)))

module _ (size : ℕ) (c : Words) (pass : (t : ℕ) → t < logs → log_fault size c t ≡ None) where
  same_below : (d : Words) → ((t : ℕ) → t < logs → IsUnchanged c d t ⊎ IsEmptied c d t) → (t : ℕ) → t ≤ logs
      → (line word : ℕ) → Same c d t line word
  unfolding or_old logs_below
  same_below d each zero le line word = inl refl
  same_below d each (suc t) le line word =
      let below : t < logs = omega (arith, le) in
      let before = same_below d each t (omega (arith, le)) line word in
      rw (old_append (log_of d t) (logs_below d t) line word, old_append (log_of c t) (logs_below c t) line word) (elim (each t below) [
        | inl u ↦ rw (unchanged_log c d t u) (elim (some_or (old_word (log_of c t) line word)) [
          | inl none ↦ rw none before
          | inr some ↦ rw some.1 (inl refl)
        ])
        | inr u ↦ rw (emptied_log d t u.empty) (elim (some_or (old_word (log_of c t) line word)) [
          | inl none ↦ rw none before
          | inr some ↦ (
              let lower = once size c t line word some.0 (pass t below) some.1 in
              let here = u.done line word some.0 some.1 in
              rw (some.1, here) (inr (elim before [ inl s ↦ s ∙ lower | inr s ↦ s.0 ], refl)))
        ])
      ])

  -- Putting back again gives the same words.
  pub put_back-again : (d : Words) → IsRecovering c d → put_back d ≡ put_back c
  unfolding put_back
  put_back-again d r =
      let each : (line word : ℕ) → put_back d line word ≡ put_back c line word = λ line word.
      elim (is_log_line line) as (λ b. is_log_line line ≡ b
      → (if b then 0 else or_else (old_word (logs_below d logs) line word) (d line word))
      ≡ (if b then 0 else or_else (old_word (logs_below c logs) line word) (c line word))) [
        | true ↦ λ _. refl
        | false ↦ λ outside. elim (same_below d r.each logs (omega arith) line word) [
          | inl s ↦ rw s (elim (some_or (old_word (logs_below c logs) line word)) [
            | inl none ↦ rw none (elim (r.words line word outside) [
              | inl e ↦ e
              | inr e ↦ (let f : d line word ≡ (if is_log_line line then 0 else or_else (old_word (logs_below c logs) line word) (c line word)) = e in rw (outside, none) at f)
            ])
            | inr some ↦ rw some.1 refl
          ])
          | inr s ↦ rw (s.0, s.1) refl
        ]
      ] refl in
      λ i line word. each line word i

  -- ---- the logs still pass

  named_append : (xs ys : List Logged) (p : ℕ) → has_place (xs ++ ys) p ≡ (has_place xs p || has_place ys p)
  named_append xs ys p = list_any-append (λ (e : Logged). e.place == p) xs ys

  or_parts : (a b : Bool) → (a || b) ≡ false → (a ≡ false) × (b ≡ false)
  or_parts false b h = (refl, h)
  or_parts true b h = absurd (true≢false h)

  fewer_below : (d : Words) → ((t : ℕ) → t < logs → IsUnchanged c d t ⊎ (log_count d t ≡ 0)) → (t : ℕ) → t ≤ logs → (p : ℕ)
      → has_place (logs_below c t) p ≡ false → has_place (logs_below d t) p ≡ false
  unfolding logs_below
  fewer_below d each zero le p h = refl
  fewer_below d each (suc t) le p h =
      let x = or_parts (has_place (log_of c t) p) (has_place (logs_below c t) p) (sym (named_append (log_of c t) (logs_below c t) p) ∙ h) in
      let lower = fewer_below d each t (omega (arith, le)) p x.1 in
      elim (each t (omega (arith, le))) [
        | inl u ↦ rw (unchanged_log c d t u, named_append (log_of c t) (logs_below d t) p, x.0) lower
        | inr u ↦ rw (emptied_log d t u) lower
      ]

  entry_still : (d : Words) → ((t : ℕ) → t < logs → IsUnchanged c d t ⊎ (log_count d t ≡ 0)) → (t : ℕ) → t < logs → IsUnchanged c d t
      → (n : ℕ) → n < log_count c t → entry_fault size d t n ≡ None
  entry_still d each t h u n below =
      let entry = entry_passes size c t n ((log_passes size c t (pass t h)).1 n below) in
      let place = (logged_at c t n).place in
      let lower : has_place (logs_below d t) place ≡ false = fewer_below d each t (omega (arith, h)) place entry.2 in
      let front : first_logged d t n ≡ first_logged c t n =
      mapped_same (logged_at d t) (logged_at c t) 0 n (λ j low high. u.entries j (omega (arith, high, below))) in
      let none : has_place (first_logged d t n ++ logs_below d t) place ≡ false =
      rw front (named_append (first_logged c t n) (logs_below d t) place ∙ rw (entry.1, lower) refl) in
      let good : (may_be_logged size (place / 8) && not (has_place (first_logged d t n ++ logs_below d t) place)) ≡ true =
      rw (entry.0, none) refl in
      by_entry d t n (logged_at c t n) (u.entries n below) good
    where
      by_entry : (d : Words) (t n : ℕ) (e : Logged) → logged_at d t n ≡ e
          → (may_be_logged size (e.place / 8) && not (has_place (first_logged d t n ++ logs_below d t) e.place)) ≡ true
          → entry_fault size d t n ≡ None
      by_entry d t n e same good =
          let test : (may_be_logged size ((logged_at d t n).place / 8) && not (has_place (first_logged d t n ++ logs_below d t) (logged_at d t n).place)) ≡ true =
          subst (λ (f : Logged). (may_be_logged size (f.place / 8) && not (has_place (first_logged d t n ++ logs_below d t) f.place)) ≡ true) (sym same) good in
          passes_if (log_entry_line t n, bad.LogPlace)
          (may_be_logged size ((logged_at d t n).place / 8) && not (has_place (first_logged d t n ++ logs_below d t) (logged_at d t n).place)) test

  log_still : (d : Words) → ((t : ℕ) → t < logs → IsUnchanged c d t ⊎ (log_count d t ≡ 0)) → (t : ℕ) → t < logs → log_fault size d t ≡ None
  unfolding first_fault
  log_still d each t h = elim (each t h) [
    | inr u ↦ rw u refl
    | inl u ↦ (
        let entries : first_fault (entry_fault size d t) (log_count c t) ≡ None =
        first_fault-none (entry_fault size d t) (log_count c t) (entry_still d each t h u) in
        rw (u.count, le-leb (log_count c t) log_entries (log_passes size c t (pass t h)).0) entries)
  ]

  -- where each log is as it was or counts no entry
  pub logs_still : (d : Words) → ((t : ℕ) → t < logs → IsUnchanged c d t ⊎ (log_count d t ≡ 0)) → logs_fault size d ≡ None
  unfolding logs_fault
  logs_still d each = first_fault-none (log_fault size d) logs (log_still d each)

  -- ---- what is put back where

  pub put_value : (n : ℕ) → n ≤ logs → (t line word old : ℕ) → t < n → old_word (log_of c t) line word ≡ Some old
      → old_word (logs_below c n) line word ≡ Some old
  unfolding or_old logs_below
  put_value zero le t line word old h here = absurd (omega (arith, h))
  put_value (suc n) le t line word old h here = elim (cases_lt t n) [
    | inl low ↦ (
        let rest = put_value n (omega (arith, le)) t line word old low here in
        rw (old_append (log_of c n) (logs_below c n) line word) (elim (some_or (old_word (log_of c n) line word)) [
          | inl none ↦ rw none rest
          | inr some ↦ absurd (let e = once size c n line word some.0 (pass n (omega (arith, le))) some.1 in let wrong : Some old ≡ None = sym rest ∙ e in cc)
        ]))
    | inr high ↦ (
        let e : t ≡ n = omega (arith, h, high) in
        let now : old_word (log_of c n) line word ≡ Some old = rw e at here in
        rw (old_append (log_of c n) (logs_below c n) line word, now) refl)
  ]

  pub not_log_if_logged : (line : ℕ) → may_be_logged size line ≡ true → is_log_line line ≡ false
  not_log_if_logged line h = elim (cases_lt line (log_head_line 0)) [
    | inl before ↦ not_log_before line before
    | inr from ↦ elim (cases_lt line first_object_line) [
      | inr beyond ↦ not_log_after line beyond
      | inl within ↦ absurd (false≢true (sym (not_between line from within) ∙ h))
    ]
  ]
    where
      not_between : (line : ℕ) → log_head_line 0 ≤ line → line < first_object_line → may_be_logged size line ≡ false
      not_between line from within =
          rw (le-ltb line (slot_line root_slots) (omega (arith, from)), lt-leb first_object_line line within, le-leb (slot_line 0) line (omega (arith, from))) refl

  pub put_at : (t line word old : ℕ) → t < logs → old_word (log_of c t) line word ≡ Some old
      → (is_log_line line ≡ false) × (put_back c line word ≡ old)
  unfolding put_back
  put_at t line word old h here =
      let outside = not_log_if_logged line (in_place size c t line word old (pass t h) here) in
      (outside, rw (outside, put_value logs (omega arith) t line word old h here) refl)

  -- a line that may not be logged has no old words
  logged_nowhere : (n : ℕ) → n ≤ logs → (line word : ℕ) → may_be_logged size line ≡ false → old_word (logs_below c n) line word ≡ None
  unfolding or_old logs_below
  logged_nowhere zero le line word h = refl
  logged_nowhere (suc n) le line word h =
      rw (old_append (log_of c n) (logs_below c n) line word) (elim (some_or (old_word (log_of c n) line word)) [
        | inl none ↦ rw none (logged_nowhere n (omega (arith, le)) line word h)
        | inr some ↦ absurd (false≢true (sym h ∙ in_place size c n line word some.0 (pass n (omega (arith, le))) some.1))
      ])

  -- such a line is as it was, where it is none of the logs'
  pub line_still : (d : Words) → IsRecovering c d → (line word : ℕ) → is_log_line line ≡ false → may_be_logged size line ≡ false
      → d line word ≡ c line word
  unfolding put_back
  line_still d r line word outside h = elim (r.words line word outside) [
    | inl e ↦ e
    | inr e ↦ (let f : d line word ≡ (if is_log_line line then 0 else or_else (old_word (logs_below c logs) line word) (c line word)) = e in
        rw (outside, logged_nowhere logs (omega arith) line word h) at f)
  ]

  -- ---- one recovery after another

  stays_put : (d e : Words) → IsRecovering c d → IsRecovering d e → (t line word old : ℕ) → t < logs
      → old_word (log_of c t) line word ≡ Some old → d line word ≡ old → e line word ≡ old
  stays_put d e first second t line word old h here was =
      let put = put_at t line word old h here in
      elim (second.words line word put.0) [
        | inl same ↦ same ∙ was
        | inr back ↦ back ∙ ap (λ (f : Words). f line word) (put_back-again d first) ∙ put.1
      ]

  unchanged_twice : (d e : Words) (t : ℕ) → IsUnchanged c d t → IsUnchanged d e t → IsUnchanged c e t
  unchanged_twice d e t u v = record {
    count = v.count ∙ u.count;
    entries = λ n h. v.entries n (rw u.count h) ∙ u.entries n h;
  }

  pub recovering-on : (d e : Words) → IsRecovering c d → IsRecovering d e → IsRecovering c e
  recovering-on d e first second = record {
    words = λ line word outside. elim (second.words line word outside) [
      | inl same ↦ rw same (first.words line word outside)
      | inr back ↦ inr (back ∙ ap (λ (f : Words). f line word) (put_back-again d first))
    ];
    each = λ t h. elim (second.each t h) [
      | inl v ↦ elim (first.each t h) [
        | inl u ↦ inl (unchanged_twice d e t u v)
        | inr u ↦ inr (record {
          empty = v.count ∙ u.empty;
          done = λ line word old here. stays_put d e first second t line word old h here (u.done line word old here);
        })
      ]
      | inr v ↦ elim (first.each t h) [
        | inl u ↦ inr (record {
          empty = v.empty;
          done = λ line word old here. v.done line word old (rw (unchanged_log c d t u) here);
        })
        | inr u ↦ inr (record {
          empty = v.empty;
          done = λ line word old here. stays_put d e first second t line word old h here (u.done line word old here);
        })
      ]
    ];
  }

  -- ---- how a recovery goes on

  log_head_in : (t : ℕ) → t < logs → is_log_line (log_head_line t) ≡ true
  log_head_in t h =
      rw (le-leb (log_head_line 0) (log_head_line t) (omega arith), lt-ltb (log_head_line t) first_object_line (omega (arith, h))) refl

  log_entry_in : (t n : ℕ) → t < logs → n < log_entries → is_log_line (log_entry_line t n) ≡ true
  log_entry_in t n h k =
      rw (le-leb (log_head_line 0) (log_entry_line t n) (omega arith), lt-ltb (log_entry_line t n) first_object_line (omega (arith, h, k))) refl

  -- while words are put back, the logs' lines are as they were
  pub while_putting : (d : Words) → ((line word : ℕ) → is_log_line line ≡ true → d line word ≡ c line word)
      → ((line word : ℕ) → is_log_line line ≡ false → (d line word ≡ c line word) ⊎ (d line word ≡ put_back c line word))
      → IsRecovering c d
  while_putting d kept words = record {
    words = words;
    each = λ t h. inl (record {
      count = kept (log_head_line t) 0 (log_head_in t h);
      entries = λ n below.
          let few = (log_passes size c t (pass t h)).0 in
          let in_log = log_entry_in t n h (omega (arith, below, few)) in
          same_entry (kept (log_entry_line t n) (log_entry_word n) in_log) (kept (log_entry_line t n) (log_entry_word n + 1) in_log);
    });
  }
    where
      same_entry : {p q a b : ℕ} → p ≡ q → a ≡ b → let e : Logged = record { place = p; old = a } in e ≡ record { place = q; old = b }
      same_entry x y = rw (x, y) refl

  -- once all is put back, each log is as it was or counts no entry
  pub while_emptying : (d : Words) → ((line word : ℕ) → is_log_line line ≡ false → d line word ≡ put_back c line word)
      → ((t : ℕ) → t < logs → IsUnchanged c d t ⊎ (log_count d t ≡ 0)) → IsRecovering c d
  while_emptying d words each = record {
    words = λ line word outside. inr (words line word outside);
    each = λ t h. elim (each t h) [
      | inl u ↦ inl u
      | inr empty ↦ inr (record {
        empty = empty;
        done = λ line word old here. let put = put_at t line word old h here in words line word put.0 ∙ put.1;
      })
    ];
  }
