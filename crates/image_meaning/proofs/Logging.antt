-- What entries of logs do to the words that are put back.
use Rattle.std.proofs.Common.{◌≡◌, ◌≢◌, inl, inr, ℕ, zero, suc, ◌+◌, ◌/◌, ◌%◌, ◌<◌, ◌≤◌, ◌==◌, ◌&&◌, ◌||◌, Bool, true, false}
use Rattle.std.proofs.Common.{List, [], ◌∷◌, ◌++◌, length, Some, None, refl, sym, ◌∙◌, ap, subst, arith, slice_index_or}
use Rattle.std.proofs.Common.{if◌then◌else◌}
use Rattle.std.specs.Prelude.{not}
use Rattle.std.proofs.lemmas.Bool.{cases_lt, cases_eq, le-leb, and_parts, eqb-true, eq-eqb, ne_eqb, true≢false, cases_Bool}
use Rattle.std.proofs.lemmas.List.Folds.{list_any-append, list_any_at}
use Rattle.std.proofs.lemmas.List.FromFn.{length-map-range_with_len, get_or-map-range_with_len}
use Rattle.image_layout.specs.declared.superblock.BadReason.TheVariants as bad
use Rattle.image_layout.specs.Places.{logs, log_entries, log_entry_line}
use Rattle.image_meaning.specs.Checks.{Words, first_fault}
use Rattle.image_meaning.specs.Logs.{Logged, log_count, logged_at, first_logged, log_of, logs_below, may_be_logged, has_place}
use Rattle.image_meaning.specs.Logs.{entry_fault, log_fault, logs_fault, is_place, old_word, or_else, is_log_line, put_back}
use Rattle.image_meaning.specs.Logs.{put_one, SameLogs}
use Rattle.image_meaning.specs.Logging.{AddsLogged, IsFree, LoggingKeeps, SameButLogged, Empties, EmptyingCommits}
use Rattle.image_meaning.proofs.Faults.{first_fault-none, passes_if}
use Rattle.image_meaning.proofs.Ranges.{mapped_same}
use Rattle.image_meaning.proofs.Logs.{logs_below-same}
use Rattle.image_meaning.proofs.Places.{first_more, not_named, log_passes, entry_passes, once}
use Rattle.image_meaning.proofs.Recovering.{or_old, old_append, some_or, unchanged_log, emptied_log, logs_still, put_value}
use Rattle.image_meaning.proofs.Recovering.{put_at, not_log_if_logged}
use Rattle.image_meaning.proofs.Stopped.{logs_pass}
use Rattle.image_meaning.proofs.Naming.{same_lines}

-- words that are put back the same outside the logs are the same
all_same : (c d : Words) → ((line word : ℕ) → is_log_line line ≡ false
    → or_else (old_word (logs_below d logs) line word) (d line word) ≡ or_else (old_word (logs_below c logs) line word) (c line word))
    → put_back d ≡ put_back c
unfolding put_back
all_same c d same =
    let each : (line word : ℕ) → put_back d line word ≡ put_back c line word = λ line word.
    elim (is_log_line line) as (λ b. is_log_line line ≡ b
    → (if b then 0 else or_else (old_word (logs_below d logs) line word) (d line word))
    ≡ (if b then 0 else or_else (old_word (logs_below c logs) line word) (c line word)))
    [ true ↦ λ _. refl | false ↦ λ outside. same line word outside ] refl in
    λ i line word. each line word i

-- ---- stores to logged words

pub logged_stores : (c d : Words) → SameButLogged c d → put_back d ≡ put_back c
logged_stores c d same = all_same c d (λ line word outside.
    rw (logs_below-same c d same.said) (elim (some_or (old_word (logs_below c logs) line word)) [
      | inl none ↦ rw none (same.words line word outside none)
      | inr some ↦ rw some.1 refl
    ]))

-- ---- a log is emptied

module _ (size : ℕ) (c d : Words) (t : ℕ) (pass : (s : ℕ) → s < logs → log_fault size c s ≡ None) (there : t < logs) (e : Empties c d t) where
  -- the logs below t are as they were
  below_first : (n : ℕ) → n ≤ t → logs_below d n ≡ logs_below c n
  unfolding logs_below
  below_first zero h = refl
  below_first (suc s) h =
      let ne : s ≢ t = λ same. absurd (omega (arith, same, h)) in
      ap (λ front. front ++ logs_below d s) (unchanged_log c d s (e.others s (omega (arith, h, there)) ne))
      ∙ ap (λ rest. log_of c s ++ rest) (below_first s (omega (arith, h)))

  named_nowhere : (line word old : ℕ) → old_word (log_of c t) line word ≡ Some old → (n : ℕ) → n ≤ logs
      → old_word (logs_below d n) line word ≡ None
  unfolding or_old logs_below
  named_nowhere line word old h zero le = refl
  named_nowhere line word old h (suc s) le =
      let before = named_nowhere line word old h s (omega (arith, le)) in
      rw (old_append (log_of d s) (logs_below d s) line word) (elim (cases_eq s t) [
        | inl same ↦ (
            let gone : log_of d s ≡ [] = emptied_log d s (rw same e.empty) in
            rw gone before)
        | inr ne ↦ (
            let below : s < logs = omega (arith, le) in
            rw (unchanged_log c d s (e.others s below ne)) (elim (some_or (old_word (log_of c s) line word)) [
              | inl none ↦ rw none before
              | inr some ↦ absurd (twice line word old some.0 s below ne h some.1)
            ]))
      ])
    where
      twice : (line word old other s : ℕ) → s < logs → s ≢ t → old_word (log_of c t) line word ≡ Some old
          → old_word (log_of c s) line word ≡ Some other → ⊥
      twice line word old other s below ne a b = elim (cases_lt s t) [
        | inl low ↦ (
            let lower = once size c t line word old (pass t there) a in
            let named = put_value size c pass t (omega (arith, there)) s line word other low b in
            let wrong : Some other ≡ None = sym named ∙ lower in cc)
        | inr high ↦ (
            let over : t < s = omega (arith, high, ne) in
            let lower = once size c s line word other (pass s below) b in
            let named = put_value size c pass s (omega (arith, below)) t line word old over a in
            let wrong : Some old ≡ None = sym named ∙ lower in cc)
      ]

  unnamed_same : (line word : ℕ) → old_word (log_of c t) line word ≡ None → (n : ℕ) → n ≤ logs
      → old_word (logs_below d n) line word ≡ old_word (logs_below c n) line word
  unfolding or_old logs_below
  unnamed_same line word h zero le = refl
  unnamed_same line word h (suc s) le =
      let before = unnamed_same line word h s (omega (arith, le)) in
      rw (old_append (log_of d s) (logs_below d s) line word, old_append (log_of c s) (logs_below c s) line word) (elim (cases_eq s t) [
        | inl same ↦ (
            let gone : log_of d s ≡ [] = emptied_log d s (rw same e.empty) in
            let none : old_word (log_of c s) line word ≡ None = rw same h in
            rw (gone, none) before)
        | inr ne ↦ rw (unchanged_log c d s (e.others s (omega (arith, le)) ne), before) refl
      ])

  pub emptied-commits : EmptyingCommits size c d t
  unfolding put_back
  emptied-commits = record {
    named = λ line word old h.
        let outside = (put_at size c pass t line word old there h).0 in
        rw (outside, named_nowhere line word old h logs (omega arith)) refl;
    others = λ line word h.
        elim (is_log_line line) as (λ b. is_log_line line ≡ b
        → (if b then 0 else or_else (old_word (logs_below d logs) line word) (d line word))
        ≡ (if b then 0 else or_else (old_word (logs_below c logs) line word) (c line word))) [
          | true ↦ λ _. refl
          | false ↦ λ outside. rw (unnamed_same line word h logs (omega arith), e.words line word outside) refl
        ] refl;
    logs = logs_still size c pass d (λ s h. elim (cases_eq s t) [
      | inl same ↦ inr (rw same e.empty)
      | inr ne ↦ inl (e.others s h ne)
    ]);
  }

-- ---- a free place is logged

named_append : (xs ys : List Logged) (p : ℕ) → has_place (xs ++ ys) p ≡ (has_place xs p || has_place ys p)
named_append xs ys p = list_any-append (λ (e : Logged). e.place == p) xs ys

or_parts : (a b : Bool) → (a || b) ≡ false → (a ≡ false) × (b ≡ false)
or_parts false b h = (refl, h)
or_parts true b h = absurd (true≢false h)

-- a counted entry's place is named
named_at : (c : Words) (s n : ℕ) → n < log_count c s → has_place (log_of c s) (logged_at c s n).place ≡ true
named_at c s n h =
    let place = (logged_at c s n).place in
    let count : length (log_of c s) ≡ log_count c s = length-map-range_with_len (logged_at c s) 0 (log_count c s) in
    let entry : slice_index_or (log_of c s) n (logged_at c s n) ≡ logged_at c s n =
    get_or-map-range_with_len (logged_at c s) 0 (log_count c s) n n (logged_at c s n) h (omega arith) in
    list_any_at (λ (e : Logged). e.place == place) (log_of c s) n (logged_at c s n) (omega (arith, h, count))
    (ap (λ (e : Logged). e.place == place) entry ∙ eq-eqb place place refl)

-- what no log names, no lower one does
unnamed_parts : (c : Words) (p n : ℕ) → has_place (logs_below c n) p ≡ false → (s : ℕ) → s < n
    → (has_place (log_of c s) p ≡ false) × (has_place (logs_below c s) p ≡ false)
unfolding logs_below
unnamed_parts c p zero h s below = absurd (omega (arith, below))
unnamed_parts c p (suc n) h s below =
    let x = or_parts (has_place (log_of c n) p) (has_place (logs_below c n) p) (sym (named_append (log_of c n) (logs_below c n) p) ∙ h) in
    elim (cases_lt s n) [
      | inl low ↦ unnamed_parts c p n x.1 s low
      | inr high ↦ (let e : s ≡ n = omega (arith, below, high) in rw e x)
    ]

module _ (size : ℕ) (c d : Words) (t : ℕ) (entry : Logged) (pass : (s : ℕ) → s < logs → log_fault size c s ≡ None) (there : t < logs)
    (free : IsFree size c entry.place) (adds : AddsLogged c d t entry) where
  log_more : log_of d t ≡ log_of c t ++ entry ∷ []
  log_more =
      let n = log_count c t in
      let more : suc n ≡ n + 1 = omega arith in
      let front : first_logged d t n ≡ first_logged c t n =
      mapped_same (logged_at d t) (logged_at c t) 0 n (λ j low high. adds.entries j (omega (arith, high))) in
      ap (λ k. first_logged d t k) (adds.count ∙ more) ∙ first_more d t n
      ∙ ap (λ xs. xs ++ logged_at d t n ∷ []) front ∙ ap (λ e. first_logged c t n ++ e ∷ []) adds.added

  -- elsewhere the logs say what they said
  said_elsewhere : (line word n : ℕ) → n ≤ logs → is_place entry.place line word ≡ false
      → old_word (logs_below d n) line word ≡ old_word (logs_below c n) line word
  unfolding or_old logs_below
  said_elsewhere line word zero le isnt = refl
  said_elsewhere line word (suc s) le isnt =
      let before = said_elsewhere line word s (omega (arith, le)) isnt in
      rw (old_append (log_of d s) (logs_below d s) line word, old_append (log_of c s) (logs_below c s) line word) (elim (cases_eq s t) [
        | inr ne ↦ rw (unchanged_log c d s (adds.others s (omega (arith, le)) ne), before) refl
        | inl same ↦ (
            let log : log_of d s ≡ log_of c s ++ entry ∷ [] = rw same log_more in
            rw (log, old_append (log_of c s) (entry ∷ []) line word) (elim (some_or (old_word (log_of c s) line word)) [
              | inr some ↦ rw some.1 refl
              | inl none ↦ rw (none, isnt) before
            ]))
      ])

  -- at the place they say the entry's word
  said_here : (line word n : ℕ) → n ≤ logs → t < n → is_place entry.place line word ≡ true
      → old_word (logs_below d n) line word ≡ Some entry.old
  unfolding or_old logs_below
  said_here line word zero le over is = absurd (omega (arith, over))
  said_here line word (suc s) le over is =
      let parts = unnamed_parts c entry.place logs free.unnamed s (omega (arith, le)) in
      let none = not_named (log_of c s) entry.place line word parts.0 is in
      rw (old_append (log_of d s) (logs_below d s) line word) (elim (cases_eq s t) [
        | inl same ↦ (
            let log : log_of d s ≡ log_of c s ++ entry ∷ [] = rw same log_more in
            rw (log, old_append (log_of c s) (entry ∷ []) line word, none, is) refl)
        | inr ne ↦ (
            let below : t < s = omega (arith, over, ne) in
            rw (unchanged_log c d s (adds.others s (omega (arith, le)) ne), none) (said_here line word s (omega (arith, le)) below is))
      ])

  -- the entry's place isn't among the logs
  said_by_put : SameLogs c (put_one entry c)
  said_by_put = same_lines size c (put_one entry c) pass (λ line word in_log.
      elim (is_place entry.place line word) as (λ b. is_place entry.place line word ≡ b → (if b then entry.old else c line word) ≡ c line word) [
        | true ↦ λ is.
            let at = eqb-true (entry.place / 8) line (and_parts (entry.place / 8 == line) (entry.place % 8 == word) is).0 in
            let outside : is_log_line line ≡ false = ap is_log_line (sym at) ∙ not_log_if_logged size c pass (entry.place / 8) free.may in
            absurd (true≢false (sym in_log ∙ outside))
        | false ↦ λ isnt. refl
      ] refl)

  pub logged-same : put_back d ≡ put_back (put_one entry c)
  logged-same = all_same (put_one entry c) d (λ line word outside.
      rw (logs_below-same c (put_one entry c) said_by_put) (elim (cases_Bool (is_place entry.place line word)) [
        | inl is ↦ rw (
          said_here line word logs (omega arith) there is,
          not_named (logs_below c logs) entry.place line word free.unnamed is,
          is,
        ) refl
        | inr isnt ↦ rw (said_elsewhere line word logs (omega arith) isnt, isnt, adds.words line word outside isnt) refl
      ]))

  -- ---- the logs still pass

  still_unnamed : (p n : ℕ) → n ≤ logs → entry.place ≢ p → has_place (logs_below c n) p ≡ false → has_place (logs_below d n) p ≡ false
  unfolding logs_below
  still_unnamed p zero le ne h = refl
  still_unnamed p (suc s) le ne h =
      let x = or_parts (has_place (log_of c s) p) (has_place (logs_below c s) p) (sym (named_append (log_of c s) (logs_below c s) p) ∙ h) in
      let lower = still_unnamed p s (omega (arith, le)) ne x.1 in
      named_append (log_of d s) (logs_below d s) p ∙ rw lower (elim (cases_eq s t) [
        | inr other ↦ rw (unchanged_log c d s (adds.others s (omega (arith, le)) other), x.0) refl
        | inl same ↦ (
            let log : log_of d s ≡ log_of c s ++ entry ∷ [] = rw same log_more in
            rw (log, named_append (log_of c s) (entry ∷ []) p, x.0, ne_eqb entry.place p ne) refl)
      ])

  -- the logs below t are as they were
  lower_logs : (s : ℕ) → s ≤ t → logs_below d s ≡ logs_below c s
  unfolding logs_below
  lower_logs zero h = refl
  lower_logs (suc s) h =
      let other : s ≢ t = λ (same : s ≡ t). absurd (omega (arith, same, h)) in
      ap (λ front. front ++ logs_below d s) (unchanged_log c d s (adds.others s (omega (arith, h, there)) other))
      ∙ ap (λ rest. log_of c s ++ rest) (lower_logs s (omega (arith, h)))

  by_entry : (s n : ℕ) (e : Logged) → logged_at d s n ≡ e → may_be_logged size (e.place / 8) ≡ true
      → has_place (first_logged d s n ++ logs_below d s) e.place ≡ false → entry_fault size d s n ≡ None
  by_entry s n e same may none =
      let test : (may_be_logged size ((logged_at d s n).place / 8) && not (has_place (first_logged d s n ++ logs_below d s) (logged_at d s n).place)) ≡ true =
      subst (λ (f : Logged). (may_be_logged size (f.place / 8) && not (has_place (first_logged d s n ++ logs_below d s) f.place)) ≡ true) (sym same)
      (rw (may, none) refl) in
      passes_if (log_entry_line s n, bad.LogPlace)
      (may_be_logged size ((logged_at d s n).place / 8) && not (has_place (first_logged d s n ++ logs_below d s) (logged_at d s n).place)) test

  -- an entry that was there passes as before
  old_entry : (s n : ℕ) → s < logs → n < log_count c s → ((m : ℕ) → m ≤ n → logged_at d s m ≡ logged_at c s m) → entry_fault size d s n ≡ None
  old_entry s n below h same =
      let old = entry_passes size c s n ((log_passes size c s (pass s below)).1 n h) in
      let p = (logged_at c s n).place in
      let front : first_logged d s n ≡ first_logged c s n =
      mapped_same (logged_at d s) (logged_at c s) 0 n (λ j low high. same j (omega (arith, high))) in
      let absent : has_place (log_of c s) entry.place ≡ false = (unnamed_parts c entry.place logs free.unnamed s below).0 in
      let other : entry.place ≢ p = λ (e : entry.place ≡ p). true≢false (sym (named_at c s n h) ∙ rw (← e) absent) in
      let lower : has_place (logs_below d s) p ≡ false = still_unnamed p s (omega (arith, below)) other old.2 in
      let none : has_place (first_logged d s n ++ logs_below d s) p ≡ false =
      rw front (named_append (first_logged c s n) (logs_below d s) p ∙ rw (old.1, lower) refl) in
      by_entry s n (logged_at c s n) (same n (omega arith)) old.0 none

  -- the new entry passes
  new_passes : entry_fault size d t (log_count c t) ≡ None
  new_passes =
      let n = log_count c t in
      let parts = unnamed_parts c entry.place logs free.unnamed t there in
      let front : first_logged d t n ≡ first_logged c t n =
      mapped_same (logged_at d t) (logged_at c t) 0 n (λ j low high. adds.entries j (omega (arith, high))) in
      let lower : logs_below d t ≡ logs_below c t = lower_logs t (omega arith) in
      let none : has_place (first_logged d t n ++ logs_below d t) entry.place ≡ false =
      rw (front, lower) (named_append (first_logged c t n) (logs_below c t) entry.place ∙ rw (parts.0, parts.1) refl) in
      by_entry t n entry adds.added free.may none

  log_still : (s : ℕ) → s < logs → log_count c t < log_entries → log_fault size d s ≡ None
  log_still s below room = elim (cases_eq s t) [
    | inr other ↦ (
        let u = adds.others s below other in
        let entries : first_fault (entry_fault size d s) (log_count c s) ≡ None =
        first_fault-none (entry_fault size d s) (log_count c s) (λ n h. old_entry s n below h (λ m le. u.entries m (omega (arith, h, le)))) in
        rw (u.count, le-leb (log_count c s) log_entries (log_passes size c s (pass s below)).0) entries)
    | inl same ↦ rw same (
        let entries : first_fault (entry_fault size d t) (suc (log_count c t)) ≡ None =
        first_fault-none (entry_fault size d t) (suc (log_count c t)) (λ n h. elim (cases_lt n (log_count c t)) [
          | inl low ↦ old_entry t n there low (λ m le. adds.entries m (omega (arith, low, le)))
          | inr high ↦ (let e : n ≡ log_count c t = omega (arith, h, high) in rw e new_passes)
        ]) in
        rw (adds.count, le-leb (suc (log_count c t)) log_entries (omega (arith, room))) entries)
  ]

  pub logging-keeps : log_count c t < log_entries → LoggingKeeps size c d entry
  unfolding logs_fault
  logging-keeps room = record {
    words = logged-same;
    logs = first_fault-none (log_fault size d) logs (λ s h. log_still s h room);
  }

pub free-logged : (size : ℕ) (c d : Words) (t : ℕ) (entry : Logged) → logs_fault size c ≡ None → t < logs → log_count c t < log_entries
    → IsFree size c entry.place → AddsLogged c d t entry → LoggingKeeps size c d entry
free-logged size c d t entry pass there room free adds = logging-keeps size c d t entry (logs_pass size c pass) there free adds room

pub emptied-log-commits : (size : ℕ) (c d : Words) (t : ℕ) → logs_fault size c ≡ None → t < logs → Empties c d t → EmptyingCommits size c d t
emptied-log-commits size c d t pass there e = emptied-commits size c d t (logs_pass size c pass) there e
