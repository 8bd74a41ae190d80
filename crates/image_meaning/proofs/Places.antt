-- The places of logs that pass: each is once, and none lies in front of the objects but a root slot's.
use Rattle.std.proofs.Common.{◌≡◌, ℕ, suc, ◌+◌, ◌/◌, ◌%◌, ◌<◌, ◌≤◌, ◌==◌, ◌&&◌, ◌||◌, Bool, true, false, List, [], ◌∷◌, ◌++◌}
use Rattle.std.proofs.Common.{length, nat_le, Some, None, refl, sym, ◌∙◌, subst, arith, slice_index_or, if◌then◌else◌}
use Rattle.std.specs.Prelude.{not}
use Rattle.std.proofs.lemmas.Bool.{and_parts, eq-eqb, eqb-true, leb-true, not-true, true≢false}
use Rattle.std.proofs.lemmas.List.FromFn.{map-range_with_len_more, length-map-range_with_len, get_or-map-range_with_len}
use Rattle.std.proofs.lemmas.List.Folds.{list_any-append}
use Rattle.image_layout.specs.declared.superblock.BadReason.TheVariants as bad
use Rattle.image_layout.specs.Places.{log_entries, log_head_line, log_entry_line}
use Rattle.image_meaning.specs.Checks.{Words, Bad, fails_unless, first_fault}
use Rattle.image_meaning.specs.Logs.{Logged, log_count, logged_at, first_logged, log_of, logs_below, may_be_logged, has_place}
use Rattle.image_meaning.specs.Logs.{entry_fault, log_fault, is_place, old_word}
use Rattle.image_meaning.proofs.Faults.{first_fault-passes, both_none}

abbrev no_entry : Logged
no_entry = record { place = 0; old = 0 }

pub first_more : (c : Words) (t n : ℕ) → first_logged c t (n + 1) ≡ first_logged c t n ++ logged_at c t n ∷ []
first_more c t n = map-range_with_len_more (logged_at c t) 0 n n (omega arith)

-- an old word that is found is that of an entry
found_in : (entries : List Logged) (line word old : ℕ) → old_word entries line word ≡ Some old
    → (k : ℕ) × (k < length entries) × (is_place (slice_index_or entries k no_entry).place line word ≡ true)
found_in [] line word old h = absurd (let e : None ≡ Some old = h in cc)
found_in (e ∷ entries) line word old h =
    elim (is_place e.place line word) as (λ b. is_place e.place line word ≡ b
    → (if b then Some e.old else old_word entries line word) ≡ Some old
    → (k : ℕ) × (k < length (e ∷ entries)) × (is_place (slice_index_or (e ∷ entries) k no_entry).place line word ≡ true)) [
      | true ↦ λ here _. (0, omega arith, here)
      | false ↦ λ here rest. (let more = found_in entries line word old rest in (suc more.0, omega (arith, more.1), more.2))
    ] refl h

pub one_place : (p q line word : ℕ) → is_place p line word ≡ true → is_place q line word ≡ true → p ≡ q
one_place p q line word a b =
    let x = and_parts (p / 8 == line) (p % 8 == word) a in
    let y = and_parts (q / 8 == line) (q % 8 == word) b in
    let pl = eqb-true (p / 8) line x.0 in
    let pw = eqb-true (p % 8) word x.1 in
    let ql = eqb-true (q / 8) line y.0 in
    let qw = eqb-true (q % 8) word y.1 in
    omega (arith, pl, pw, ql, qw)

or_false : (a b : Bool) → (a || b) ≡ false → (a ≡ false) × (b ≡ false)
or_false false b h = (refl, h)
or_false true b h = absurd (true≢false h)

-- where no entry has the place, there is no old word
pub not_named : (entries : List Logged) (p line word : ℕ) → has_place entries p ≡ false → is_place p line word ≡ true
    → old_word entries line word ≡ None
not_named [] p line word h here = refl
not_named (e ∷ entries) p line word h here =
    let x = or_false (e.place == p) (has_place entries p) h in
    elim (is_place e.place line word) as (λ b. is_place e.place line word ≡ b
    → (if b then Some e.old else old_word entries line word) ≡ None) [
      | true ↦ λ there. absurd (true≢false (sym (eq-eqb e.place p (one_place e.place p line word there here)) ∙ x.0))
      | false ↦ λ there. not_named entries p line word x.1 here
    ] refl

-- ---- logs that pass

pub passed : (b : Bool) (bad : Bad) → fails_unless b bad ≡ None → b ≡ true
passed true bad h = refl
passed false bad h = absurd (let e : Some bad ≡ None = h in cc)

-- the count of a log that passes, and each of its entries
pub log_passes : (size : ℕ) (c : Words) (t : ℕ) → log_fault size c t ≡ None
    → (log_count c t ≤ log_entries) × ((n : ℕ) → n < log_count c t → entry_fault size c t n ≡ None)
log_passes size c t h =
    let parts = both_none (fails_unless (nat_le (log_count c t) log_entries) (log_head_line t, bad.LogCount))
    (first_fault (entry_fault size c t) (log_count c t)) h in (
      leb-true (log_count c t) log_entries (passed (nat_le (log_count c t) log_entries) (log_head_line t, bad.LogCount) parts.0),
      first_fault-passes (entry_fault size c t) (log_count c t) parts.1,
    )

-- the place of an entry that passes
pub entry_passes : (size : ℕ) (c : Words) (t n : ℕ) → entry_fault size c t n ≡ None
    → (may_be_logged size ((logged_at c t n).place / 8) ≡ true)
    × (has_place (first_logged c t n) (logged_at c t n).place ≡ false) × (has_place (logs_below c t) (logged_at c t n).place ≡ false)
entry_passes size c t n h =
    let place = (logged_at c t n).place in
    let test = passed (may_be_logged size (place / 8) && not (has_place (first_logged c t n ++ logs_below c t) place)) (log_entry_line t n, bad.LogPlace) h in
    let parts = and_parts (may_be_logged size (place / 8)) (not (has_place (first_logged c t n ++ logs_below c t) place)) test in
    let none = not-true (has_place (first_logged c t n ++ logs_below c t) place) parts.1 in
    let split = or_false (has_place (first_logged c t n) place) (has_place (logs_below c t) place)
    (sym (list_any-append (λ (e : Logged). e.place == place) (first_logged c t n) (logs_below c t)) ∙ none) in
    (parts.0, split.0, split.1)

-- which entry of log t an old word is that of
pub in_log : (c : Words) (t line word old : ℕ) → old_word (log_of c t) line word ≡ Some old
    → (n : ℕ) × (n < log_count c t) × (is_place (logged_at c t n).place line word ≡ true)
in_log c t line word old h =
    let found = found_in (log_of c t) line word old h in
    let below : found.0 < log_count c t = rw (length-map-range_with_len (logged_at c t) 0 (log_count c t)) at found.1 in
    let entry : slice_index_or (log_of c t) found.0 no_entry ≡ logged_at c t found.0 =
    get_or-map-range_with_len (logged_at c t) 0 (log_count c t) found.0 found.0 no_entry below (omega arith) in
    (found.0, below, rw entry at found.2)

-- a place of a log that passes is in none of the lower ones
pub once : (size : ℕ) (c : Words) (t line word old : ℕ) → log_fault size c t ≡ None → old_word (log_of c t) line word ≡ Some old
    → old_word (logs_below c t) line word ≡ None
once size c t line word old pass h =
    let found = in_log c t line word old h in
    let entry = entry_passes size c t found.0 ((log_passes size c t pass).1 found.0 found.1) in
    not_named (logs_below c t) (logged_at c t found.0).place line word entry.2 found.2

-- and may be logged
pub in_place : (size : ℕ) (c : Words) (t line word old : ℕ) → log_fault size c t ≡ None → old_word (log_of c t) line word ≡ Some old
    → may_be_logged size line ≡ true
in_place size c t line word old pass h =
    let found = in_log c t line word old h in
    let entry = entry_passes size c t found.0 ((log_passes size c t pass).1 found.0 found.1) in
    let parts = and_parts ((logged_at c t found.0).place / 8 == line) ((logged_at c t found.0).place % 8 == word) found.2 in
    subst (λ l. may_be_logged size l ≡ true) (eqb-true ((logged_at c t found.0).place / 8) line parts.0) entry.0
