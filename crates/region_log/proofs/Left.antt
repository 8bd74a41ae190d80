-- What a stop leaves of a log that is kept.
use Rattle.std.proofs.Common.{◌≡◌, ◌⊎◌, inl, inr, ⊎_elim, ◌+◌, ℕ, suc, List, [], ◌∷◌, ◌++◌, length, map, refl, sym, ◌∙◌, ap}
use Rattle.std.proofs.Common.{subst, arith}
use Rattle.std.specs.List.{range_with_len}
use Rattle.std.proofs.lemmas.List.{length_push}
use Rattle.image_layout.specs.Places.{log_head_line, log_entry_line, log_entry_word}
use Rattle.image_meaning.specs.Logs.{Logged, logged_at, first_logged}
use Rattle.line_image.specs.Trace.{Outcome}
use Rattle.line_memory.specs.Memory.{Memory, CanLeaveAll}
use Rattle.region_log.specs.declared.entry.Entry.{Entry}
use Rattle.region_log.specs.declared.entry.EntryStage.{EntryStage}
use Rattle.region_log.specs.declared.entry.EntryStage.TheVariants.{Begun, Written, Fenced, Counting, Counted}
use Rattle.region_log.specs.declared.entry.EndStage.{EndStage}
use Rattle.region_log.specs.declared.entry.EndStage.TheVariants.{Writing, AllFenced, Clearing, Cleared}
use Rattle.region_log.specs.declared.entry.Underway.{Underway}
use Rattle.region_log.specs.declared.entry.Underway.TheVariants.{Nothing, Adding, Ending}
use Rattle.region_log.specs.Kept.{HasEntry, HasEntries, IsWhole, IsCounting, IsClearing, HoldsAdding, HoldsEnding}
use Rattle.region_log.specs.Kept.{HoldsUnderway}
use Rattle.region_log.specs.Log.{logged_of, LeftEntries, LeftAdding, LeftEnding, LeftUnderway}

-- one entry more
pub entries-append : (m : Memory) (t n : ℕ) (entries : List Entry) (e : Entry) → HasEntries m t n entries
    → HasEntry m t (n + length entries) (logged_of e) → HasEntries m t n (entries ++ e ∷ [])
entries-append m t n [] e has one =
    let at : n + 0 ≡ n = omega arith in
    let here : HasEntry m t n (logged_of e) = subst (λ (k : ℕ). HasEntry m t k (logged_of e)) at one in
    (here, tt)
entries-append m t n (first ∷ entries) e has one =
    let at : n + suc (length entries) ≡ n + 1 + length entries = omega arith in (
      has.0,
      entries-append m t (n + 1) entries e has.1
          (subst (λ (k : ℕ). HasEntry m t k (logged_of e)) at one),
    )

module _ (m : Memory) (c : Outcome) (all : CanLeaveAll m c) (t : ℕ) where
  pub entry_left : (n : ℕ) (e : Logged) → HasEntry m t n e → logged_at c t n ≡ e
  entry_left n e has =
      let place = has.place (c (log_entry_line t n) (log_entry_word n))
      (all (log_entry_line t n) (log_entry_word n)) in
      let old = has.old (c (log_entry_line t n) (log_entry_word n + 1))
      (all (log_entry_line t n) (log_entry_word n + 1)) in
      rw (place, old) refl

  entries_left : (n : ℕ) (entries : List Entry) → HasEntries m t n entries
      → map (logged_at c t) (range_with_len n (length entries)) ≡ map logged_of entries
  entries_left n [] has = refl
  entries_left n (e ∷ entries) has =
      rw (entry_left n (logged_of e) has.0, entries_left (n + 1) entries has.1) refl

  -- a stop left the count of these entries
  counted_left : (entries : List Entry) → c (log_head_line t) 0 ≡ length entries → HasEntries m t 0 entries
      → LeftEntries t entries c
  counted_left entries count has = ap (first_logged c t) count ∙ entries_left 0 entries has

  pub whole_left : (entries : List Entry) → IsWhole m t entries → LeftEntries t entries c
  whole_left entries whole =
      counted_left entries (whole.count (c (log_head_line t) 0) (all (log_head_line t) 0)) whole.each

  counting_left : (entries : List Entry) (e : Entry) → IsCounting m t entries e
      → LeftEntries t entries c ⊎ LeftEntries t (entries ++ e ∷ []) c
  counting_left entries e is = ⊎_elim
      (λ (old : c (log_head_line t) 0 ≡ length entries). inl (counted_left entries old is.each))
      (λ (new : c (log_head_line t) 0 ≡ length entries + 1).
      inr (counted_left (entries ++ e ∷ []) (new ∙ sym (length_push entries e))
      (entries-append m t 0 entries e is.each (subst (λ (k : ℕ). HasEntry m t k (logged_of e)) (omega arith)
      is.entry))))
      (is.count (c (log_head_line t) 0) (all (log_head_line t) 0))

  clearing_left : (entries : List Entry) → IsClearing m t entries
      → LeftEntries t entries c ⊎ LeftEntries t [] c
  clearing_left entries is = ⊎_elim
      (λ (old : c (log_head_line t) 0 ≡ length entries). inl (counted_left entries old is.each))
      (λ (none : c (log_head_line t) 0 ≡ 0). inr (counted_left [] none tt))
      (is.count (c (log_head_line t) 0) (all (log_head_line t) 0))

  pub adding_left : (entries : List Entry) (e : Entry) (stage : EntryStage)
      → HoldsAdding m t entries e stage → LeftAdding t entries e stage c
  adding_left entries e Begun is = whole_left entries is
  adding_left entries e Written is = whole_left entries is.0
  adding_left entries e Fenced is = whole_left entries is.0
  adding_left entries e Counting is = counting_left entries e is
  adding_left entries e Counted is = counting_left entries e is.0

  pub ending_left : (entries : List Entry) (stage : EndStage) → HoldsEnding m t entries stage
      → LeftEnding t entries stage c
  ending_left entries (Writing lines) is = whole_left entries is
  ending_left entries AllFenced is = whole_left entries is
  ending_left entries Clearing is = clearing_left entries is
  ending_left entries Cleared is = clearing_left entries is.0

  pub underway_left : (entries : List Entry) (underway : Underway) → HoldsUnderway m t entries underway
      → LeftUnderway t entries underway c
  underway_left entries Nothing is = whole_left entries is
  underway_left entries (Adding e stage) is = adding_left entries e stage is
  underway_left entries (Ending stage) is = ending_left entries stage is
