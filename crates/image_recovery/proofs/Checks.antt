-- Checks of logs, entry by entry.
use Rattle.std.proofs.Common.{◌≡◌, ◌<◌, ◌≤◌, ◌+◌, ◌==◌, ◌||◌, not, ℕ, Bool, true, false, List, [], ◌∷◌, ◌++◌, refl, sym, ap}
use Rattle.std.proofs.Common.{◌∙◌, arith, length, if◌then◌else◌, inl, inr, eq-eqb, Less, Equal, Greater}
use Rattle.std.specs.Prelude.{filter, cond}
use Rattle.std.specs.Cmp.{nat_cmp_is}
use Rattle.std.specs.Ordering.{nat_cmp, is_eq}
use Rattle.std.specs.BTreeSet.{BTreeSet, Updates}
use Rattle.std.proofs.lemmas.Bool.{cases_lt, cases_eq, ne_eqb, le-leb}
use Rattle.std.specs.List.{range_with_len, list_any}
use Rattle.std.proofs.lemmas.List.{length-append}
use Rattle.std.proofs.lemmas.List.Folds.{list_any-append}
use Rattle.std.proofs.lemmas.List.FromFn.{map-range_with_len_more}
use Rattle.line_memory.specs.Memory.{Memory, shown}
use Rattle.image_layout.specs.Places.{log_entries}
use Rattle.image_meaning.specs.Checks.{Words, first_fault}
use Rattle.image_meaning.specs.Logs.{Logged, log_count, logged_at, first_logged, has_place, entry_fault, log_fault}
use Rattle.word_changes.specs.Changes.{AllKnown}
use Rattle.graph_model.proofs.Ascending.{filter_range-more}
use Rattle.image_walk.specs.Walking.{Looks, IsFault}
use Rattle.image_walk.specs.declared.fault.RecoverFault.{RecoverFault}
use Rattle.image_recovery.specs.Checked.{HasPlaces}

pub logged_more : (words : Words) (t n : ℕ) → first_logged words t (n + 1) ≡ first_logged words t n ++ logged_at words t n ∷ []
logged_more words t n = map-range_with_len_more (logged_at words t) 0 n n (omega arith)

-- one entry more has one place more
pub place_more : (words : Words) (t n place : ℕ) (below : List Logged)
    → has_place (first_logged words t (n + 1) ++ below) place
    ≡ (has_place (first_logged words t n ++ below) place || (logged_at words t n).place == place)
place_more words t n place below =
    let p : Logged → Bool = λ e. e.place == place in
    let front = first_logged words t n in
    ap (λ (es : List Logged). has_place (es ++ below) place) (logged_more words t n)
    ∙ list_any-append p (front ++ logged_at words t n ∷ []) below
    ∙ ap (λ (b : Bool). b || list_any p below) (list_any-append p front (logged_at words t n ∷ []))
    ∙ turned (list_any p front) ((logged_at words t n).place == place) (list_any p below)
    ∙ ap (λ (b : Bool). b || (logged_at words t n).place == place) (sym (list_any-append p front below))
  where
    turned : (a b c : Bool) → ((a || (b || false)) || c) ≡ ((a || c) || b)
    turned true b c = refl
    turned false true true = refl
    turned false true false = refl
    turned false false true = refl
    turned false false false = refl

-- ---- the places of entries, kept in a set

same_key : (x y : ℕ) → is_eq (nat_cmp x y) ≡ (x == y)
same_key x y = elim (cases_lt x y) [
  | inl less ↦ rw (← nat_cmp_is x y Less less, ne_eqb x y (λ e. absurd (omega (arith, less, e)))) refl
  | inr from ↦ elim (cases_eq x y) [
    | inl e ↦ rw (← nat_cmp_is x y Equal e, eq-eqb x y e) refl
    | inr ne ↦ rw (← nat_cmp_is x y Greater (omega (arith, from, ne)), ne_eqb x y ne) refl
  ]
]

-- an entry more, whose place was put into the set
pub places_more : (words : Words) (t n key : ℕ) (below : List Logged) (places new : BTreeSet ℕ) → key ≡ (logged_at words t n).place
    → Updates nat_cmp places new key true → HasPlaces places (first_logged words t n ++ below)
    → HasPlaces new (first_logged words t (n + 1) ++ below)
places_more words t n key below places new is updates has place =
    updates.0 place
    ∙ rw (same_key key place, has place, place_more words t n place below, is)
    (either ((logged_at words t n).place == place) (has_place (first_logged words t n ++ below) place))
  where
    either : (found others : Bool) → cond found true others ≡ (others || found)
    either true true = refl
    either true false = refl
    either false true = refl
    either false false = refl

-- what a memory that was only looked at shows
pub looked : (first m : Memory) (l w value : ℕ) → AllKnown first → Looks first m → l < first.size → value ≡ shown m l w → value ≡ shown first l w
looked first m l w value known looks below read = read ∙ looks.changes.shows known l w below (λ v none. none)

-- a fault among the entries of a log whose count passes is that of the log
pub entries_fail : (size : ℕ) (words : Words) (t : ℕ) (fault : RecoverFault) → log_count words t ≤ log_entries
    → IsFault (first_fault (entry_fault size words t) (log_count words t)) fault → IsFault (log_fault size words t) fault
entries_fail size words t fault few fails = rw (le-leb (log_count words t) log_entries few) fails

-- one log more that has entries or not
pub undone_more : (words : Words) (t : ℕ)
    → length (filter (λ k. not (log_count words k == 0)) (range_with_len 0 (t + 1)))
    ≡ length (filter (λ k. not (log_count words k == 0)) (range_with_len 0 t)) + (if log_count words t == 0 then 0 else 1)
undone_more words t =
    let p : ℕ → Bool = λ k. not (log_count words k == 0) in
    ap (λ (ls : List ℕ). length ls) (filter_range-more p t)
    ∙ length-append (filter p (range_with_len 0 t)) (if p t then t ∷ [] else [])
    ∙ ap (λ (k : ℕ). length (filter p (range_with_len 0 t)) + k) (ones (log_count words t == 0))
  where
    ones : (b : Bool) → length (if not b then t ∷ [] else []) ≡ (if b then 0 else 1)
    ones true = refl
    ones false = refl

pub at_most_one : (k n : ℕ) → n ≡ (if k == 0 then 0 else 1) → n ≤ 1
at_most_one k n is =
    elim (k == 0) as (λ b. n ≡ (if b then 0 else 1) → n ≤ 1) [ true ↦ λ e. omega (arith, e) | false ↦ λ e. omega (arith, e) ] is
