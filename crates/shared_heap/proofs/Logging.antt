-- The logs of all threads as one list, and what becomes of it where one of them changes.
use Rattle.std.proofs.Common.{◌≡◌, ◌≢◌, inl, inr, ℕ, zero, suc, ◌<◌, List, [], ◌∷◌, length, refl, sym, ◌∙◌, ap, arith}
use Rattle.std.specs.Prelude.{slice_index_or, slice_set}
use Rattle.std.proofs.lemmas.List.{get_or_default, get_or-set_same, get_or-set_other, get_or_append_left, get_or_at, length-set}
use Rattle.std.proofs.lemmas.List.{length-append, same_lists}
use Rattle.region_log.specs.Log.{Log}
use Rattle.twin_forms.proofs.Led.{same_or_not, below_or_not}
use Rattle.store_barrier.specs.Passed.{empty_log, log_of}
use Rattle.shared_heap.specs.First.{empty_logs, logs_to}
use Rattle.shared_heap.specs.Shared.{Shared}
use Rattle.shared_heap.specs.Regions.{with_log_of}

-- ---- lists

abbrev log_in : List Log → ℕ → Log
log_in logs t = slice_index_or logs t (empty_log t)

pub same_set : (old new : List Log) (t : ℕ) (log : Log) → length old ≡ 64 → length new ≡ 64 → t < 64
    → ((s : ℕ) → s ≢ t → log_in new s ≡ log_in old s) → log_in new t ≡ log → new ≡ slice_set old t log
same_set old new t log long_old long_new lt others here =
    same_lists new (slice_set old t log) (long_new ∙ sym (length-set old t log ∙ long_old)) at
  where
    at : (k : ℕ) (d : Log) → k < length new → slice_index_or new k d ≡ slice_index_or (slice_set old t log) k d
    at k d lk = elim (same_or_not k t) [
      | inl same ↦ get_or_default new k d (empty_log k) lk ∙ ap (log_in new) same ∙ here
          ∙ sym (ap (λ j. slice_index_or (slice_set old t log) j d) same
          ∙ get_or-set_same old t log d (omega (arith, lt, long_old)))
      | inr other ↦ get_or_default new k d (empty_log k) lk ∙ others k other
          ∙ get_or_default old k (empty_log k) d (omega (arith, lk, long_old, long_new))
          ∙ sym (get_or-set_other old t k log d other)
    ]

pub long_to : (n : ℕ) → length (logs_to n) ≡ n
long_to zero = refl
long_to (suc n) = length-append (logs_to n) (empty_log n ∷ []) ∙ (let rest = long_to n in omega (arith, rest))

pub at_to : (n k : ℕ) (d : Log) → k < n → slice_index_or (logs_to n) k d ≡ empty_log k
at_to zero k d lt = absurd (omega (arith, lt))
at_to (suc n) k d lt = let long = long_to n in elim (below_or_not k n) [
  | inl low ↦ get_or_append_left (logs_to n) (empty_log n ∷ []) d k (omega (arith, low, long)) ∙ at_to n k d low
  | inr high ↦ (let same : k ≡ n = omega (arith, lt, high) in
      ap (λ j. slice_index_or (logs_to (suc n)) j d) same
      ∙ get_or_at (logs_to n) (empty_log n) [] d n long ∙ ap empty_log (sym same))
]

pub all_empty : (all : List Log) → length all ≡ 64 → ((t : ℕ) → log_in all t ≡ empty_log t) → all ≡ empty_logs
all_empty all long each = same_lists all empty_logs (long ∙ sym (long_to 64)) (λ k d lk.
    get_or_default all k d (empty_log k) lk ∙ each k ∙ sym (at_to 64 k d (omega (arith, lk, long))))

-- ---- a shared heap

-- A thread's log becomes another, by what it was.
pub logs_become : (old now : Shared) (logs : List Log) (t : ℕ) (change : Log → Log) → old ≡ now
    → logs ≡ slice_set old.machine.logs t (change (log_of old.machine t))
    → record old { machine = record old.machine { logs = logs } }
    ≡ with_log_of now t (change (log_of now.machine t))
logs_become old now logs t change e is =
    ap (λ (l : List Log). record old { machine = record old.machine { logs = l } }) is
    ∙ ap (λ (s : Shared). with_log_of s t (change (log_of s.machine t))) e
