-- What stands at the first monitor of a key.
use Rattle.std.proofs.Common.{◌≡◌, ℕ, zero, suc, ◌<◌, true, false, cond, List, [], ◌∷◌, ◌++◌, length, get_or, set, take, drop}
use Rattle.std.proofs.Common.{nat_eq, pred, Some, None, refl, ap, ◌∙◌, arith}
use Rattle.ap_base.specs.Causes.{next_count}
use Rattle.monitors.specs.declared.monitor.Monitor.{Monitor}
use Rattle.monitors.specs.Keys.{RefKey, is_key}
use Rattle.monitors.specs.Held.{monitor_of, entered, exited, rekeyed, one_less, IsFree}

-- the first monitor of a key
pub record IsFirst (ms : List Monitor) (key : RefKey) (i : ℕ) : Type 0 where
  pub is_in : i < length ms
  pub is_it : (d : Monitor) → is_key (get_or ms i d).key key ≡ true
  pub before : (d : Monitor) (k : ℕ) → k < i → is_key (get_or ms k d).key key ≡ false

pub first_after : (m : Monitor) (ms : List Monitor) (key : RefKey) (i : ℕ) → IsFirst (m ∷ ms) key (suc i) → IsFirst ms key i
first_after m ms key i first = record {
  is_in = omega (arith, first.is_in);
  is_it = first.is_it;
  before = λ d k below. first.before d (suc k) (omega (arith, below));
}

pub held_first : (ms : List Monitor) (key : RefKey) (i : ℕ) (d : Monitor) → IsFirst ms key i → monitor_of ms key ≡ Some (get_or ms i d)
held_first [] key i d first = absurd (omega (arith, first.is_in))
held_first (m ∷ ms) key zero d first = ap (λ b. cond b (Some m) (monitor_of ms key)) (first.is_it d)
held_first (m ∷ ms) key (suc i) d first =
    ap (λ b. cond b (Some m) (monitor_of ms key)) (first.before d zero (omega arith)) ∙ held_first ms key i d (first_after m ms key i first)

pub free_after : (m : Monitor) (ms : List Monitor) (key : RefKey) → IsFree (m ∷ ms) key → IsFree ms key
free_after m ms key free d k below = free d (suc k) (omega (arith, below))

pub held_free : (ms : List Monitor) (key : RefKey) → IsFree ms key → monitor_of ms key ≡ None
held_free [] key free = refl
held_free (m ∷ ms) key free =
    ap (λ b. cond b (Some m) (monitor_of ms key)) (free m zero (omega arith)) ∙ held_free ms key (free_after m ms key free)

pub entered_first : (ms : List Monitor) (key : RefKey) (t i : ℕ) (d : Monitor) → IsFirst ms key i
    → entered ms key t ≡ set ms i (record (get_or ms i d) { count = next_count (get_or ms i d).count })
entered_first [] key t i d first = absurd (omega (arith, first.is_in))
entered_first (m ∷ ms) key t zero d first =
    ap (λ b. cond b (record m { count = next_count m.count } ∷ ms) (m ∷ entered ms key t)) (first.is_it d)
entered_first (m ∷ ms) key t (suc i) d first =
    ap (λ b. cond b (record m { count = next_count m.count } ∷ ms) (m ∷ entered ms key t)) (first.before d zero (omega arith))
    ∙ ap (λ rest. m ∷ rest) (entered_first ms key t i d (first_after m ms key i first))

pub exited_last : (ms : List Monitor) (key : RefKey) (i : ℕ) (d : Monitor) → IsFirst ms key i → nat_eq (get_or ms i d).count 1 ≡ true
    → exited ms key ≡ take i ms ++ drop (suc i) ms
exited_last [] key i d first e = absurd (omega (arith, first.is_in))
exited_last (m ∷ ms) key zero d first e = ap (λ b. cond b (one_less m ms) (m ∷ exited ms key)) (first.is_it d)
    ∙ ap (λ b. cond b ms (record m { count = pred m.count } ∷ ms)) e
exited_last (m ∷ ms) key (suc i) d first e =
    ap (λ b. cond b (one_less m ms) (m ∷ exited ms key)) (first.before d zero (omega arith))
    ∙ ap (λ rest. m ∷ rest) (exited_last ms key i d (first_after m ms key i first) e)

pub exited_once : (ms : List Monitor) (key : RefKey) (i : ℕ) (d : Monitor) → IsFirst ms key i → nat_eq (get_or ms i d).count 1 ≡ false
    → exited ms key ≡ set ms i (record (get_or ms i d) { count = pred (get_or ms i d).count })
exited_once [] key i d first e = absurd (omega (arith, first.is_in))
exited_once (m ∷ ms) key zero d first e = ap (λ b. cond b (one_less m ms) (m ∷ exited ms key)) (first.is_it d)
    ∙ ap (λ b. cond b ms (record m { count = pred m.count } ∷ ms)) e
exited_once (m ∷ ms) key (suc i) d first e =
    ap (λ b. cond b (one_less m ms) (m ∷ exited ms key)) (first.before d zero (omega arith))
    ∙ ap (λ rest. m ∷ rest) (exited_once ms key i d (first_after m ms key i first) e)

pub entered_free : (ms : List Monitor) (key : RefKey) (t : ℕ) → monitor_of ms key ≡ None
    → ((m : Monitor) (ns : List Monitor) → monitor_of (m ∷ ns) key ≡ None → (is_key m.key key ≡ false) × (monitor_of ns key ≡ None))
    → entered ms key t ≡ ms ++ record { key = key; owner = t; count = 1 } ∷ []
entered_free [] key t free split = refl
entered_free (m ∷ ms) key t free split =
    ap (λ b. cond b (record m { count = next_count m.count } ∷ ms) (m ∷ entered ms key t)) (split m ms free).0
    ∙ ap (λ rest. m ∷ rest) (entered_free ms key t (split m ms free).1 split)

pub rekeyed_first : (ms : List Monitor) (from to : RefKey) (i : ℕ) (d : Monitor) → IsFirst ms from i
    → rekeyed ms from to ≡ set ms i (record (get_or ms i d) { key = to })
rekeyed_first [] from to i d first = absurd (omega (arith, first.is_in))
rekeyed_first (m ∷ ms) from to zero d first = ap (λ b. cond b (record m { key = to } ∷ ms) (m ∷ rekeyed ms from to)) (first.is_it d)
rekeyed_first (m ∷ ms) from to (suc i) d first =
    ap (λ b. cond b (record m { key = to } ∷ ms) (m ∷ rekeyed ms from to)) (first.before d zero (omega arith))
    ∙ ap (λ rest. m ∷ rest) (rekeyed_first ms from to i d (first_after m ms from i first))

pub rekeyed_free : (ms : List Monitor) (from to : RefKey) → IsFree ms from → rekeyed ms from to ≡ ms
rekeyed_free [] from to free = refl
rekeyed_free (m ∷ ms) from to free =
    ap (λ b. cond b (record m { key = to } ∷ ms) (m ∷ rekeyed ms from to)) (free m zero (omega arith))
    ∙ ap (λ rest. m ∷ rest) (rekeyed_free ms from to (free_after m ms from free))
