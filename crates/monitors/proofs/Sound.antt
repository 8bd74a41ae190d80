-- Each key has one monitor, and what is done keeps that.
use Rattle.std.proofs.Common.{◌≡◌, ℕ, zero, suc, pred, ◌<◌, Bool, true, false, cond, List, [], ◌∷◌, length, get_or, nat_eq}
use Rattle.std.proofs.Common.{Option, Some, None, refl, ap, ◌∙◌, sym, arith, subst, inl, inr, rules}
use Rattle.std.proofs.lemmas.Bool.{cases_Bool, false≢true, false_from_ne_true}
use Rattle.ap_base.specs.Causes.{next_count}
use Rattle.monitors.specs.declared.monitor.Monitor.{Monitor}
use Rattle.monitors.specs.Keys.{RefKey, is_key}
use Rattle.monitors.specs.Held.{monitor_of, entered, exited, rekeyed, one_less, IsAt}
use Rattle.monitors.specs.Indexed.{AreSound}
use Rattle.monitors.proofs.Equal.{key_same, other_way}
use Rattle.monitors.proofs.Firsts.{IsFirst}

is_none : Option Monitor → Bool
is_none None = true
is_none (Some m) = false

pub some_none : (m : Monitor) → Some m ≡ None → ⊥
unfolding is_none
some_none m e = false≢true (ap is_none e)

-- none of a list is none of its first, nor of the others
pub none_head : (m : Monitor) (ms : List Monitor) (key : RefKey) → monitor_of (m ∷ ms) key ≡ None → is_key m.key key ≡ false
none_head m ms key free = false_from_ne_true (is_key m.key key) (λ e. some_none m (sym (ap (λ b. cond b (Some m) (monitor_of ms key)) e) ∙ free))

pub none_tail : (m : Monitor) (ms : List Monitor) (key : RefKey) → monitor_of (m ∷ ms) key ≡ None → monitor_of ms key ≡ None
none_tail m ms key free = sym (ap (λ b. cond b (Some m) (monitor_of ms key)) (none_head m ms key free)) ∙ free

none_of : (m : Monitor) (ms : List Monitor) (key : RefKey) → is_key m.key key ≡ false → monitor_of ms key ≡ None → monitor_of (m ∷ ms) key ≡ None
none_of m ms key d free = ap (λ b. cond b (Some m) (monitor_of ms key)) d ∙ free

none_at : (ms : List Monitor) (key : RefKey) (i : ℕ) (d : Monitor) → monitor_of ms key ≡ None → i < length ms → is_key (get_or ms i d).key key ≡ false
none_at [] key i d free l = absurd (omega (arith, l))
none_at (m ∷ ms) key zero d free l = none_head m ms key free
none_at (m ∷ ms) key (suc i) d free l = none_at ms key i d (none_tail m ms key free) (omega (arith, l))

none_before : (ms : List Monitor) (key : RefKey) (i k : ℕ) (d : Monitor) → AreSound ms → i < length ms → is_key (get_or ms i d).key key ≡ true → k < i
    → is_key (get_or ms k d).key key ≡ false
none_before [] key i k d sound l e below = absurd (omega (arith, l))
none_before (m ∷ ms) key zero k d sound l e below = absurd (omega (arith, below))
none_before (m ∷ ms) key (suc i) zero d sound l e below =
    let inside : i < length ms = omega (arith, l) in
    false_from_ne_true (is_key m.key key) (λ same.
    let free : monitor_of ms key ≡ None = subst (λ (k : RefKey). monitor_of ms k ≡ None) (key_same m.key key same) sound.1 in
    false≢true (sym (none_at ms key i d free inside) ∙ e))
none_before (m ∷ ms) key (suc i) (suc k) d sound l e below =
    none_before ms key i k d sound.2 (omega (arith, l)) e (omega (arith, below))

pub is_first : (ms : List Monitor) (key : RefKey) (i : ℕ) → AreSound ms → IsAt ms key i → IsFirst ms key i
is_first ms key i sound at = record {
  is_in = at.is_in;
  is_it = at.is_it;
  before = λ d k below. none_before ms key i k d sound at.is_in (at.is_it d) below;
}

none_entered : (ms : List Monitor) (key k : RefKey) (t : ℕ) → is_key key k ≡ false → monitor_of ms k ≡ None → monitor_of (entered ms key t) k ≡ None
none_entered [] key k t d free = none_of (record { key = key; owner = t; count = 1 }) [] k d refl
none_entered (m ∷ ms) key k t d free = elim (cases_Bool (is_key m.key key)) [
  | inl e ↦ rw e (none_of (record m { count = next_count m.count }) ms k (none_head m ms k free) (none_tail m ms k free))
  | inr e ↦ rw e (none_of m (entered ms key t) k (none_head m ms k free) (none_entered ms key k t d (none_tail m ms k free)))
]

next_some : (n : ℕ) → 0 < next_count n
next_some n = search rules

pub sound_entered : (ms : List Monitor) (key : RefKey) (t : ℕ) → AreSound ms → AreSound (entered ms key t)
sound_entered [] key t sound = (omega arith, refl, tt)
sound_entered (m ∷ ms) key t sound = elim (cases_Bool (is_key m.key key)) [
  | inl e ↦ rw e (next_some m.count, sound.1, sound.2)
  | inr e ↦ rw e (sound.0, none_entered ms key m.key t (other_way m.key key e) sound.1, sound_entered ms key t sound.2)
]

none_one_less : (m : Monitor) (ms : List Monitor) (k : RefKey) → monitor_of (m ∷ ms) k ≡ None → monitor_of (one_less m ms) k ≡ None
none_one_less m ms k free = elim (cases_Bool (nat_eq m.count 1)) [
  | inl e ↦ rw e (none_tail m ms k free)
  | inr e ↦ rw e (none_of (record m { count = pred m.count }) ms k (none_head m ms k free) (none_tail m ms k free))
]

none_exited : (ms : List Monitor) (key k : RefKey) → monitor_of ms k ≡ None → monitor_of (exited ms key) k ≡ None
none_exited [] key k free = refl
none_exited (m ∷ ms) key k free = elim (cases_Bool (is_key m.key key)) [
  | inl e ↦ rw e (none_one_less m ms k free)
  | inr e ↦ rw e (none_of m (exited ms key) k (none_head m ms k free) (none_exited ms key k (none_tail m ms k free)))
]

less_some : (n : ℕ) → 0 < n → nat_eq n 1 ≡ false → 0 < pred n
less_some zero some e = absurd (omega (arith, some))
less_some (suc zero) some e = absurd (false≢true (sym e))
less_some (suc (suc n)) some e = omega arith

sound_one_less : (m : Monitor) (ms : List Monitor) → AreSound (m ∷ ms) → AreSound (one_less m ms)
sound_one_less m ms sound = elim (cases_Bool (nat_eq m.count 1)) [
  | inl e ↦ rw e sound.2
  | inr e ↦ rw e (less_some m.count sound.0 e, sound.1, sound.2)
]

pub sound_exited : (ms : List Monitor) (key : RefKey) → AreSound ms → AreSound (exited ms key)
sound_exited [] key sound = tt
sound_exited (m ∷ ms) key sound = elim (cases_Bool (is_key m.key key)) [
  | inl e ↦ rw e (sound_one_less m ms sound)
  | inr e ↦ rw e (sound.0, none_exited ms key m.key sound.1, sound_exited ms key sound.2)
]

none_rekeyed : (ms : List Monitor) (from to k : RefKey) → is_key to k ≡ false → monitor_of ms k ≡ None → monitor_of (rekeyed ms from to) k ≡ None
none_rekeyed [] from to k d free = refl
none_rekeyed (m ∷ ms) from to k d free = elim (cases_Bool (is_key m.key from)) [
  | inl e ↦ rw e (none_of (record m { key = to }) ms k d (none_tail m ms k free))
  | inr e ↦ rw e (none_of m (rekeyed ms from to) k (none_head m ms k free) (none_rekeyed ms from to k d (none_tail m ms k free)))
]

pub sound_rekeyed : (ms : List Monitor) (from to : RefKey) → AreSound ms → monitor_of ms to ≡ None → AreSound (rekeyed ms from to)
sound_rekeyed [] from to sound free = tt
sound_rekeyed (m ∷ ms) from to sound free = elim (cases_Bool (is_key m.key from)) [
  | inl e ↦ rw e (sound.0, none_tail m ms to free, sound.2)
  | inr e ↦ rw e (
    sound.0,
    none_rekeyed ms from to m.key (other_way m.key to (none_head m ms to free)) sound.1,
    sound_rekeyed ms from to sound.2 (none_tail m ms to free),
  )
]
