-- What an entry, an exit and another key leave.
use Rattle.std.proofs.Common.{◌≡◌, ◌≢◌, ℕ, zero, suc, pred, ◌<◌, ◌≤◌, ◌+◌, ◌-◌, true, false, cond, nat_eq, List, [], ◌∷◌, ◌++◌}
use Rattle.std.proofs.Common.{length, get_or, set, take, drop, Some, None, refl, ap, ◌∙◌, sym, arith, subst, sub-one, eq-eqb}
use Rattle.std.proofs.Common.{inl, inr, ◌↔◌}
use Rattle.std.proofs.lemmas.Bool.{cases_eq, ne_eqb, false≢true}
use Rattle.std.proofs.lemmas.List.{get_or_append_left, get_or-take, get_or-set_other, get_or-set_same, get_or_read, length-set}
use Rattle.std.proofs.lemmas.List.{length-append, length-take, length-drop}
use Rattle.ap_base.specs.Causes.{next_count}
use Rattle.monitors.specs.declared.monitor.Monitor.{Monitor}
use Rattle.monitors.specs.declared.monitor.Enter.TheVariants.{Taken, Held}
use Rattle.monitors.specs.Keys.{RefKey, bucket_of}
use Rattle.monitors.specs.Held.{monitor_of, entry_of, enter_answer, entered, exited, owner_of, rekeyed, IsAt, IsFree, IsHeldBy}
use Rattle.monitors.specs.Indexed.{IsIndex, AreSound, AreHeld, bucket_at, nobody}
use Rattle.monitors.proofs.Firsts.{held_first, held_free, entered_first, entered_free, exited_last, exited_once, rekeyed_first}
use Rattle.monitors.proofs.Indexing.{index_same}
use Rattle.monitors.proofs.Sound.{is_first, none_head, none_tail, sound_entered, sound_exited, sound_rekeyed}

pub found_is : (ms : List Monitor) (key : RefKey) (i : ℕ) (h : Monitor) → AreSound ms → IsAt ms key i → h ≡ get_or ms i h → monitor_of ms key ≡ Some h
found_is ms key i h sound at e = held_first ms key i h (is_first ms key i sound at) ∙ ap Some (sym e)

pub owner_found : (ms : List Monitor) (key : RefKey) (i : ℕ) (h : Monitor) → AreSound ms → IsAt ms key i → h ≡ get_or ms i h
    → Some h.owner ≡ owner_of (monitor_of ms key)
owner_found ms key i h sound at e = sym (ap owner_of (found_is ms key i h sound at e))

pub answer_held : (ms : List Monitor) (key : RefKey) (t i : ℕ) (h : Monitor) → AreSound ms → IsAt ms key i → h ≡ get_or ms i h → h.owner ≢ t
    → Held h.owner ≡ enter_answer t ms key
answer_held ms key t i h sound at e other =
    sym (ap (entry_of t (length ms)) (found_is ms key i h sound at e) ∙ ap (λ b. cond b Taken (Held h.owner)) (ne_eqb h.owner t other))

pub answer_taken : (ms : List Monitor) (key : RefKey) (t i : ℕ) (h : Monitor) → AreSound ms → IsAt ms key i → h ≡ get_or ms i h → h.owner ≡ t
    → Taken ≡ enter_answer t ms key
answer_taken ms key t i h sound at e same =
    sym (ap (entry_of t (length ms)) (found_is ms key i h sound at e) ∙ ap (λ b. cond b Taken (Held h.owner)) (eq-eqb h.owner t same))

-- what is read twice at one place is the same
read_again : (ms : List Monitor) (i : ℕ) (m h : Monitor) → i < length ms → m ≡ get_or ms i m → m ≡ get_or ms i h
read_again ms i m h l e = get_or_read ms i m l e h

pub set_entered : (ms : List Monitor) (key : RefKey) (t i n : ℕ) (h m : Monitor) → AreSound ms → IsAt ms key i → h ≡ get_or ms i h → m ≡ get_or ms i m
    → n ≡ next_count h.count → set ms i (record { key = m.key; owner = m.owner; count = n }) ≡ entered ms key t
set_entered ms key t i n h m sound at e f count =
    let same : m ≡ h = read_again ms i m h at.is_in f ∙ sym e in
    let next : n ≡ next_count m.count = count ∙ ap (λ (x : Monitor). next_count x.count) (sym same) in
    let here : set ms i (record m { count = next_count m.count }) ≡ set ms i (record (get_or ms i h) { count = next_count (get_or ms i h).count })
    = ap (λ (x : Monitor). set ms i (record x { count = next_count x.count })) (read_again ms i m h at.is_in f) in
    ap (λ c. set ms i (record m { count = c })) next ∙ here ∙ sym (entered_first ms key t i h (is_first ms key i sound at))

bucket_set : (ms : List Monitor) (i k : ℕ) (x m : Monitor) → i < length ms → m ≡ get_or ms i m → x.key ≡ m.key → bucket_at ms k ≡ bucket_at (set ms i x) k
bucket_set ms i k x m l e same = elim (cases_eq k i) [
  | inl here ↦ rw here (ap (λ (n : Monitor). bucket_of n.key) (sym (get_or_read ms i m l e nobody)) ∙ ap bucket_of (sym same)
      ∙ ap (λ (n : Monitor). bucket_of n.key) (sym (get_or-set_same ms i x nobody l)))
  | inr other ↦ ap (λ (n : Monitor). bucket_of n.key) (sym (get_or-set_other ms i k x nobody other))
]

-- a monitor is changed, and keeps its key
pub held_set : (ms : List Monitor) (room i : ℕ) (latest earlier : List ℕ) (x m : Monitor) → AreHeld ms room latest earlier → i < length ms
    → m ≡ get_or ms i m → x.key ≡ m.key → AreSound (set ms i x) → AreHeld (set ms i x) room latest earlier
held_set ms room i latest earlier x m held l e same sound =
    let long : length (set ms i x) ≡ length ms = length-set ms i x in record {
      few = omega (arith, long, held.few);
      fit = held.fit;
      sound = sound;
      index = rw long (index_same ms (set ms i x) latest earlier (length ms) (λ k below. bucket_set ms i k x m l e same) held.index);
    }

pub held_entered : (ms : List Monitor) (key : RefKey) (room t i n : ℕ) (latest earlier : List ℕ) (h m : Monitor) → AreHeld ms room latest earlier
    → IsAt ms key i → h ≡ get_or ms i h → m ≡ get_or ms i m → n ≡ next_count h.count
    → AreHeld (set ms i (record { key = m.key; owner = m.owner; count = n })) room latest earlier
held_entered ms key room t i n latest earlier h m held at e f count =
    held_set ms room i latest earlier (record { key = m.key; owner = m.owner; count = n }) m held at.is_in f refl
    (subst AreSound (sym (set_entered ms key t i n h m held.sound at e f count)) (sound_entered ms key t held.sound))

pub push_entered : (ms : List Monitor) (key : RefKey) (t : ℕ) → monitor_of ms key ≡ None → ms ++ record { key = key; owner = t; count = 1 } ∷ [] ≡ entered ms key t
push_entered ms key t free = sym (entered_free ms key t free (λ m ns none. (none_head m ns key none, none_tail m ns key none)))

pub held_pushed : (ms ns : List Monitor) (key : RefKey) (t room : ℕ) (latest earlier : List ℕ) → AreSound ms → monitor_of ms key ≡ None
    → ns ≡ ms ++ record { key = key; owner = t; count = 1 } ∷ [] → IsIndex ns latest earlier (length ms + 1) → length ms < 4096 → 4096 ≤ room
    → AreHeld ns room latest earlier
held_pushed ms ns key t room latest earlier sound free e x few fit =
    let long : length ns ≡ length ms + 1 = ap length e ∙ length-append ms (record { key = key; owner = t; count = 1 } ∷ []) in record {
      few = omega (arith, long, few);
      fit = fit;
      sound = subst AreSound (sym (e ∙ push_entered ms key t free)) (sound_entered ms key t sound);
      index = rw long x;
    }

pub owner_none : (ms : List Monitor) (key : RefKey) (t : ℕ) → IsFree ms key → (false ≡ true) ↔ IsHeldBy t (monitor_of ms key)
owner_none ms key t free = (λ e. absurd (false≢true e), λ h. absurd (subst (IsHeldBy t) (held_free ms key free) h))

pub owner_other : (ms : List Monitor) (key : RefKey) (t i : ℕ) (h : Monitor) → AreSound ms → IsAt ms key i → h ≡ get_or ms i h → h.owner ≢ t
    → (false ≡ true) ↔ IsHeldBy t (monitor_of ms key)
owner_other ms key t i h sound at e other = (λ e. absurd (false≢true e), λ by. absurd (other (subst (IsHeldBy t) (found_is ms key i h sound at e) by)))

pub owner_is : (ms : List Monitor) (key : RefKey) (t i : ℕ) (h : Monitor) → AreSound ms → IsAt ms key i → h ≡ get_or ms i h → h.owner ≡ t
    → (true ≡ true) ↔ IsHeldBy t (monitor_of ms key)
owner_is ms key t i h sound at e same = (λ e'. subst (IsHeldBy t) (sym (found_is ms key i h sound at e)) same, λ by. refl)

pub remove_exited : (ms : List Monitor) (key : RefKey) (i : ℕ) (h : Monitor) → AreSound ms → IsAt ms key i → h ≡ get_or ms i h → h.count ≡ 1
    → take i ms ++ drop (suc i) ms ≡ exited ms key
remove_exited ms key i h sound at e one =
    sym (exited_last ms key i h (is_first ms key i sound at) (ap (λ (x : Monitor). nat_eq x.count 1) (sym e) ∙ eq-eqb h.count 1 one))

pub set_exited : (ms : List Monitor) (key : RefKey) (i : ℕ) (h m : Monitor) → AreSound ms → IsAt ms key i → h ≡ get_or ms i h → m ≡ get_or ms i m
    → h.count ≢ 1 → set ms i (record { key = m.key; owner = m.owner; count = m.count - 1 }) ≡ exited ms key
set_exited ms key i h m sound at e f more =
    let here : set ms i (record m { count = pred m.count }) ≡ set ms i (record (get_or ms i h) { count = pred (get_or ms i h).count })
    = ap (λ (x : Monitor). set ms i (record x { count = pred x.count })) (read_again ms i m h at.is_in f) in
    let once : nat_eq (get_or ms i h).count 1 ≡ false = ap (λ (x : Monitor). nat_eq x.count 1) (sym e) ∙ ne_eqb h.count 1 more in
    ap (λ c. set ms i (record m { count = c })) (sub-one m.count) ∙ here ∙ sym (exited_once ms key i h (is_first ms key i sound at) once)

pub held_exited : (ms : List Monitor) (key : RefKey) (room i : ℕ) (latest earlier : List ℕ) (h m : Monitor) → AreHeld ms room latest earlier
    → IsAt ms key i → h ≡ get_or ms i h → m ≡ get_or ms i m → h.count ≢ 1
    → AreHeld (set ms i (record { key = m.key; owner = m.owner; count = m.count - 1 })) room latest earlier
held_exited ms key room i latest earlier h m held at e f more =
    held_set ms room i latest earlier (record { key = m.key; owner = m.owner; count = m.count - 1 }) m held at.is_in f refl
    (subst AreSound (sym (set_exited ms key i h m held.sound at e f more)) (sound_exited ms key held.sound))

some_in : (ms : List Monitor) (i : ℕ) (d : Monitor) → AreSound ms → i < length ms → 0 < (get_or ms i d).count
some_in [] i d sound l = absurd (omega (arith, l))
some_in (m ∷ ms) zero d sound l = sound.0
some_in (m ∷ ms) (suc i) d sound l = some_in ms i d sound.2 (omega (arith, l))

pub count_some : (ms : List Monitor) (i : ℕ) (m : Monitor) → AreSound ms → i < length ms → m ≡ get_or ms i m → 1 ≤ m.count
count_some ms i m sound l e = subst (λ (x : Monitor). 1 ≤ x.count) (sym e) (some_in ms i m sound l)

-- the monitors before a place are as before
pub index_removed : (ms : List Monitor) (latest earlier : List ℕ) (i : ℕ) → i < length ms → IsIndex ms latest earlier i
    → IsIndex (take i ms ++ drop (suc i) ms) latest earlier i
index_removed ms latest earlier i l x = index_same ms (take i ms ++ drop (suc i) ms) latest earlier i (λ k below.
    let front : k < length (take i ms) = omega (arith, below, l, length-take i ms) in
    ap (λ (m : Monitor). bucket_of m.key) (sym (get_or_append_left (take i ms) (drop (suc i) ms) nobody k front ∙ get_or-take i ms k nobody below))) x

pub index_set : (ms : List Monitor) (latest earlier : List ℕ) (i : ℕ) (m : Monitor) → IsIndex ms latest earlier i → IsIndex (set ms i m) latest earlier i
index_set ms latest earlier i m x = index_same ms (set ms i m) latest earlier i
    (λ k below. ap (λ (n : Monitor). bucket_of n.key) (sym (get_or-set_other ms i k m nobody (λ e. omega (arith, e, below))))) x

pub held_removed : (ms ns : List Monitor) (key : RefKey) (room i : ℕ) (latest earlier : List ℕ) (h : Monitor) → AreSound ms → length ms ≤ 4096 → 4096 ≤ room
    → IsAt ms key i → h ≡ get_or ms i h → h.count ≡ 1 → ns ≡ take i ms ++ drop (suc i) ms → IsIndex ns latest earlier (length ns)
    → AreHeld ns room latest earlier
held_removed ms ns key room i latest earlier h sound few fit at e one left x = record {
  few = omega (arith, few, ap length left, length-append (take i ms) (drop (suc i) ms), length-take i ms, length-drop (suc i) ms, at.is_in);
  fit = fit;
  sound = subst AreSound (sym (left ∙ remove_exited ms key i h sound at e one)) (sound_exited ms key sound);
  index = x;
}

pub set_rekeyed : (ms : List Monitor) (from to : RefKey) (i : ℕ) (m : Monitor) → AreSound ms → IsAt ms from i → m ≡ get_or ms i m
    → set ms i (record { key = to; owner = m.owner; count = m.count }) ≡ rekeyed ms from to
set_rekeyed ms from to i m sound at e =
    ap (λ (x : Monitor). set ms i (record x { key = to })) e ∙ sym (rekeyed_first ms from to i m (is_first ms from i sound at))

pub held_rekeyed : (ms : List Monitor) (from to : RefKey) (room i : ℕ) (latest earlier : List ℕ) (m : Monitor) → AreSound ms → length ms ≤ 4096 → 4096 ≤ room
    → monitor_of ms to ≡ None → IsAt ms from i → m ≡ get_or ms i m
    → IsIndex (set ms i (record { key = to; owner = m.owner; count = m.count })) latest earlier (length (set ms i (record { key = to; owner = m.owner; count = m.count })))
    → AreHeld (set ms i (record { key = to; owner = m.owner; count = m.count })) room latest earlier
held_rekeyed ms from to room i latest earlier m sound few fit free at e x = record {
  few = omega (arith, few, length-set ms i (record { key = to; owner = m.owner; count = m.count }));
  fit = fit;
  sound = subst AreSound (sym (set_rekeyed ms from to i m sound at e)) (sound_rekeyed ms from to sound free);
  index = x;
}
