-- A step leaves monitors sound: each has been entered, and each key has one.
use Rattle.std.proofs.Common.{◌≡◌, ℕ, zero, suc, pred, ◌<◌, true, false, nat_eq, List, [], ◌∷◌, map, Option, Some, None, IsSome}
use Rattle.std.proofs.Common.{cond, refl, ap, ◌∙◌, sym, subst, inl, inr, arith, eq-eqb}
use Rattle.std.specs.List.{AllByRecursion}
use Rattle.std.proofs.lemmas.Bool.{cases_Bool, eqb-true, false≢true, false_from_ne_true}
use Rattle.ap_base.specs.declared.reference.Ref.{Ref}
use Rattle.ap_base.specs.declared.reference.Ref.TheVariants.{Null, Persistent, Volatile}
use Rattle.ap_base.specs.declared.reference.Item.{Item}
use Rattle.run_types.specs.declared.key.Key.{Key}
use Rattle.run_types.specs.declared.key.Key.TheVariants as key
use Rattle.monitors.specs.declared.monitor.Monitor.{Monitor}
use Rattle.monitors.specs.Keys.{is_key, is_ref}
use Rattle.monitors.specs.Held.{monitor_of}
use Rattle.monitors.specs.Indexed.{AreSound}
use Rattle.natives.specs.declared.requests.Request.{Request}
use Rattle.plain_model.specs.Facts.{SetFacts}
use Rattle.run_history.specs.declared.plain.Monitor.{Monitor as PlainMonitor}
use Rattle.run_history.specs.declared.act.PlainKey.{PlainKey}
use Rattle.run_history.specs.declared.act.PlainKey.TheVariants.{Object, Class}
use Rattle.run_history.specs.declared.act.Op.{Op}
use Rattle.run_history.specs.declared.act.Op.TheVariants as op
use Rattle.run_history.specs.Worlds.{World, entered, exited, held, key_is, monitors_after_op, one_less}
use Rattle.shared_objects.specs.declared.rest.Rest.{Rest}
use Rattle.shared_objects.specs.Shown.{HasOneKey, Numbers, Shown}
use Rattle.shared_objects.specs.Worlds.{IsHeldKey, KnowsMonitors, number_or, plain_key, plain_monitor, world_of}
use Rattle.step_forms.specs.declared.stepped.Stepped.{Stepped}
use Rattle.step_forms.specs.declared.stepped.Stepped.TheVariants as stepped
use Rattle.step_forms.specs.Follows.{IsStep}

-- each plain monitor has been entered, and each key has one
abbrev IsSoundPlain : List PlainMonitor → Type 0
IsSoundPlain [] = Unit {0}
IsSoundPlain (m ∷ ms) = (0 < m.count) × (held ms m.key ≡ None) × IsSoundPlain ms

-- ---- plain keys

plain_same : (a b : PlainKey) → key_is a b ≡ true → a ≡ b
plain_same (Object m) (Object n) e = ap Object (eqb-true m n e)
plain_same (Object m) (Class n) e = absurd (false≢true e)
plain_same (Class m) (Object n) e = absurd (false≢true e)
plain_same (Class m) (Class n) e = ap Class (eqb-true m n e)

plain_is : (a : PlainKey) → key_is a a ≡ true
plain_is (Object n) = eq-eqb n n refl
plain_is (Class n) = eq-eqb n n refl

other_way : (a b : PlainKey) → key_is a b ≡ false → key_is b a ≡ false
other_way a b d = false_from_ne_true (key_is b a)
    (λ e. false≢true (sym d ∙ subst (λ (k : PlainKey). key_is a k ≡ true) (sym (plain_same b a e))
    (plain_is a)))

some_plain : (m : PlainMonitor) → Some m ≡ None → ⊥
some_plain m e = cc

none_head : (m : PlainMonitor) (ms : List PlainMonitor) (k : PlainKey) → held (m ∷ ms) k ≡ None
    → key_is m.key k ≡ false
none_head m ms k free = false_from_ne_true (key_is m.key k)
    (λ e. some_plain m (sym (ap (λ b. cond b (Some m) (held ms k)) e) ∙ free))

none_tail : (m : PlainMonitor) (ms : List PlainMonitor) (k : PlainKey) → held (m ∷ ms) k ≡ None
    → held ms k ≡ None
none_tail m ms k free = sym (ap (λ b. cond b (Some m) (held ms k)) (none_head m ms k free)) ∙ free

none_of : (m : PlainMonitor) (ms : List PlainMonitor) (k : PlainKey) → key_is m.key k ≡ false
    → held ms k ≡ None → held (m ∷ ms) k ≡ None
none_of m ms k d free = ap (λ b. cond b (Some m) (held ms k)) d ∙ free

-- ---- after an entry, and after an exit

none_entered : (ms : List PlainMonitor) (at k : PlainKey) (t : ℕ) → key_is at k ≡ false → held ms k ≡ None
    → held (entered ms at t) k ≡ None
none_entered [] at k t d free = none_of (record { key = at; owner = t; count = 1 }) [] k d refl
none_entered (m ∷ ms) at k t d free = elim (cases_Bool (key_is m.key at)) [
  | inl e ↦ rw e (none_of (record m { count = suc m.count }) ms k (none_head m ms k free)
      (none_tail m ms k free))
  | inr e ↦ rw e (none_of m (entered ms at t) k (none_head m ms k free)
      (none_entered ms at k t d (none_tail m ms k free)))
]

sound_entered : (ms : List PlainMonitor) (at : PlainKey) (t : ℕ) → IsSoundPlain ms
    → IsSoundPlain (entered ms at t)
sound_entered [] at t sound = (omega arith, refl, tt)
sound_entered (m ∷ ms) at t sound = elim (cases_Bool (key_is m.key at)) [
  | inl e ↦ rw e (omega arith, sound.1, sound.2)
  | inr e ↦ rw e (
    sound.0,
    none_entered ms at m.key t (other_way m.key at e) sound.1,
    sound_entered ms at t sound.2,
  )
]

none_one_less : (m : PlainMonitor) (ms : List PlainMonitor) (k : PlainKey) → held (m ∷ ms) k ≡ None
    → held (one_less m ms) k ≡ None
none_one_less m ms k free = elim (cases_Bool (nat_eq m.count 1)) [
  | inl e ↦ rw e (none_tail m ms k free)
  | inr e ↦ rw e (none_of (record m { count = pred m.count }) ms k (none_head m ms k free)
      (none_tail m ms k free))
]

none_exited : (ms : List PlainMonitor) (at k : PlainKey) → held ms k ≡ None → held (exited ms at) k ≡ None
none_exited [] at k free = refl
none_exited (m ∷ ms) at k free = elim (cases_Bool (key_is m.key at)) [
  | inl e ↦ rw e (none_one_less m ms k free)
  | inr e ↦ rw e (none_of m (exited ms at) k (none_head m ms k free)
      (none_exited ms at k (none_tail m ms k free)))
]

less_some : (n : ℕ) → 0 < n → nat_eq n 1 ≡ false → 0 < pred n
less_some zero some e = absurd (omega (arith, some))
less_some (suc zero) some e = absurd (false≢true (sym e))
less_some (suc (suc n)) some e = omega arith

sound_one_less : (m : PlainMonitor) (ms : List PlainMonitor) → IsSoundPlain (m ∷ ms)
    → IsSoundPlain (one_less m ms)
sound_one_less m ms sound = elim (cases_Bool (nat_eq m.count 1)) [
  | inl e ↦ rw e sound.2
  | inr e ↦ rw e (less_some m.count sound.0 e, sound.1, sound.2)
]

sound_exited : (ms : List PlainMonitor) (at : PlainKey) → IsSoundPlain ms → IsSoundPlain (exited ms at)
sound_exited [] at sound = tt
sound_exited (m ∷ ms) at sound = elim (cases_Bool (key_is m.key at)) [
  | inl e ↦ rw e (sound_one_less m ms sound)
  | inr e ↦ rw e (sound.0, none_exited ms at m.key sound.1, sound_exited ms at sound.2)
]

-- each operation leaves them so
sound_after : (ms : List PlainMonitor) (t : ℕ) (o : Op) → IsSoundPlain ms
    → IsSoundPlain (monitors_after_op ms t o)
sound_after ms t (op.Enter k) sound = sound_entered ms k t sound
sound_after ms t (op.Exit k) sound = sound_exited ms k sound
sound_after ms t o sound = sound

-- ---- keys

ref_same : (a b : Ref) → is_ref a b ≡ true → a ≡ b
ref_same Null Null e = refl
ref_same Null (Persistent n) e = absurd (false≢true e)
ref_same Null (Volatile n) e = absurd (false≢true e)
ref_same (Persistent m) Null e = absurd (false≢true e)
ref_same (Persistent m) (Persistent n) e = ap Persistent (eqb-true m n e)
ref_same (Persistent m) (Volatile n) e = absurd (false≢true e)
ref_same (Volatile m) Null e = absurd (false≢true e)
ref_same (Volatile m) (Persistent n) e = absurd (false≢true e)
ref_same (Volatile m) (Volatile n) e = ap Volatile (eqb-true m n e)

key_same : (a b : Key Ref) → is_key a b ≡ true → a ≡ b
key_same (key.Object r) (key.Object s) e = ap key.Object (ref_same r s e)
key_same (key.Object r) (key.Class n) e = absurd (false≢true e)
key_same (key.Class m) (key.Object s) e = absurd (false≢true e)
key_same (key.Class m) (key.Class n) e = ap key.Class (eqb-true m n e)

ref_is : (a : Ref) → is_ref a a ≡ true
ref_is Null = refl
ref_is (Persistent n) = eq-eqb n n refl
ref_is (Volatile n) = eq-eqb n n refl

some_none : (m : Monitor) → Some m ≡ None → ⊥
some_none m e = cc

free_head : (m : Monitor) (ms : List Monitor) (k : Key Ref) → monitor_of (m ∷ ms) k ≡ None
    → is_key m.key k ≡ false
free_head m ms k free = false_from_ne_true (is_key m.key k)
    (λ e. some_none m (sym (ap (λ b. cond b (Some m) (monitor_of ms k)) e) ∙ free))

free_tail : (m : Monitor) (ms : List Monitor) (k : Key Ref) → monitor_of (m ∷ ms) k ≡ None
    → monitor_of ms k ≡ None
free_tail m ms k free = sym (ap (λ b. cond b (Some m) (monitor_of ms k)) (free_head m ms k free)) ∙ free

-- ---- by reference and by number

some_or : (o : Option ℕ) → IsSome o → o ≡ Some (number_or o)
some_or None s = cc
some_or (Some n) s = refl

-- held keys with one plain key are the same
held_same : (shown : Shown) → HasOneKey shown → (k l : Key Ref) → IsHeldKey shown k → IsHeldKey shown l
    → key_is (plain_key shown.number k) (plain_key shown.number l) ≡ true → is_key k l ≡ true
held_same shown one (key.Object r) (key.Object s) a b e =
    let n = eqb-true (number_or (shown.number r)) (number_or (shown.number s)) e in
    let same : r ≡ s = one r s (number_or (shown.number s)) a.1 b.1 (some_or (shown.number r) a.0 ∙ ap Some n)
    (some_or (shown.number s) b.0) in
    subst (λ (x : Ref). is_key (key.Object r) (key.Object x) ≡ true) same (ref_is r)
held_same shown one (key.Object r) (key.Class n) a b e = absurd (false≢true e)
held_same shown one (key.Class m) (key.Object s) a b e = absurd (false≢true e)
held_same shown one (key.Class m) (key.Class n) a b e = e

free_plain : (shown : Shown) → HasOneKey shown → (ms : List Monitor) (k : Key Ref)
    → AllByRecursion (λ (m : Monitor). IsHeldKey shown m.key) ms → IsHeldKey shown k → monitor_of ms k ≡ None
    → held (map (plain_monitor shown.number) ms) (plain_key shown.number k) ≡ None
free_plain shown one [] k all known free = refl
free_plain shown one (m ∷ ms) k all known free =
    none_of (plain_monitor shown.number m) (map (plain_monitor shown.number) ms) (plain_key shown.number k)
    (false_from_ne_true (key_is (plain_key shown.number m.key) (plain_key shown.number k))
    (λ e. false≢true (sym (free_head m ms k free) ∙ held_same shown one m.key k all.0 known e)))
    (free_plain shown one ms k all.1 known (free_tail m ms k free))

sound_plain : (shown : Shown) → HasOneKey shown → (ms : List Monitor)
    → AllByRecursion (λ (m : Monitor). IsHeldKey shown m.key) ms → AreSound ms
    → IsSoundPlain (map (plain_monitor shown.number) ms)
sound_plain shown one [] all sound = tt
sound_plain shown one (m ∷ ms) all sound =
    (sound.0, free_plain shown one ms m.key all.1 all.0 sound.1, sound_plain shown one ms all.1 sound.2)

free_of : (m : Monitor) (ms : List Monitor) (k : Key Ref) → is_key m.key k ≡ false → monitor_of ms k ≡ None
    → monitor_of (m ∷ ms) k ≡ None
free_of m ms k d free = ap (λ b. cond b (Some m) (monitor_of ms k)) d ∙ free

free_back : (number : Numbers) (ms : List Monitor) (k : Key Ref)
    → held (map (plain_monitor number) ms) (plain_key number k) ≡ None → monitor_of ms k ≡ None
free_back number [] k free = refl
free_back number (m ∷ ms) k free =
    let p = plain_monitor number m in
    let ps = map (plain_monitor number) ms in
    free_of m ms k
    (false_from_ne_true (is_key m.key k) (λ e. false≢true (sym (none_head p ps (plain_key number k) free)
    ∙ subst (λ (x : Key Ref). key_is (plain_key number m.key) (plain_key number x) ≡ true)
    (key_same m.key k e)
    (plain_is (plain_key number m.key)))))
    (free_back number ms k (none_tail p ps (plain_key number k) free))

sound_back : (number : Numbers) (ms : List Monitor) → IsSoundPlain (map (plain_monitor number) ms)
    → AreSound ms
sound_back number [] sound = tt
sound_back number (m ∷ ms) sound =
    (sound.0, free_back number ms m.key sound.1, sound_back number ms sound.2)

-- ---- steps

-- A step leaves them sound.
pub stays_sound : (set : SetFacts) (t : ℕ) (request : Request Ref Item) (before : Shown) (rest : Rest)
    (result : Stepped) (now : Shown) (rest_now : Rest) → HasOneKey before → KnowsMonitors before rest
    → AreSound rest.monitors → IsStep set t request before rest result now rest_now
    → AreSound rest_now.monitors
stays_sound set t request before rest result now rest_now one known sound goes =
    sound_back now.number rest_now.monitors (by_world result goes)
  where
    first : IsSoundPlain (world_of [] before rest).monitors
    first = sound_plain before one rest.monitors known sound

    by_world : (r : Stepped) → IsStep set t request before rest r now rest_now
        → IsSoundPlain (world_of [] now rest_now).monitors
    by_world (stepped.Did o r) g = let it = g.follows [] in
        subst (λ (w : World). IsSoundPlain w.monitors) (sym it.2)
        (sound_after (world_of [] before rest).monitors t o first)
    by_world (stepped.Waits on) g =
        let it = g.follows [] in subst (λ (w : World). IsSoundPlain w.monitors) (sym it.1) first
    by_world stepped.Wrong g =
        let it = g.follows [] in subst (λ (w : World). IsSoundPlain w.monitors) (sym it.1) first
    by_world (stepped.Over f) g =
        let it = g.follows [] in subst (λ (w : World). IsSoundPlain w.monitors) (sym it.1) first
