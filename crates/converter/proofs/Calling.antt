-- What each call of a heap and a queue gives for a step.
use Rattle.std.proofs.Common.{◌≡◌, ◌≢◌, ◌⊎◌, inl, inr, ℕ, zero, suc, ◌+◌, ◌*◌, ◌/◌, ◌<◌, ◌≤◌, true, false, List, [], ◌∷◌, ◌++◌}
use Rattle.std.proofs.Common.{length, refl, sym, ◌∙◌, ap, subst, arith, slice_set}
use Rattle.std.specs.Prelude.{None, Some, ltb, nat_eq, if◌then◌else◌}
use Rattle.std.proofs.Common.{eq-eqb, length-set}
use Rattle.std.proofs.lemmas.Bool.{cases_Bool, eqb-true, false≢true, false_from_ne_true}
use Rattle.std.proofs.lemmas.Grind.{common_steps}
use Rattle.ap_base.specs.References.{reference_word}
use Rattle.ap_base.specs.declared.reference.Ref.TheVariants.{Null, Persistent, Volatile}
use Rattle.run_types.specs.declared.key.Key.TheVariants.{Object, Class}
use Rattle.monitors.specs.declared.monitor.Monitor.{Monitor}
use Rattle.monitors.specs.Keys.{RefKey, is_key}
use Rattle.monitors.specs.Held.{monitor_of, rekeyed}
use Rattle.monitors.specs.Indexed.{AreSound}
use Rattle.line_memory.specs.Memory.{Memory, IsResident, IsTelling, KeepsResident}
use Rattle.line_memory.specs.Moments.{KeepsShown}
use Rattle.twin_forms.specs.Table.{Entry, entry, View}
use Rattle.twin_forms.specs.Moves.{ChangesLine, ToPlace, owned, placed}
use Rattle.twin_forms.specs.Sights.{AllKnown}
use Rattle.twin_forms.proofs.Led.{same_or_not, below_or_not}
use Rattle.twin_forms.proofs.Elsewhere.{entry_here, entry_other}
use Rattle.convert_words.specs.Agreeing.{current_word}
use Rattle.convert_words.specs.Scenes.{Scene, IsKey, AgreesAt}
use Rattle.convert_words.specs.Steps.{OneBecomes, claimed_at}
use Rattle.convert_words.specs.declared.step.ConvertStep.{ConvertStep}
use Rattle.convert_words.specs.declared.step.ConvertStep.TheVariants as step
use Rattle.converter.specs.Stepping.{key_words, keys_of, Rekeys, IsOther}
use Rattle.converter.specs.Working.{IsTakable}
use Rattle.converter.proofs.Looked.{none_some}

-- ---- lines that are known

pub known_kept : (old new : Memory) → KeepsShown old new → KeepsResident old new → AllKnown old → AllKnown new
known_kept old new keeps kept known = λ l lt. let same = keeps.size in elim (known l (omega (arith, lt, same))) [
  | inl here ↦ inl (kept l here)
  | inr telling ↦ inr (keeps.telling telling)
]

-- where a line isn't resident, the image tells
pub known_told : (old new : Memory) (line : ℕ) → KeepsShown old new → line < old.size → (IsResident old line → ⊥) → AllKnown old → AllKnown new
known_told old new line keeps lt missing known = λ l _. inr (keeps.telling (elim (known line lt) [ inl here ↦ absurd (missing here) | inr telling ↦ telling ]))

pub known_stored : (old new : Memory) (line : ℕ) → ChangesLine line old new → AllKnown old → AllKnown new
known_stored old new line c known = λ l lt. let same = c.size in elim (known l (omega (arith, lt, same))) [
  | inl here ↦ inl (c.resident.kept l here)
  | inr telling ↦ inr (subst (λ x. IsTelling x.trace) (sym c.same.image) telling)
]

pub known_same : (old new : Memory) → new ≡ old → AllKnown old → AllKnown new
known_same old new same known = subst AllKnown (sym same) known

-- ---- claims

-- A claimed object may be told where its copy begins.
pub may_place : (s : Scene) (v : View) (es : List Entry) (t object m : ℕ) → IsTakable s es object m → v.lines ≡ s.heap.memory.size →
    ToPlace object s.free v (slice_set es m (owned t (entry es m))) m
may_place s v es t object m k same =
    let e' = owned t (entry es m) in
    let here = entry_here es m e' k.there in
    let few = k.agrees.few in
    let room = k.room in
    record {
      object = ap (λ x. x.at) here ∙ k.at;
      young = ap (λ x. x.stage) here ∙ k.ordinary;
      claimed = subst (λ x. 0 < x.owner) (sym here) (omega arith);
      some = omega (arith, few);
      within = subst (λ x. s.free + x.slots / 8 + 1 ≤ v.lines) (sym here) (omega (arith, room, same));
      free = λ y ly some. elim (same_or_not y m) [
        | inl eq ↦ absurd (let z : (entry (slice_set es m e') y).stage ≡ 0 = ap (λ x. (entry (slice_set es m e') x).stage) eq ∙ ap (λ x. x.stage) here ∙ k.ordinary in omega (arith, z, some))
        | inr ne ↦ (
            let other = entry_other es m y e' ne in
            let some1 : 0 < (entry es y).stage = subst (λ x. 0 < x.stage) other some in
            let long : length (slice_set es m e') ≡ length es = simp length-set in
            let below = k.agrees.below y (omega (arith, ly, long)) some1 in
            inr (subst (λ x. x.line + (x.slots / 8 + 1) ≤ s.free) (sym other) below))
      ];
    }

-- after both
pub becomes_claimed : (es : List Entry) (t line m : ℕ) → m < length es →
    OneBecomes m (claimed_at t line (entry es m)) es (slice_set (slice_set es m (owned t (entry es m))) m (placed line (entry (slice_set es m (owned t (entry es m))) m)))
becomes_claimed es t line m lm =
    let e1 = owned t (entry es m) in
    let es1 = slice_set es m e1 in
    let long1 : length es1 ≡ length es = simp length-set in
    let e2 = placed line (entry es1 m) in
    record {
      long = simp length-set;
      here = entry_here es1 m e2 (omega (arith, lm, long1)) ∙ ap (placed line) (entry_here es m e1 lm);
      others = λ y ne. entry_other es1 m y e2 ne ∙ entry_other es m y e1 ne;
    }

-- ---- monitors

pub key_cons : (x : ℕ) (xs : List ℕ) (w : ℕ) → IsKey (x ∷ xs) w → (x ≡ w) ⊎ IsKey xs w
key_cons x xs w (zero, lt, eq) = inl eq
key_cons x xs w (suc i, lt, eq) = inr (i, omega (arith, lt), eq)

pub key_first : (x : ℕ) (xs : List ℕ) → IsKey (x ∷ xs) x
key_first x xs = (0, omega arith, refl)

pub key_more : (x : ℕ) (xs : List ℕ) (w : ℕ) → IsKey xs w → IsKey (x ∷ xs) w
key_more x xs w k = (suc k.0, (let lt = k.1 in omega (arith, lt)), k.2)

key_in : (k : RefKey) (ks : List ℕ) (w : ℕ) → IsKey ks w → IsKey (key_words k ++ ks) w
key_in (Object r) ks w x = key_more (reference_word r) ks w x
key_in (Class n) ks w x = x

key_of : (k : RefKey) (ks : List ℕ) (w : ℕ) → IsKey (key_words k) w → IsKey (key_words k ++ ks) w
key_of (Object r) ks w x = elim (key_cons (reference_word r) [] w x) [
  | inl eq ↦ subst (λ y. IsKey (reference_word r ∷ ks) y) eq (key_first (reference_word r) ks)
  | inr y ↦ absurd (let lt = y.1 in omega (arith, lt))
]
key_of (Class n) ks w x = absurd (let lt = x.1 in omega (arith, lt))

key_or : (k : RefKey) (ks : List ℕ) (w : ℕ) → IsKey (key_words k ++ ks) w → IsKey (key_words k) w ⊎ IsKey ks w
key_or (Object r) ks w x = elim (key_cons (reference_word r) ks w x) [
  | inl eq ↦ inl (subst (λ y. IsKey (reference_word r ∷ []) y) eq (key_first (reference_word r) []))
  | inr y ↦ inr y
]
key_or (Class n) ks w x = inr x

eq_true : (m n : ℕ) → nat_eq m n ≡ true → m ≡ n
eq_true m n e = eqb-true m n e

eq_false : (m n : ℕ) → nat_eq m n ≡ false → m ≢ n
eq_false m n e same = false≢true (sym e ∙ eq-eqb m n same)

-- a monitor that isn't held
not_held : (k : RefKey) (m : Monitor) (ms : List Monitor) (line : ℕ) → ((w : ℕ) → IsKey (key_words k ++ keys_of ms) w → w ≢ 2 * line) → monitor_of ms (Object (Persistent line)) ≡ None →
    (if is_key k (Object (Persistent line)) then Some m else monitor_of ms (Object (Persistent line))) ≡ None
not_held (Object Null) m ms line none rest = rest
not_held (Object (Persistent n)) m ms line none rest = elim (cases_Bool (nat_eq n line)) [
  | inl e ↦ absurd (none (2 * n) (key_first (2 * n) (keys_of ms)) (ap (λ x. 2 * x) (eq_true n line e)))
  | inr e ↦ rw e rest
]
not_held (Object (Volatile n)) m ms line none rest = rest
not_held (Class n) m ms line none rest = rest

pub no_monitor : (ms : List Monitor) (line : ℕ) → ((w : ℕ) → IsKey (keys_of ms) w → w ≢ 2 * line) → monitor_of ms (Object (Persistent line)) ≡ None
no_monitor [] line none = refl
no_monitor (m ∷ ms) line none = not_held m.key m ms line none (no_monitor ms line (λ w k. none w (key_in m.key (keys_of ms) w k)))

not_at : (k : RefKey) (at w : ℕ) → is_key k (Object (Volatile at)) ≡ false → IsKey (key_words k) w → w ≢ 2 * at + 1
not_at (Object Null) at w d x same = elim (key_cons 0 [] w x) [ inl eq ↦ omega (arith, eq, same) | inr y ↦ (let lt = y.1 in omega (arith, lt)) ]
not_at (Object (Persistent n)) at w d x same = elim (key_cons (2 * n) [] w x) [ inl eq ↦ omega (arith, eq, same) | inr y ↦ (let lt = y.1 in omega (arith, lt)) ]
not_at (Object (Volatile n)) at w d x same = elim (key_cons (2 * n + 1) [] w x) [ inl eq ↦ eq_false n at d (omega (arith, eq, same)) | inr y ↦ (let lt = y.1 in omega (arith, lt)) ]
not_at (Class n) at w d x same = let lt = x.1 in omega (arith, lt)

some_none : (m : Monitor) → Some m ≡ None → ⊥
some_none m e = none_some m (sym e)

none_head : (m : Monitor) (ms : List Monitor) (key : RefKey) → monitor_of (m ∷ ms) key ≡ None → is_key m.key key ≡ false
none_head m ms key free = false_from_ne_true (is_key m.key key) (λ e. some_none m (sym (ap (λ b. if b then Some m else monitor_of ms key) e) ∙ free))

none_tail : (m : Monitor) (ms : List Monitor) (key : RefKey) → monitor_of (m ∷ ms) key ≡ None → monitor_of ms key ≡ None
none_tail m ms key free = sym (ap (λ b. if b then Some m else monitor_of ms key) (none_head m ms key free)) ∙ free

none_of : (m : Monitor) (ms : List Monitor) (key : RefKey) → is_key m.key key ≡ false → monitor_of ms key ≡ None → monitor_of (m ∷ ms) key ≡ None
none_of m ms key d free = ap (λ b. if b then Some m else monitor_of ms key) d ∙ free

other_keys : (ms : List Monitor) (at w : ℕ) → monitor_of ms (Object (Volatile at)) ≡ None → IsKey (keys_of ms) w → w ≢ 2 * at + 1
other_keys [] at w free x same = let lt = x.1 in omega (arith, lt)
other_keys (m ∷ ms) at w free x same = elim (key_or m.key (keys_of ms) w x) [
  | inl own ↦ not_at m.key at w (none_head m ms (Object (Volatile at)) free) own same
  | inr rest ↦ other_keys ms at w (none_tail m ms (Object (Volatile at)) free) rest same
]

same_key : (k : RefKey) (at : ℕ) → is_key k (Object (Volatile at)) ≡ true → k ≡ Object (Volatile at)
same_key (Object Null) at e = absurd (false≢true e)
same_key (Object (Persistent n)) at e = absurd (false≢true e)
same_key (Object (Volatile n)) at e = ap (λ x. Object (Volatile x)) (eq_true n at e)
same_key (Class n) at e = absurd (false≢true e)

-- the keys once one monitor has another
pub rekeyed_keys : (ms : List Monitor) (at line w : ℕ) → AreSound ms → IsKey (keys_of (rekeyed ms (Object (Volatile at)) (Object (Persistent line)))) w →
    (IsKey (keys_of ms) w × (w ≢ 2 * at + 1)) ⊎ (w ≡ 2 * line)
rekeyed_keys [] at line w sound x = absurd (let lt = x.1 in omega (arith, lt))
rekeyed_keys (m ∷ ms) at line w sound x = elim (cases_Bool (is_key m.key (Object (Volatile at)))) [
  | inl e ↦ (
      let y : IsKey (2 * line ∷ keys_of ms) w = subst
      (λ b. IsKey (keys_of (if b then record m { key = Object (Persistent line) } ∷ ms else m ∷ rekeyed ms
      (Object (Volatile at)) (Object (Persistent line)))) w) e x in
      elim (key_cons (2 * line) (keys_of ms) w y) [
        | inl eq ↦ inr (sym eq)
        | inr k ↦ inl (key_in m.key (keys_of ms) w k, other_keys ms at w (subst (λ (z : RefKey). monitor_of ms z ≡ None) (same_key m.key at e) sound.1) k)
      ])
  | inr e ↦ (
      let y : IsKey (key_words m.key ++ keys_of (rekeyed ms (Object (Volatile at)) (Object (Persistent line)))) w = subst
      (λ b. IsKey (keys_of (if b then record m { key = Object (Persistent line) } ∷ ms else m ∷ rekeyed ms
      (Object (Volatile at)) (Object (Persistent line)))) w) e x in
      elim (key_or m.key (keys_of (rekeyed ms (Object (Volatile at)) (Object (Persistent line)))) w y) [
        | inl own ↦ inl (key_of m.key (keys_of ms) w own, not_at m.key at w e own)
        | inr k ↦ elim (rekeyed_keys ms at line w sound.2 k) [
          | inl z ↦ inl (key_in m.key (keys_of ms) w z.0, z.1)
          | inr z ↦ inr z
        ]
      ])
]

other_way : (k : RefKey) (line : ℕ) → is_key k (Object (Persistent line)) ≡ false → is_key (Object (Persistent line)) k ≡ false
other_way (Object Null) line d = refl
other_way (Object (Persistent n)) line d = false_from_ne_true (nat_eq line n) (λ e. eq_false n line d (sym (eq_true line n e)))
other_way (Object (Volatile n)) line d = refl
other_way (Class n) line d = refl

none_rekeyed : (ms : List Monitor) (from to k : RefKey) → is_key to k ≡ false → monitor_of ms k ≡ None → monitor_of (rekeyed ms from to) k ≡ None
none_rekeyed [] from to k d free = refl
none_rekeyed (m ∷ ms) from to k d free = elim (cases_Bool (is_key m.key from)) [
  | inl e ↦ rw e (none_of (record m { key = to }) ms k d (none_tail m ms k free))
  | inr e ↦ rw e (none_of m (rekeyed ms from to) k (none_head m ms k free) (none_rekeyed ms from to k d (none_tail m ms k free)))
]

pub sound_rekeyed : (ms : List Monitor) (from : RefKey) (line : ℕ) → AreSound ms → monitor_of ms (Object (Persistent line)) ≡ None → AreSound (rekeyed ms from (Object (Persistent line)))
sound_rekeyed [] from line sound free = tt
sound_rekeyed (m ∷ ms) from line sound free = elim (cases_Bool (is_key m.key from)) [
  | inl e ↦ rw e (sound.0, none_tail m ms (Object (Persistent line)) free, sound.2)
  | inr e ↦ rw e (
    sound.0,
    none_rekeyed ms from (Object (Persistent line)) m.key (other_way m.key line (none_head m ms (Object (Persistent line)) free)) sound.1,
    sound_rekeyed ms from line sound.2 (none_tail m ms (Object (Persistent line)) free),
  )
]

-- No key is the reference to a copy that isn't current.
pub not_keyed : (s : Scene) (es : List Entry) (n : ℕ) → AgreesAt s es → n < length es → (entry es n).stage ≡ 1 → (w : ℕ) → IsKey s.keys w → w ≢ 2 * (entry es n).line
not_keyed s es n a ln one w key same =
    let r = a.resolved w key in
    let e = entry es r.0 in
    let eq = r.2 in
    elim (below_or_not e.stage 2) [
      | inl lt ↦ (let odd : current_word e ≡ 2 * e.at + 1 = (let p : ltb e.stage 2 ≡ true = grind (arith, common_steps) in rw p refl) in omega (arith, eq, odd, same))
      | inr ge ↦ (
          let even : current_word e ≡ 2 * e.line = (let p : ltb e.stage 2 ≡ false = grind (arith, common_steps) in rw p refl) in
          let line : e.line ≡ (entry es n).line = omega (arith, eq, even, same) in
          elim (same_or_not r.0 n) [
            | inl here ↦ (let st : e.stage ≡ 1 = ap (λ x. (entry es x).stage) here ∙ one in omega (arith, st, ge))
            | inr ne ↦ elim (a.lies.table.copy_apart r.0 n r.1 ln ne (omega (arith, ge)) (omega (arith, one))) [ inl x ↦ omega (arith, x, line) | inr x ↦ omega (arith, x, line) ]
          ])
    ]

pub rekeys_same : (answer : ConvertStep) (t : ℕ) (s : Scene) (es : List Entry) (ms ms' : List Monitor) → IsOther answer → ms' ≡ ms → Rekeys answer t s es ms ms'
rekeys_same step.Claimed t s es ms ms' o e = e
rekeys_same step.CopiedLine t s es ms ms' o e = e
rekeys_same step.Forwarded t s es ms ms' o e = absurd o
rekeys_same step.Repaired t s es ms ms' o e = e
rekeys_same step.WroteBack t s es ms ms' o e = e
rekeys_same step.Fenced t s es ms ms' o e = e
rekeys_same step.Touched t s es ms ms' o e = e
rekeys_same (step.Sealed set) t s es ms ms' o e = e
rekeys_same (step.Wait u) t s es ms ms' o e = e
rekeys_same (step.Full need left) t s es ms ms' o e = absurd o
