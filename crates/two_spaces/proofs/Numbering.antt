-- The number that a reference stands for is that of the object to which it refers.
use Rattle.std.proofs.Common.{◌≡◌, inl, inr, ℕ, ◌+◌, ◌*◌, ◌<◌, ◌≤◌, ◌&&◌, Bool, true, false, nat_eq, nat_lt, List, length}
use Rattle.std.proofs.Common.{Option, Some, None, IsSome, refl, sym, ◌∙◌, ap, subst, arith, rules}
use Rattle.std.proofs.lemmas.Grind.{common_steps}
use Rattle.ap_base.specs.References.{reference_word}
use Rattle.ap_base.specs.declared.reference.Ref.{Ref}
use Rattle.ap_base.specs.declared.reference.Ref.TheVariants.{Null as NoRef, Persistent, Volatile}
use Rattle.one_space.specs.Laws.{none_is_not, some_same}
use Rattle.one_space.proofs.Laid.{some_is}
use Rattle.shared_objects.specs.Shown.{IsKnown, Keeps}
use Rattle.twin_forms.specs.Table.{Entry, entry, View, Lies, Names}
use Rattle.twin_forms.proofs.Led.{same_or_not, below_or_not, even_moved, odd_old}
use Rattle.twin_heap.proofs.Reading.{when_old, when_copy, not_null}
use Rattle.two_spaces.specs.Seen.{told, current_word, number_in, number_if, is_key_of, is_key_in}
use Rattle.two_spaces.specs.Laws.{key_is_current}
use Rattle.two_spaces.specs.Whole.{IsTo}
use Rattle.two_spaces.proofs.Telling.{told_is, current_told}

-- ---- tests

counted : (m n count b w : ℕ) → m ≡ n → n < count → b ≡ w → number_if (nat_lt m count && nat_eq b w) m ≡ Some n
counted m n count b w e lt is =
    let p : nat_lt m count ≡ true = grind (arith, common_steps) in
    let q : nat_eq b w ≡ true = search (rules, is) in
    rw (p, q) (ap Some e)

if_some : (c : Bool) (m n : ℕ) → number_if c m ≡ Some n → (c ≡ true) × (m ≡ n)
if_some true m n e = (refl, some_same e)
if_some false m n e = none_is_not e

both : (a b : Bool) → (a && b) ≡ true → (a ≡ true) × (b ≡ true)
both true b e = (refl, e)
both false b e = absurd (cc)

pub record Counts (m n count b w : ℕ) : Type 0 where
  pub same : m ≡ n
  pub below : n < count
  pub is : b ≡ w

uncounted : (m n count b w : ℕ) → number_if (nat_lt m count && nat_eq b w) m ≡ Some n → Counts m n count b w
uncounted m n count b w e =
    let i = if_some (nat_lt m count && nat_eq b w) m n e in
    let t = both (nat_lt m count) (nat_eq b w) i.0 in
    let lt : m < count = search (rules, t.0) in
    let is : b ≡ w = search (rules, t.1) in
    record { same = i.1; below = omega (arith, lt, i.1); is = is }

-- ---- the current copy

pub word_old : (e : Entry) → e.stage < 2 → current_word e ≡ 2 * e.at + 1
word_old e lt = ap reference_word (when_old e lt)

pub word_copy : (e : Entry) → 2 ≤ e.stage → current_word e ≡ 2 * e.line
word_copy e le = ap reference_word (when_copy e le)

pub word_now : (v : View) (es : List Entry) (n : ℕ) → Lies v es → n < length es
    → current_word (told v n) ≡ current_word (entry es n)
word_now v es n h ln = ap reference_word (current_told (entry es n) (told v n) (told_is v es n h ln))

pub names_current : (v : View) (es : List Entry) (n : ℕ) → Lies v es → n < length es
    → Names (entry es n) (current_word (entry es n))
names_current v es n h ln = elim (below_or_not (entry es n).stage 2) [
  | inl lt ↦ inl (omega (arith, lt), word_old (entry es n) lt)
  | inr le ↦ (let c = h.table.copy_in n ln (omega (arith, le)) in let w = word_copy (entry es n) le in
      inr (omega (arith, le), w, omega (arith, c, w)))
]

-- ---- numbers

pub named_number : (v : View) (es : List Entry) (n : ℕ) (r : Ref) → Lies v es → n < length es
    → Names (entry es n) (reference_word r) → number_in v r ≡ Some n
unfolding number_in
named_number v es n NoRef h ln names = absurd (not_null (entry es n) names)
named_number v es n (Volatile at) h ln names =
    let o = odd_old (entry es n) at names in
    let same : v.old (at + 2) ≡ n = ap (λ a. v.old (a + 2)) (sym o.1) ∙ (h.sits n ln).number o.0 in
    counted (v.old (at + 2)) n v.count (v.birth (v.old (at + 2))) (2 * at + 1)
    same
    (omega (arith, ln, h.long))
    (ap v.birth same ∙ h.births.old n ln o.0 ∙ ap (λ a. 2 * a + 1) o.1)
named_number v es n (Persistent line) h ln names =
    let m = even_moved (entry es n) line names in
    let same : v.number line ≡ n = ap v.number (sym m.1) ∙ (h.sits n ln).copy_number (omega (arith, m.0)) in
    counted (v.number line) n v.count (current_word (told v (v.number line))) (2 * line)
    same
    (omega (arith, ln, h.long))
    (ap (λ k. current_word (told v k)) same ∙ word_now v es n h ln ∙ word_copy (entry es n) m.0 ∙ ap (λ l. 2 * l) m.1)

by_old : (v : View) (es : List Entry) (n at : ℕ) → Lies v es → n < length es → v.birth n ≡ 2 * at + 1
    → Names (entry es n) (2 * at + 1)
by_old v es n at h ln birth = elim (same_or_not (entry es n).stage 3) [
  | inl three ↦ (let b = h.births.copy n ln three in absurd (omega (arith, b, birth)))
  | inr ne ↦
      (let most = h.table.stages n ln in
      let lt : (entry es n).stage < 3 = omega (arith, ne, most) in
      let b = h.births.old n ln lt in
      inl (lt, omega (arith, b, birth)))
]

by_copy : (v : View) (es : List Entry) (n line : ℕ) → Lies v es → n < length es
    → current_word (entry es n) ≡ 2 * line → Names (entry es n) (2 * line)
by_copy v es n line h ln is = subst (Names (entry es n)) is (names_current v es n h ln)

pub number_named : (v : View) (es : List Entry) (n : ℕ) (r : Ref) → Lies v es → number_in v r ≡ Some n
    → (n < length es) × Names (entry es n) (reference_word r)
unfolding number_in
number_named v es n NoRef h is = none_is_not is
number_named v es n (Volatile at) h is =
    let u : Counts (v.old (at + 2)) n v.count (v.birth (v.old (at + 2))) (2 * at + 1) =
    uncounted (v.old (at + 2)) n v.count (v.birth (v.old (at + 2))) (2 * at + 1) is in
    let ln : n < length es = omega (arith, u.below, h.long) in
    (ln, by_old v es n at h ln (ap v.birth (sym u.same) ∙ u.is))
number_named v es n (Persistent line) h is =
    let u : Counts (v.number line) n v.count (current_word (told v (v.number line))) (2 * line) =
    uncounted (v.number line) n v.count (current_word (told v (v.number line))) (2 * line) is in
    let ln : n < length es = omega (arith, u.below, h.long) in
    (ln, by_copy v es n line h ln (sym (word_now v es n h ln) ∙ ap (λ k. current_word (told v k)) (sym u.same) ∙ u.is))

-- ---- known references

pub known_to : (v : View) (es : List Entry) (r : Ref) → Lies v es → IsKnown (number_in v) r → IsTo es r
known_to v es NoRef h known = tt
known_to v es (Persistent line) h known =
    let s = some_is (number_in v (Persistent line)) known in
    let named = number_named v es s.0 (Persistent line) h s.1 in
    (s.0, named.0, named.1)
known_to v es (Volatile at) h known =
    let s = some_is (number_in v (Volatile at)) known in
    let named = number_named v es s.0 (Volatile at) h s.1 in
    (s.0, named.0, named.1)

pub is_some : (o : Option ℕ) (n : ℕ) → o ≡ Some n → IsSome o
is_some o n is = subst IsSome (sym is) refl

pub to_known : (v : View) (es : List Entry) (r : Ref) → Lies v es → IsTo es r → IsKnown (number_in v) r
to_known v es NoRef h to = tt
to_known v es (Persistent line) h to =
    is_some (number_in v (Persistent line)) to.0 (named_number v es to.0 (Persistent line) h to.1 to.2)
to_known v es (Volatile at) h to =
    is_some (number_in v (Volatile at)) to.0 (named_number v es to.0 (Volatile at) h to.1 to.2)

-- ---- keys

pub key_named : (v : View) (es : List Entry) (n : ℕ) (r : Ref) → Lies v es → is_key_in v r ≡ true
    → number_in v r ≡ Some n → reference_word r ≡ current_word (entry es n)
key_named v es n r h key is =
    let named = number_named v es n r h is in
    sym (key_is_current v r n key is) ∙ word_now v es n h named.0

key_some : (v : View) (w n : ℕ) (o : Option ℕ) → o ≡ Some n → current_word (told v n) ≡ w → is_key_of v w o ≡ true
key_some v w n o is same =
    let q : nat_eq (current_word (told v n)) w ≡ true = search (rules, same) in
    ap (is_key_of v w) is ∙ q

pub named_key : (v : View) (es : List Entry) (n : ℕ) (r : Ref) → Lies v es → n < length es
    → reference_word r ≡ current_word (entry es n) → is_key_in v r ≡ true
unfolding is_key_in
named_key v es n r h ln is =
    key_some v (reference_word r) n (number_in v r)
    (named_number v es n r h ln (subst (Names (entry es n)) (sym is) (names_current v es n h ln)))
    (word_now v es n h ln ∙ sym is)

-- a key has a number
key_of_none : (v : View) (w : ℕ) (o : Option ℕ) → is_key_of v w o ≡ true → (n : ℕ) × (o ≡ Some n)
key_of_none v w None key = absurd (cc)
key_of_none v w (Some n) key = (n, refl)

pub key_number : (v : View) (r : Ref) → is_key_in v r ≡ true → (n : ℕ) × (number_in v r ≡ Some n)
unfolding is_key_in
key_number v r key = key_of_none v (reference_word r) (number_in v r) key

-- ---- what led to an object leads to it

pub keeps_numbers : (v v' : View) (es es' : List Entry) → Lies v es → Lies v' es' → length es ≤ length es'
    → ((n w : ℕ) → n < length es → Names (entry es n) w → Names (entry es' n) w) → Keeps (number_in v) (number_in v')
keeps_numbers v v' es es' h h' long led r n is =
    let named = number_named v es n r h is in
    named_number v' es' n r h' (omega (arith, long, named.0)) (led n (reference_word r) named.0 named.1)
