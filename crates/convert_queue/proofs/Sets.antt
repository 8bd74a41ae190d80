-- The bits of a set.
use Rattle.std.proofs.Common.{◌≡◌, ◌≢◌, ◌⊎◌, inl, inr, ℕ, ◌-◌, min, bit_and, ◌<◌, ◌≤◌, ◌==◌, ◌||◌, ◌^◌, Bool, true, false, List}
use Rattle.std.proofs.Common.{length, refl, sym, ◌∙◌, ap, subst, arith, bit_or, w64}
use Rattle.std.specs.Int.{bit_at}
use Rattle.std.specs.Prelude.{slice_index}
use Rattle.std.proofs.lemmas.Grind.{common_steps}
use Rattle.std.specs.Int.{bit_not}
use Rattle.std.proofs.lemmas.Nat.Bits.{bit_at_and, bit_at_not, bit_at_above, bit_at_or, bit_at-lt, bit_at-zero}
use Rattle.std.proofs.lemmas.Nat.{le_or_l}
use Rattle.std.proofs.lemmas.Bool.{false≢true}
use Rattle.std.proofs.lemmas.List.{get_or_past}
use Rattle.convert_queue.specs.Threads.{has, needs_of, InGroup, itself, needed, Adds}

pub one_has : (x : ℕ) → x == 1 ≡ true → x ≡ 1
one_has x e = grind (arith, common_steps)

pub has_one : (x : ℕ) → x ≡ 1 → x == 1 ≡ true
has_one x e = grind (arith, common_steps)

pub none_has : (x : ℕ) → x == 1 ≡ false → x < 2 → x ≡ 0
none_has x e lt = grind (arith, common_steps)

pub has_none : (x : ℕ) → x ≡ 0 → x == 1 ≡ false
has_none x e = grind (arith, common_steps)

pub or_left : (a b u : ℕ) → has a u ≡ true → has (bit_or a b) u ≡ true
or_left a b u h = has_one (bit_at (bit_or a b) u) (bit_at_or a b u ∙ omega (arith, one_has (bit_at a u) h, bit_at-lt b u))

pub or_right : (a b u : ℕ) → has b u ≡ true → has (bit_or a b) u ≡ true
or_right a b u h = has_one (bit_at (bit_or a b) u) (bit_at_or a b u ∙ omega (arith, one_has (bit_at b u) h, bit_at-lt a u))

pub or_only : (a b u : ℕ) → has a u ≡ false → has b u ≡ false → has (bit_or a b) u ≡ false
or_only a b u h k = has_none (bit_at (bit_or a b) u) (bit_at_or a b u ∙ omega (arith, none_has (bit_at a u) h (bit_at-lt a u), none_has (bit_at b u) k (bit_at-lt b u)))

pub or_more : (a b : ℕ) → a ≤ bit_or a b
or_more a b = le_or_l a b

-- a bit is 1 or 0
pub yes_or_no : (b : Bool) → (b ≡ true) ⊎ (b ≡ false)
yes_or_no true = inl refl
yes_or_no false = inr refl

pub of_union : (a b u : ℕ) → has (bit_or a b) u ≡ true → (has a u ≡ true) ⊎ (has b u ≡ true)
of_union a b u h = elim (yes_or_no (has a u)) [
  | inl y ↦ inl y
  | inr n ↦ elim (yes_or_no (has b u)) [ inl y ↦ inr y | inr m ↦ absurd (false≢true (sym (or_only a b u n m) ∙ h)) ]
]

pub zero_has : (u : ℕ) → has 0 u ≡ true → ⊥
zero_has u h = omega (arith, one_has (bit_at 0 u) h, bit_at-zero u)

-- what one thread needs is added
pub one_added : (needs : List ℕ) (set old more new of : ℕ) → Adds needs set old → (has set of ≡ true → more ≡ slice_index needs of) → (has set of ≡ false → more ≡ 0) →
    ((u : ℕ) → has old u ≡ true → has new u ≡ true) → ((u : ℕ) → has new u ≡ true → (has old u ≡ true) ⊎ (has more u ≡ true)) → old ≤ new → Adds needs set new
one_added needs set old more new of a there none left only up = record {
  more = omega (arith, a.more, up);
  keeps = λ u h. left u (a.keeps u h);
  sound = λ t s u h. elim (only u h) [
    | inl o ↦ a.sound t s u o
    | inr m ↦ elim (yes_or_no (has set of)) [
      | inl y ↦ needed of u (s of y) (subst (λ x. has x u ≡ true) (there y) m)
      | inr n ↦ absurd (zero_has u (subst (λ x. has x u ≡ true) (none n) m))
    ]
  ];
}

pub none_more : (needs : List ℕ) (set : ℕ) → Adds needs set set
none_more needs set = record { more = omega arith; keeps = λ u h. h; sound = λ t s. s }

pub same_or_not : (m n : ℕ) → (m ≡ n) ⊎ (m ≢ n)
same_or_not m n = elim (yes_or_no (m == n)) [ inl y ↦ inl (grind (arith, common_steps)) | inr x ↦ inr (λ e. grind (arith, common_steps)) ]

pub only_itself : (needs : ℕ → ℕ → Bool) (set t : ℕ) → ((u : ℕ) → u ≢ t → bit_at set u ≡ bit_at 0 u) → (u : ℕ) → has set u ≡ true → InGroup needs t u
only_itself needs set t others u h = elim (same_or_not u t) [
  | inl e ↦ subst (InGroup needs t) (sym e) itself
  | inr ne ↦ absurd (zero_has u (subst (λ x. x == 1 ≡ true) (others u ne) h))
]

-- a bit of the set without another's
and_one : (a b r : ℕ) → a < 2 → b ≡ 1 → r ≡ min a (1 - b) → r ≡ 0
and_one a b r lt e is = omega (arith, lt, e, is)

and_none : (a b r : ℕ) → a < 2 → b ≡ 0 → r ≡ min a (1 - b) → r ≡ a
and_none a b r lt e is = omega (arith, lt, e, is)

pub without_gone : (a b u : ℕ) → b < 2 ^ 64 → u < 64 → has b u ≡ true → has (bit_and a (bit_not w64 b)) u ≡ false
without_gone a b u small lt h = has_none (bit_at (bit_and a (bit_not w64 b)) u)
    (and_one (bit_at a u) (bit_at b u) (bit_at (bit_and a (bit_not w64 b)) u) (bit_at-lt a u) (one_has (bit_at b u) h)
    (bit_at_and a (bit_not w64 b) u ∙ ap (min (bit_at a u)) (bit_at_not w64 b u small lt)))

pub without_same : (a b u : ℕ) → b < 2 ^ 64 → u < 64 → has b u ≡ false → has (bit_and a (bit_not w64 b)) u ≡ has a u
without_same a b u small lt h = ap (λ x. x == 1)
    (and_none (bit_at a u) (bit_at b u) (bit_at (bit_and a (bit_not w64 b)) u) (bit_at-lt a u) (none_has (bit_at b u) h (bit_at-lt b u))
    (bit_at_and a (bit_not w64 b) u ∙ ap (min (bit_at a u)) (bit_at_not w64 b u small lt)))

pub above_none : (set u : ℕ) → set < 2 ^ 64 → 64 ≤ u → has set u ≡ false
above_none set u small le = has_none (bit_at set u) (bit_at_above set 64 u small le)

pub without_other : (a b u : ℕ) → a < 2 ^ 64 → b < 2 ^ 64 → has b u ≡ false → has (bit_and a (bit_not w64 b)) u ≡ has a u
without_other a b u small_a small h = elim (lt_or u) [
  | inl lt ↦ without_same a b u small lt h
  | inr le ↦ has_none (bit_at (bit_and a (bit_not w64 b)) u)
      (low (bit_at a u) (bit_at (bit_not w64 b) u) (bit_at (bit_and a (bit_not w64 b)) u) (bit_at_above a 64 u small_a le)
      (bit_at_and a (bit_not w64 b) u)) ∙ sym (above_none a u small_a le)
]
  where
    lt_or : (u : ℕ) → (u < 64) ⊎ (64 ≤ u)
    lt_or u = grind arith

    low : (x y z : ℕ) → x ≡ 0 → z ≡ min x y → z ≡ 0
    low x y z e is = omega (arith, e, is)

-- beyond the list nobody needs anybody
pub none_beyond : (needs : List ℕ) (a b : ℕ) → length needs ≡ 64 → 64 ≤ a → needs_of needs a b ≡ false
none_beyond needs a b long le = ap (λ x. has x b) (get_or_past needs a 0 (omega (arith, long, le))) ∙ has_none (bit_at 0 b) (bit_at-zero b)

pub or_same : (a a' b b' : Bool) → a ≡ a' → b ≡ b' → (a || b) ≡ (a' || b')
or_same a a' b b' e f = ap (λ (x : Bool). x || b) e ∙ ap (λ (y : Bool). a' || y) f

pub or_has : (a b u : ℕ) → has (bit_or a b) u ≡ (has a u || has b u)
or_has a b u = elim (yes_or_no (has a u)) [
  | inl y ↦ or_left a b u y ∙ sym (or_same (has a u) true (has b u) (has b u) y refl)
  | inr n ↦ elim (yes_or_no (has b u)) [
    | inl z ↦ or_right a b u z ∙ sym (or_same (has a u) false (has b u) true n z)
    | inr m ↦ or_only a b u n m ∙ sym (or_same (has a u) false (has b u) false n m)
  ]
]
