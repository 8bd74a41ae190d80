-- What a reference leads to.
use Rattle.std.proofs.Common.{◌≡◌, ◌≢◌, ◌⊎◌, inl, inr, ℕ, ◌+◌, ◌*◌, ◌/◌, ◌%◌, ◌<◌, ◌≤◌, List, length, refl, sym, ◌∙◌, arith}
use Rattle.std.proofs.lemmas.Grind.{common_steps}
use Rattle.twin_forms.specs.Table.{Entry, entry, View, word_of, Names, number_of, Lies}

number_odd : (v : View) (a w : ℕ) → w ≡ 2 * a + 1 → number_of v w ≡ v.old (a + 2)
number_odd v a w e = let p : w % 2 ≡ 1 = omega arith in let q : w / 2 ≡ a = omega arith in rw (p, q) refl

number_even : (v : View) (a w : ℕ) → w ≡ 2 * a → number_of v w ≡ v.number a
number_even v a w e = let p : w % 2 ≡ 0 = omega arith in let q : w / 2 ≡ a = omega arith in rw (p, q) refl

pub number_is : (v : View) (es : List Entry) (n w : ℕ) → Lies v es → n < length es → Names (entry es n) w → number_of v w ≡ n
number_is v es n w h lt (inl s) = number_odd v (entry es n).at w s.1 ∙ (h.sits n lt).number s.0
number_is v es n w h lt (inr s) = number_even v (entry es n).line w s.1 ∙ (h.sits n lt).copy_number (omega (arith, s.0))

-- An object has its number alone: two references are to one object where their numbers are the same.
pub same_number : (v : View) (es : List Entry) (m n x y : ℕ) → Lies v es → m < length es → n < length es → Names (entry es m) x → Names (entry es n) y → number_of v x ≡ number_of v y → m ≡ n
same_number v es m n x y h l k a b e = sym (number_is v es m x h l a) ∙ e ∙ number_is v es n y h k b

-- A reference's word leads to one object.
pub one_object : (v : View) (es : List Entry) (m n x : ℕ) → Lies v es → m < length es → n < length es → Names (entry es m) x → Names (entry es n) x → m ≡ n
one_object v es m n x h l k a b = same_number v es m n x x h l k a b refl

pub word_young : (v : View) (e : Entry) (k : ℕ) → e.stage < 2 → word_of v e k ≡ v.old (e.at + 3 + k)
word_young v e k h = grind (arith, common_steps)

pub word_moved : (v : View) (e : Entry) (k : ℕ) → 2 ≤ e.stage → word_of v e k ≡ v.shown (8 * e.line + 1 + k)
word_moved v e k h = grind (arith, common_steps)

pub same_or_not : (m n : ℕ) → (m ≡ n) ⊎ (m ≢ n)
same_or_not m n = grind (arith, common_steps)

pub below_or_not : (a b : ℕ) → (a < b) ⊎ (b ≤ a)
below_or_not a b = grind (arith, common_steps)

-- what a reference of either form says of the object
pub even_moved : (e : Entry) (line : ℕ) → Names e (2 * line) → (2 ≤ e.stage) × (e.line ≡ line)
even_moved e line (inl s) = absurd (omega (arith, s.1))
even_moved e line (inr s) = (omega (arith, s.0), omega (arith, s.1))

pub odd_old : (e : Entry) (at : ℕ) → Names e (2 * at + 1) → (e.stage < 3) × (e.at ≡ at)
odd_old e at (inl s) = (s.0, omega (arith, s.1))
odd_old e at (inr s) = absurd (omega (arith, s.1))
