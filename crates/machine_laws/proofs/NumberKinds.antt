-- The word that a place keeps of a number is that of a number of its kind.
use Rattle.std.proofs.Common.{◌≡◌, ◌≢◌, inl, inr, ℕ, suc, ◌-◌, ◌%◌, ◌<◌, ◌^◌, ltb, nat_lt, true, false, ℤ, pos, negsuc, List}
use Rattle.std.proofs.Common.{Option, Some, None, refl, sym, ◌∙◌, ap, arith}
use Rattle.std.specs.Int.{w32, w64, cast_unsigned, cast_signed, int_rem_euclid}
use Rattle.std.proofs.lemmas.Bool.{lt-ltb, cases_lt, le-ltb}
use Rattle.ap_base.specs.declared.kind.Kind.{Kind}
use Rattle.ap_base.specs.declared.kind.Kind.TheVariants.{Z, B, C, S, I, J, L, Text}
use Rattle.ap_base.specs.declared.reference.Item.{Item}
use Rattle.ap_base.specs.declared.reference.Item.TheVariants.{Int as IntItem, Long as LongItem, Ref as RefItem}
use Rattle.graph_model.specs.declared.types.Value.{Value}
use Rattle.graph_model.specs.declared.types.Value.TheVariants.{Int, Long, Null, Obj as Object}
use Rattle.image_meaning.specs.Objects.{is_number}
use Rattle.one_space.specs.Layout.{item_in, lower}
use Rattle.plain_model.specs.Kinds.{HasKind, IsOf}
use Rattle.shared_objects.specs.Shown.{Numbers, item_value, number_value}
use Rattle.twin_forms.specs.Table.{Entry, is_reference}
use Rattle.two_spaces.specs.Whole.{IsWordOf}

int_or : ℤ → Value → ℤ
int_or d (Int i) = i
int_or d (Long i) = i
int_or d Null = d
int_or d (Object n) = d

same_int : (i j : ℤ) → Int i ≡ Int j → i ≡ j
unfolding int_or
same_int i j e = ap (int_or (pos 0)) e

same_long : (i j : ℤ) → Long i ≡ Long j → i ≡ j
unfolding int_or
same_long i j e = ap (int_or (pos 0)) e

nat_or : ℕ → ℤ → ℕ
nat_or d (pos n) = n
nat_or d (negsuc n) = d

same_pos : (m n : ℕ) → pos m ≡ pos n → m ≡ n
unfolding nat_or
same_pos m n e = ap (nat_or 0) e

neg_pos : {A : Type 0} (m n : ℕ) → negsuc m ≡ pos n → A
neg_pos m n e = cc

-- ---- ints

-- the word of an int that it shows
int_small : (i : ℤ) → cast_signed w32 (lower (cast_unsigned w32 i)) ≡ i → cast_unsigned w32 i < 2 ^ 32
int_small (negsuc n) is = omega arith
int_small (pos n) is = elim (cases_lt n (2 ^ 32)) [
  | inl lt ↦ lt
  | inr le ↦
      (let none : lower n ≡ 0 = rw (le-ltb n (2 ^ 32) le) refl in
      let zero : n ≡ 0 = same_pos n 0 (sym (ap (λ x. cast_signed w32 x) (sym none) ∙ is)) in
      absurd (omega (arith, le, zero)))
]

-- and of a long
long_small : (i : ℤ) → cast_signed w64 (cast_unsigned w64 i) ≡ i → cast_unsigned w64 i < 2 ^ 64
long_small (negsuc n) is = omega arith
long_small (pos n) is = elim (cases_lt n (2 ^ 63)) [
  | inl lt ↦ omega (arith, lt)
  | inr le ↦
      (let past : ltb n (2 ^ 63) ≡ false = le-ltb n (2 ^ 63) le in
      neg_pos (2 ^ 64 - suc n) n (rw past at is))
]

-- ---- narrow kinds

-- a boolean's word, and a char's
bit_small : (i : ℤ) → int_rem_euclid i (pos 2) ≡ i → cast_unsigned w32 i < 2
bit_small (pos n) is = let same = same_pos (n % 2) n is in omega (arith, same)
bit_small (negsuc n) is = neg_pos n (1 - n % 2) (sym is)

char_small : (i : ℤ) → int_rem_euclid i (pos (2 ^ 16)) ≡ i → cast_unsigned w32 i < 2 ^ 16
char_small (pos n) is = let same = same_pos (n % 2 ^ 16) n is in omega (arith, same)
char_small (negsuc n) is = neg_pos n (2 ^ 16 - 1 - n % 2 ^ 16) (sym is)

-- ---- what a kind may hold

no_reference : (kind : Kind) (o : Option ℕ) → is_reference (Some kind) ≡ false
    → HasKind kind (number_value o) → ⊥
no_reference L o plain form = let no = plain in cc
no_reference Z None plain form = form
no_reference Z (Some n) plain form = form
no_reference B None plain form = form
no_reference B (Some n) plain form = form
no_reference C None plain form = form
no_reference C (Some n) plain form = form
no_reference S None plain form = form
no_reference S (Some n) plain form = form
no_reference I None plain form = form
no_reference I (Some n) plain form = form
no_reference J None plain form = form
no_reference J (Some n) plain form = form
no_reference Text None plain form = form
no_reference Text (Some n) plain form = form

-- The word that is kept of the item, which shows it.
pub record Shows (kind : Kind) (number : Numbers) (es : List Entry) (item : Item) (w : ℕ) : Type 0 where
  pub of : IsOf kind (item_value number item)
  pub word : IsWordOf es item w
  pub shown : item_value (λ _. None) (item_in (Some kind) w) ≡ item_value number item

full_int : (i : ℤ) (w : ℕ) → w ≡ cast_unsigned w32 i → Int (cast_signed w32 (lower w)) ≡ Int i
    → nat_lt w (2 ^ 32) ≡ true
full_int i w word shown =
    let small = int_small i (ap (λ x. cast_signed w32 (lower x)) (sym word) ∙ same_int _ i shown) in
    lt-ltb w (2 ^ 32) (omega (arith, small, word))

by_int : (kind : Kind) (number : Numbers) (es : List Entry) (i : ℤ) (w : ℕ)
    → Shows kind number es (IntItem i) w
    → is_reference (Some kind) ≡ false → kind ≢ Text → is_number kind w ≡ true
by_int Z number es i w s plain other =
    let small = bit_small i (same_int _ i s.of.range) in let word = s.word in
    lt-ltb w 2 (omega (arith, small, word))
by_int C number es i w s plain other =
    let small = char_small i (same_int _ i s.of.range) in let word = s.word in
    lt-ltb w (2 ^ 16) (omega (arith, small, word))
by_int B number es i w s plain other = full_int i w s.word s.shown
by_int S number es i w s plain other = full_int i w s.word s.shown
by_int I number es i w s plain other = full_int i w s.word s.shown
by_int J number es i w s plain other = absurd s.of.form
by_int L number es i w s plain other = absurd s.of.form
by_int Text number es i w s plain other = absurd (other refl)

by_long : (kind : Kind) (number : Numbers) (es : List Entry) (i : ℤ) (w : ℕ)
    → Shows kind number es (LongItem i) w → is_number kind w ≡ true
by_long Z number es i w s = absurd s.of.form
by_long C number es i w s = absurd s.of.form
by_long B number es i w s = absurd s.of.form
by_long S number es i w s = absurd s.of.form
by_long I number es i w s = absurd s.of.form
by_long J number es i w s =
    let word = s.word in
    let small = long_small i (ap (λ x. cast_signed w64 x) (sym word) ∙ same_long _ i s.shown) in
    lt-ltb w (2 ^ 64) (omega (arith, small, word))
by_long L number es i w s = absurd s.of.form
by_long Text number es i w s = absurd s.of.form

pub number_fits : (kind : Kind) (number : Numbers) (es : List Entry) (item : Item) (w : ℕ)
    → Shows kind number es item w → is_reference (Some kind) ≡ false → kind ≢ Text → is_number kind w ≡ true
number_fits kind number es (IntItem i) w s plain other = by_int kind number es i w s plain other
number_fits kind number es (LongItem i) w s plain other = by_long kind number es i w s
number_fits kind number es (RefItem r) w s plain other =
    absurd (no_reference kind (number r) plain s.of.form)
