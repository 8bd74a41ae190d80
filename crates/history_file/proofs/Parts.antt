-- The fields of acts: what is read is spelled so, and what fits is read again.
use Rattle.std.proofs.Common.{◌≡◌, ℕ, zero, suc, ◌+◌, ◌-◌, ◌^◌, ◌<◌, ◌≤◌, Bool, true, false, eqb, ltb, ◌&&◌, List, [], ◌∷◌}
use Rattle.std.proofs.Common.{◌++◌}
use Rattle.std.proofs.Common.{Option, Some, None, refl, sym, ap, ◌∙◌, arith}
use Rattle.std.specs.Prelude.{IfSome}
use Rattle.std.specs.Int.{w32, w64, cast_signed, cast_unsigned}
use Rattle.std.proofs.lemmas.Bool.{ltb-true, lt-ltb, eqb-true, eq-eqb, ne_eqb, and_parts}
use Rattle.std.proofs.lemmas.Int.{of_z-to_z, to_z-of_z}
use Rattle.std.proofs.Math.Facts.{sfits_to_z, Fits-of_z}
use Rattle.std.proofs.lemmas.List.{append-nil}
use Rattle.ap_base.specs.declared.place.Place.{Place}
use Rattle.ap_base.specs.declared.place.Place.TheVariants.{Static, Slot}
use Rattle.graph_model.specs.declared.types.Value.{Value}
use Rattle.graph_model.specs.declared.types.Value.TheVariants.{Int, Long, Null, Obj}
use Rattle.run_history.specs.declared.act.PlainKey.{PlainKey}
use Rattle.run_history.specs.declared.act.PlainKey.TheVariants as key
use Rattle.history_file.specs.Spelling.{word, words, place_words, value_words, key_words, option_word, IsNumber, FitsPlace}
use Rattle.history_file.specs.Spelling.{FitsValue, FitsKey, FitsTest}
use Rattle.history_file.specs.Reading.{Read, in_turn, both, word_at, word_where, below, number_at, exactly, place_at}
use Rattle.history_file.specs.Reading.{tagged_value, value_at, key_with, key_at, option_with, option_at, goes_with, test_at}
use Rattle.history_file.specs.Reading.{stored_at, numbers_at, three_at}
use Rattle.history_file.proofs.Codecs.{IsCodec, fits_as, Passes, word_codec, where_codec}
use Rattle.history_file.proofs.Joined.{made_codec, in_turn_codec}

-- ---- numbers

pub below_codec : (limit : ℕ) → limit ≤ 2 ^ 64 → IsCodec (below limit) word (λ n. n < limit)
below_codec limit le =
    fits_as (below limit) word (Passes (λ n. ltb n limit)) (λ n. n < limit) (λ n p. ltb-true n limit p.1)
    (λ n lt. (omega (arith, lt, le), lt-ltb n limit lt)) (where_codec (λ n. ltb n limit))

pub number_codec : IsCodec number_at word IsNumber
unfolding number_at
number_codec = below_codec (2 ^ 32) (omega arith)

pub exactly_codec : (number : ℕ) → number < 2 ^ 64 → IsCodec (exactly number) word (λ n. n ≡ number)
unfolding exactly
exactly_codec number lt =
    fits_as (word_where (λ n. eqb n number)) word (Passes (λ n. eqb n number)) (λ n. n ≡ number)
    (λ n p. eqb-true n number p.1) (λ n e. (omega (arith, lt, e), eq-eqb n number e)) (where_codec (λ n. eqb n number))

pub one_word : (a : ℕ) → words (a ∷ []) ≡ word a
one_word a = append-nil (word a)

pub two_words : (a b : ℕ) → words (a ∷ b ∷ []) ≡ word a ++ word b
two_words a b = ap (λ (t : List ℕ). word a ++ t) (one_word b)

pub three_words : (a b c : ℕ) → words (a ∷ b ∷ c ∷ []) ≡ word a ++ (word b ++ word c)
three_words a b c = ap (λ (t : List ℕ). word a ++ t) (two_words b c)

-- two readings of which neither depends on the other
pub both_codec : {A B : Type 0} (first : Read A) (second : Read B) (a_text : A → List ℕ) (b_text : B → List ℕ)
    (FitsA : A → Type 0) (FitsB : B → Type 0) → IsCodec first a_text FitsA → IsCodec second b_text FitsB
    → IsCodec (both first second) (λ x. a_text x.0 ++ b_text x.1) (λ x. FitsA x.0 × FitsB x.1)
both_codec first second a_text b_text FitsA FitsB one other =
    in_turn_codec first (λ a. second) a_text b_text FitsA (λ a. FitsB) one (λ a fits. other)

-- ---- places

abbrev pub is_slot : Place → Bool
is_slot (Static n) = false
is_slot (Slot object index) = true

abbrev pub IsPlace : Bool → Place → Type 0
IsPlace slot p = FitsPlace p × (is_slot p ≡ slot)

abbrev static_parts : Place → ℕ × ℕ
static_parts (Static n) = (0, n)
static_parts (Slot object index) = (0, 0)

static_back : (p : Place) → IsPlace false p
    → ((((static_parts p).0 ≡ 0) × IsNumber (static_parts p).1)) × (Static (static_parts p).1 ≡ p)
static_back (Static n) good = ((refl, good.0), refl)
static_back (Slot object index) good = absurd cc

abbrev slot_parts : Place → ℕ × (ℕ × ℕ)
slot_parts (Static n) = (1, (0, 0))
slot_parts (Slot object index) = (1, (object, index))

slot_back : (p : Place) → IsPlace true p
    → (((slot_parts p).0 ≡ 1) × (IsNumber (slot_parts p).1.0 × IsNumber (slot_parts p).1.1))
    × (Slot (slot_parts p).1.0 (slot_parts p).1.1 ≡ p)
slot_back (Static n) good = absurd cc
slot_back (Slot object index) good = ((refl, good.0), refl)

abbrev pub place_text : Place → List ℕ
place_text p = words (place_words p)

pub place_codec : (slot : Bool) → IsCodec (place_at slot) place_text (IsPlace slot)
unfolding place_at
place_codec false =
    made_codec (both (exactly 0) number_at) (λ x. word x.0 ++ word x.1) (λ x. (x.0 ≡ 0) × IsNumber x.1) place_text
    (IsPlace false) (λ x. Static x.1) static_parts
    (both_codec (exactly 0) number_at word word (λ n. n ≡ 0) IsNumber (exactly_codec 0 (omega arith)) number_codec)
    (λ x fits. (two_words 0 x.1 ∙ ap (λ (k : ℕ). word k ++ word x.1) (sym fits.0), (fits.1, refl))) static_back
place_codec true =
    made_codec (both (exactly 1) (both number_at number_at)) (λ x. word x.0 ++ (word x.1.0 ++ word x.1.1))
    (λ x. (x.0 ≡ 1) × (IsNumber x.1.0 × IsNumber x.1.1)) place_text (IsPlace true) (λ x. Slot x.1.0 x.1.1) slot_parts
    (both_codec (exactly 1) (both number_at number_at) word (λ x. word x.0 ++ word x.1) (λ n. n ≡ 1)
    (λ x. IsNumber x.0 × IsNumber x.1) (exactly_codec 1 (omega arith))
    (both_codec number_at number_at word word IsNumber IsNumber number_codec number_codec))
    (λ x fits. (three_words 1 x.1.0 x.1.1 ∙ ap (λ (k : ℕ). word k ++ (word x.1.0 ++ word x.1.1)) (sym fits.0), (fits.1, refl)))
    slot_back

-- ---- values

abbrev value_tag : Value → ℕ
value_tag (Int i) = 0
value_tag (Long i) = 1
value_tag Null = 2
value_tag (Obj n) = 3

abbrev value_bits : Value → ℕ
value_bits (Int i) = cast_unsigned w32 i
value_bits (Long i) = cast_unsigned w64 i
value_bits Null = 0
value_bits (Obj n) = n

abbrev bits_text : Value → List ℕ
bits_text v = word (value_bits v)

abbrev IsTagged : ℕ → Value → Type 0
IsTagged tag v = FitsValue v × (value_tag v ≡ tag)

int_back : (v : Value) → IsTagged 0 v → IsNumber (value_bits v) × (Int (cast_signed w32 (value_bits v)) ≡ v)
int_back (Int i) good = (omega (arith, Fits-of_z {w = w32} {z = i} good.0), ap Int (to_z-of_z w32 i good.0))
int_back (Long i) good = absurd cc
int_back Null good = absurd cc
int_back (Obj n) good = absurd cc

long_back : (v : Value) → IsTagged 1 v → (value_bits v < 2 ^ 64) × (Long (cast_signed w64 (value_bits v)) ≡ v)
long_back (Int i) good = absurd cc
long_back (Long i) good = (omega (arith, Fits-of_z {w = w64} {z = i} good.0), ap Long (to_z-of_z w64 i good.0))
long_back Null good = absurd cc
long_back (Obj n) good = absurd cc

null_back : (v : Value) → IsTagged 2 v → (value_bits v ≡ 0) × (Null ≡ v)
null_back (Int i) good = absurd cc
null_back (Long i) good = absurd cc
null_back Null good = (refl, refl)
null_back (Obj n) good = absurd cc

obj_back : (v : Value) → IsTagged 3 v → IsNumber (value_bits v) × (Obj (value_bits v) ≡ v)
obj_back (Int i) good = absurd cc
obj_back (Long i) good = absurd cc
obj_back Null good = absurd cc
obj_back (Obj n) good = (good.0, refl)

tagged_codec : (tag : ℕ) → tag < 4 → IsCodec (tagged_value tag) bits_text (IsTagged tag)
unfolding tagged_value
tagged_codec zero lt =
    made_codec number_at word IsNumber bits_text (IsTagged 0) (λ n. Int (cast_signed w32 n)) value_bits number_codec
    (λ n fits. (ap word (of_z-to_z w32 n fits), (sfits_to_z {w = w32} {n = n} (omega (arith, fits)), refl))) int_back
tagged_codec (suc zero) lt =
    made_codec word_at word (λ n. n < 2 ^ 64) bits_text (IsTagged 1) (λ n. Long (cast_signed w64 n)) value_bits word_codec
    (λ n fits. (ap word (of_z-to_z w64 n fits), (sfits_to_z {w = w64} {n = n} (omega (arith, fits)), refl))) long_back
tagged_codec (suc (suc zero)) lt =
    made_codec (exactly 0) word (λ n. n ≡ 0) bits_text (IsTagged 2) (λ n. Null) value_bits (exactly_codec 0 (omega arith))
    (λ n fits. (ap word (sym fits), (tt, refl))) null_back
tagged_codec (suc (suc (suc zero))) lt =
    made_codec number_at word IsNumber bits_text (IsTagged 3) Obj value_bits number_codec
    (λ n fits. (refl, (fits, refl))) obj_back
tagged_codec (suc (suc (suc (suc n)))) lt = absurd (omega (arith, lt))

abbrev pub value_text : Value → List ℕ
value_text v = words (value_words v)

value_parts : (v : Value) → value_text v ≡ word (value_tag v) ++ bits_text v
value_parts (Int i) = two_words 0 (cast_unsigned w32 i)
value_parts (Long i) = two_words 1 (cast_unsigned w64 i)
value_parts Null = two_words 2 0
value_parts (Obj n) = two_words 3 n

tag_small : (v : Value) → value_tag v < 4
tag_small (Int i) = omega arith
tag_small (Long i) = omega arith
tag_small Null = omega arith
tag_small (Obj n) = omega arith

pub value_codec : IsCodec value_at value_text FitsValue
unfolding value_at
value_codec =
    made_codec (in_turn (below 4) tagged_value) (λ x. word x.0 ++ bits_text x.1) (λ x. (x.0 < 4) × IsTagged x.0 x.1)
    value_text FitsValue (λ x. x.1) (λ v. (value_tag v, v))
    (in_turn_codec (below 4) tagged_value word bits_text (λ n. n < 4) IsTagged (below_codec 4 (omega arith)) tagged_codec)
    (λ x fits. (value_parts x.1 ∙ ap (λ (k : ℕ). word k ++ bits_text x.1) fits.1.1, fits.1.0))
    (λ v good. ((tag_small v, (good, refl)), refl))

-- ---- monitors

abbrev key_parts : PlainKey → ℕ × ℕ
key_parts (key.Object object) = (0, object)
key_parts (key.Class class) = (1, class)

abbrev pub key_text : PlainKey → List ℕ
key_text k = words (key_words k)

key_there : (x : ℕ × ℕ) → (x.0 < 2) × IsNumber x.1 → (key_text (key_with x) ≡ word x.0 ++ word x.1) × FitsKey (key_with x)
key_there (zero, n) fits = (two_words 0 n, fits.1)
key_there (suc zero, n) fits = (two_words 1 n, fits.1)
key_there (suc (suc k), n) fits = absurd (omega (arith, fits.0))

key_back : (k : PlainKey) → FitsKey k → (((key_parts k).0 < 2) × IsNumber (key_parts k).1) × (key_with (key_parts k) ≡ k)
key_back (key.Object object) good = ((omega arith, good), refl)
key_back (key.Class class) good = ((omega arith, good), refl)

pub key_codec : IsCodec key_at key_text FitsKey
unfolding key_at
key_codec =
    made_codec (both (below 2) number_at) (λ x. word x.0 ++ word x.1) (λ x. (x.0 < 2) × IsNumber x.1) key_text FitsKey
    key_with key_parts
    (both_codec (below 2) number_at word word (λ n. n < 2) IsNumber (below_codec 2 (omega arith)) number_codec)
    key_there key_back

-- ---- what may be there

not_zero : (n : ℕ) → eqb (suc n) 0 ≡ false
not_zero n = ne_eqb (suc n) 0 (λ h. omega (arith, h))

word_of_option : (n : ℕ) → option_word (option_with n) ≡ n
word_of_option zero = refl
word_of_option (suc n) = rw (not_zero n) (omega arith)

option_fits : (n : ℕ) → n < 2 ^ 32 + 1 → IfSome (option_with n) IsNumber
option_fits zero lt = tt
option_fits (suc n) lt = rw (not_zero n) (omega (arith, lt))

option_again : (n : ℕ) → option_with (n + 1) ≡ Some n
option_again n =
    let e : eqb (n + 1) 0 ≡ false = ne_eqb (n + 1) 0 (λ h. omega (arith, h)) in
    let k : n + 1 - 1 ≡ n = omega arith in
    rw (e, k) refl

option_back : (o : Option ℕ) → IfSome o IsNumber → (option_word o < 2 ^ 32 + 1) × (option_with (option_word o) ≡ o)
option_back None good = (omega arith, refl)
option_back (Some n) good = (omega (arith, good), option_again n)

pub option_codec : IsCodec option_at (λ o. word (option_word o)) (λ o. IfSome o IsNumber)
unfolding option_at
option_codec =
    made_codec (below (2 ^ 32 + 1)) word (λ n. n < 2 ^ 32 + 1) (λ o. word (option_word o)) (λ o. IfSome o IsNumber)
    option_with option_word (below_codec (2 ^ 32 + 1) (omega arith))
    (λ n lt. (ap word (word_of_option n), option_fits n lt)) option_back

-- ---- tests of classes

abbrev Numbers : ℕ × ℕ → Type 0
Numbers x = (x.0 < 2 ^ 32 + 1) × Passes (goes_with x.0) x.1

abbrev pub test_text : Option ℕ × Option ℕ → List ℕ
test_text x = words (option_word x.0 ∷ option_word x.1 ∷ [])

abbrev pub IsTest : Option ℕ × Option ℕ → Type 0
IsTest x = FitsTest x.0 x.1

abbrev test_with : ℕ × ℕ → Option ℕ × Option ℕ
test_with x = (option_with x.0, option_with x.1)

test_fits : (x : ℕ × ℕ) → Numbers x → IsTest (test_with x)
test_fits (zero, zero) fits = tt
test_fits (zero, suc b) fits = absurd (omega (arith, eqb-true (suc b) 0 fits.1.1))
test_fits (suc a, zero) fits =
    let h : (ltb 0 0 && ltb 0 (2 ^ 32 + 1)) ≡ true = rw (not_zero a) at fits.1.1 in
    absurd (omega (arith, ltb-true 0 0 (and_parts (ltb 0 0) (ltb 0 (2 ^ 32 + 1)) h).0))
test_fits (suc a, suc b) fits =
    let h : (ltb 0 (suc b) && ltb (suc b) (2 ^ 32 + 1)) ≡ true = rw (not_zero a) at fits.1.1 in
    let small = ltb-true (suc b) (2 ^ 32 + 1) (and_parts (ltb 0 (suc b)) (ltb (suc b) (2 ^ 32 + 1)) h).1 in
    rw (not_zero a, not_zero b) (omega (arith, fits.0), omega (arith, small))

test_there : (x : ℕ × ℕ) → Numbers x → (test_text (test_with x) ≡ word x.0 ++ word x.1) × IsTest (test_with x)
test_there x fits =
    let a = word_of_option x.0 in
    let b = word_of_option x.1 in (
      two_words (option_word (option_with x.0)) (option_word (option_with x.1))
          ∙ ap (λ (k : ℕ). word k ++ word (option_word (option_with x.1))) a ∙ ap (λ (k : ℕ). word x.0 ++ word k) b,
      test_fits x fits,
    )

abbrev test_parts : Option ℕ × Option ℕ → ℕ × ℕ
test_parts x = (option_word x.0, option_word x.1)

goes_both : (a b : ℕ) → b < 2 ^ 32 → goes_with (a + 1) (b + 1) ≡ true
goes_both a b lt =
    let e : eqb (a + 1) 0 ≡ false = ne_eqb (a + 1) 0 (λ h. omega (arith, h)) in
    let p = lt-ltb 0 (b + 1) (omega arith) in
    let q = lt-ltb (b + 1) (2 ^ 32 + 1) (omega (arith, lt)) in
    rw (e, p, q) refl

test_back : (x : Option ℕ × Option ℕ) → IsTest x → Numbers (test_parts x) × (test_with (test_parts x) ≡ x)
test_back (None, None) good = ((omega arith, (omega arith, refl)), refl)
test_back (None, Some b) good = absurd good
test_back (Some a, None) good = absurd good
test_back (Some a, Some b) good = (
  (omega (arith, good.0), (omega (arith, good.1), goes_both a b good.1)),
  ap (λ (o : Option ℕ). (o, option_with (b + 1))) (option_again a) ∙ ap (λ (o : Option ℕ). (Some a, o)) (option_again b),
)

pub test_codec : IsCodec test_at test_text IsTest
unfolding test_at
test_codec =
    made_codec (in_turn (below (2 ^ 32 + 1)) (λ first. word_where (goes_with first))) (λ x. word x.0 ++ word x.1) Numbers
    test_text IsTest test_with test_parts
    (in_turn_codec (below (2 ^ 32 + 1)) (λ first. word_where (goes_with first)) word word (λ n. n < 2 ^ 32 + 1)
    (λ first n. Passes (goes_with first) n) (below_codec (2 ^ 32 + 1) (omega arith)) (λ first fits. where_codec
    (goes_with first)))
    test_there test_back

-- ---- pairs and triples

abbrev pub pair_text : ℕ × ℕ → List ℕ
pair_text x = word x.0 ++ word x.1

pub numbers_codec : (limit : ℕ) → limit ≤ 2 ^ 64 → IsCodec (numbers_at limit) pair_text (λ x. IsNumber x.0 × (x.1 < limit))
unfolding numbers_at
numbers_codec limit le = both_codec number_at (below limit) word word IsNumber (λ n. n < limit) number_codec
    (below_codec limit le)

pub three_codec : IsCodec three_at (λ x. word x.0 ++ pair_text x.1) (λ x. IsNumber x.0 × (IsNumber x.1.0 × (x.1.1 < 2 ^ 32)))
unfolding three_at
three_codec =
    both_codec number_at (numbers_at (2 ^ 32)) word pair_text IsNumber (λ x. IsNumber x.0 × (x.1 < 2 ^ 32)) number_codec
    (numbers_codec (2 ^ 32) (omega arith))

abbrev pub access_text : Place × Value → List ℕ
access_text x = place_text x.0 ++ value_text x.1

pub stored_codec : (slot : Bool) → IsCodec (stored_at slot) access_text (λ x. IsPlace slot x.0 × FitsValue x.1)
unfolding stored_at
stored_codec slot = both_codec (place_at slot) value_at place_text value_text (IsPlace slot) FitsValue
    (place_codec slot) value_codec
