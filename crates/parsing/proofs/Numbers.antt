-- Bytes that are read as a number are written back as the same bytes.
use Rattle.std.proofs.Common.{◌≡◌, ℕ, zero, suc, ◌+◌, ◌*◌, ◌^◌, ◌<◌, ◌≤◌, List, [], ◌∷◌, length, take, drop, refl, sym, ap, ◌∙◌}
use Rattle.std.proofs.Common.{inl, inr, arith}
use Rattle.std.specs.Int.{byte_at}
use Rattle.std.proofs.Math.Nat.{add-mul, mod-lt, mul-le-mul_right}
use Rattle.std.proofs.lemmas.Bool.{cases_order, cases_lt}
use Rattle.std.proofs.lemmas.List.{append-nil, nil_from_length, length-take, get_or-drop, get_or-take, get_or_past}
use Rattle.byteorder.specs.Endian.{big_bytes, big_number}
use Rattle.byteorder.specs.Numbers.{big_from-cons, big_from-lt, big_number-reads_back, length-bytes_high_first}
use Rattle.parsing.specs.Bytes.{IsBytes}

pub IsBytes-rest : (b : ℕ) (bytes : List ℕ) → IsBytes (b ∷ bytes) → IsBytes bytes
IsBytes-rest b bytes h i = h (suc i)

pub IsBytes-cons : (b : ℕ) (bytes : List ℕ) → b < 256 → IsBytes bytes → IsBytes (b ∷ bytes)
IsBytes-cons b bytes p h zero = p
IsBytes-cons b bytes p h (suc i) = h i

pub IsBytes-nil : IsBytes []
IsBytes-nil zero = omega arith
IsBytes-nil (suc i) = omega arith

pub IsBytes-drop : (n : ℕ) (bytes : List ℕ) → IsBytes bytes → IsBytes (drop n bytes)
IsBytes-drop n bytes h i = rw get_or-drop (h (n + i))

pub IsBytes-take : (n : ℕ) (bytes : List ℕ) → IsBytes bytes → IsBytes (take n bytes)
IsBytes-take n bytes h i =
    elim (cases_lt i n) [
      | inl lt ↦ rw (get_or-take n bytes i 0 lt) (h i)
      | inr le ↦ rw (get_or_past (take n bytes) i 0 (omega (arith, length-take n bytes))) (omega arith)
    ]

byte_at-lt : (k x : ℕ) → byte_at k x < 256
byte_at-lt zero x = mod-lt x (omega arith)
byte_at-lt (suc k) x = mod-lt _ (omega arith)

pub IsBytes-big : (n x : ℕ) → IsBytes (big_bytes n x)
IsBytes-big zero x = IsBytes-nil
IsBytes-big (suc n) x = IsBytes-cons (byte_at n x) (big_bytes n x) (byte_at-lt n x) (IsBytes-big n x)

-- a digit is not greater where the numbers are the same
digit_le : (a b c r s : ℕ) → s < c → a * c + r ≡ b * c + s → a ≤ b
digit_le a b c r s small e =
    elim (cases_order a b) [
      | inl same ↦ omega arith
      | inr (inl less) ↦ omega arith
      | inr (inr more) ↦
          let le : (b + 1) * c ≤ a * c = mul-le-mul_right c (omega arith) in
          let parts : (b + 1) * c ≡ b * c + 1 * c = add-mul b 1 c in
          absurd (omega (arith, le, parts))
    ]

same_digit : (a b c r s : ℕ) → r < c → s < c → a * c + r ≡ b * c + s → (a ≡ b) × (r ≡ s)
same_digit a b c r s p q e =
    let le = digit_le a b c r s q e in
    let ge = digit_le b a c s r p (sym e) in
    let same : a ≡ b = omega arith in
    let times : a * c ≡ b * c = ap (λ (x : ℕ). x * c) same in
    (same, omega arith)

big_number-cons : (n a : ℕ) (xs : List ℕ) → big_number (suc n) (a ∷ xs) ≡ a * 256 ^ n + big_number n xs
big_number-cons n a xs = ap (λ (r : ℕ). a * 256 ^ n + r) (big_from-cons 0 n a xs)

-- no two lists of bytes of one length have one number
same_number : (n : ℕ) (xs ys : List ℕ) → length xs ≡ n → length ys ≡ n → IsBytes xs → IsBytes ys
    → big_number n xs ≡ big_number n ys → xs ≡ ys
same_number zero xs ys p q f g e = nil_from_length xs p ∙ sym (nil_from_length ys q)
same_number (suc n) [] ys p q f g e = absurd (omega arith)
same_number (suc n) (x ∷ xs) [] p q f g e = absurd (omega arith)
same_number (suc n) (x ∷ xs) (y ∷ ys) p q f g e =
    let fx = IsBytes-rest x xs f in
    let gy = IsBytes-rest y ys g in
    let digits = same_digit x y (256 ^ n) (big_number n xs) (big_number n ys) (big_from-lt 0 n xs fx)
    (big_from-lt 0 n ys gy) (sym (big_number-cons n x xs) ∙ e ∙ big_number-cons n y ys) in
    let rest = same_number n xs ys (omega arith) (omega arith) fx gy digits.1 in
    rw (digits.0, rest) refl

pub number_fits : (n : ℕ) (bytes : List ℕ) → IsBytes bytes → big_number n bytes < 256 ^ n
number_fits n bytes fits = big_from-lt 0 n bytes fits

pub number_again : (n x : ℕ) → x < 256 ^ n → big_number n (big_bytes n x) ≡ x
number_again n x lt = ap (big_number n) (sym (append-nil (big_bytes n x))) ∙ big_number-reads_back n x [] lt

pub length-big : (n x : ℕ) → length (big_bytes n x) ≡ n
length-big n x = length-bytes_high_first n x

-- the bytes of the number that bytes are read as
pub bytes_again : (n : ℕ) (bytes : List ℕ) → length bytes ≡ n → IsBytes bytes
    → big_bytes n (big_number n bytes) ≡ bytes
bytes_again n bytes len fits =
    same_number n (big_bytes n (big_number n bytes)) bytes (length-big n (big_number n bytes)) len
    (IsBytes-big n (big_number n bytes)) fits (number_again n (big_number n bytes) (number_fits n bytes fits))
