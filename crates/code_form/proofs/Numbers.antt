-- A number that is read is the number that was written, and what was written is read again, at any width.
use Rattle.std.proofs.Common.{◌≡◌, ℕ, suc, ◌+◌, ◌-◌, ◌%◌, ◌^◌, ◌<◌, ◌≤◌, Bool, true, false, cond, ltb, List, [], ◌∷◌, ◌++◌}
use Rattle.std.proofs.Common.{length, take, drop, Result, Ok, Err, refl, sym, ap, subst, ◌∙◌, append_assoc, arith, ◌⊎◌, inl}
use Rattle.std.proofs.Common.{inr, ℤ, pos, negsuc, Fits, T, leb}
use Rattle.std.specs.Prelude.{FitsSigned}
use Rattle.std.specs.Int.{Width, w8, w16, w32, byte_len, cast_signed, cast_unsigned}
use Rattle.std.proofs.Math.Facts.{sfits_to_z, sfits_widen, Fits-of_z}
use mir.Val.{bits, hbits}
use Rattle.std.proofs.Math.Nat.{mod-eq_of_lt}
use Rattle.std.proofs.lemmas.Bool.{cases_lt, ltb-false, le-ltb}
use Rattle.std.proofs.lemmas.Int.{ints, to_z-of_z, of_z-to_z}
use Rattle.std.proofs.lemmas.List.{take_at, drop_at, take-append-drop, length-append, length-take}
use Rattle.byteorder.specs.Endian.{big_number, big_bytes}
use Rattle.parsing.specs.Bytes.{IsBytes}
use Rattle.parsing.proofs.Steps.{bind_ok, ok_is}
use Rattle.parsing.proofs.Numbers.{IsBytes-drop, IsBytes-take, number_fits, number_again, length-big}
use Rattle.parsing.proofs.Numbers.{bytes_again as number_back}
use Rattle.code_form.specs.declared.refusal.CodeRefusal.{CodeRefusal}
use Rattle.code_form.specs.declared.refusal.CodeRefusal.TheVariants.{Truncated}
use Rattle.code_form.specs.Spelling.{signed, offset}
use Rattle.code_form.specs.Reading.{bytes_at, unsigned_at, signed_at, moved, target_at}

-- ---- steps that did not fail

-- a test that must fail for the step to go on
pub guard_ok : {A : Type 0} (b : Bool) (d : CodeRefusal) (r : Result A CodeRefusal) (y : A)
    → cond b (Err d) r ≡ Ok y → (b ≡ false) × (r ≡ Ok y)
guard_ok true d r y e = absurd cc
guard_ok false d r y e = (refl, e)

-- what a reader took from the front
pub record Takes (bytes text rest : List ℕ) : Type 0 where
  pub parts : bytes ≡ text ++ rest
  pub rest_fits : IsBytes rest

pub Takes-then : (a x b y c : List ℕ) → Takes a x b → Takes b y c → Takes a (x ++ y) c
Takes-then a x b y c p q =
    record {
      parts = p.parts ∙ ap (λ (t : List ℕ). x ++ t) q.parts ∙ sym (append_assoc x y c);
      rest_fits =
          q.rest_fits;
    }

-- ---- bytes

pub bytes_take : (pc n : ℕ) (bytes : List ℕ) (x : List ℕ × List ℕ) → IsBytes bytes
    → bytes_at pc n bytes ≡ Ok x → Takes bytes x.0 x.1 × (length x.0 ≡ n) × IsBytes x.0
bytes_take pc n bytes x fits e =
    let g = guard_ok (ltb (length bytes) n) (Truncated pc) (Ok (take n bytes, drop n bytes)) x e in
    let long : n ≤ length bytes = ltb-false _ _ g.0 in
    subst (λ (y : List ℕ × List ℕ). Takes bytes y.0 y.1 × (length y.0 ≡ n) × IsBytes y.0)
    (ok_is CodeRefusal (take n bytes, drop n bytes) x g.1) (
      record { parts = sym (take-append-drop n bytes); rest_fits = IsBytes-drop n bytes fits },
      omega (arith, length-take n bytes),
      IsBytes-take n bytes fits,
    )

pub bytes_again : (pc n : ℕ) (front rest : List ℕ) → length front ≡ n
    → bytes_at pc n (front ++ rest) ≡ Ok (front, rest)
bytes_again pc n front rest len =
    let long : ltb (length (front ++ rest)) n ≡ false =
    le-ltb _ _ (omega (arith, length-append front rest)) in
    rw (long, take_at front rest n len, drop_at front rest n len) refl

-- ---- unsigned numbers

pub unsigned_takes : (pc n : ℕ) (bytes : List ℕ) (x : ℕ × List ℕ) → IsBytes bytes
    → unsigned_at pc n bytes ≡ Ok x → Takes bytes (big_bytes n x.0) x.1 × (x.0 < 256 ^ n)
unfolding unsigned_at
unsigned_takes pc n bytes x fits e =
    let a = bind_ok (bytes_at pc n bytes) (λ y. Ok (big_number n y.0, y.1)) x e in
    let t = bytes_take pc n bytes a.0 fits a.1 in
    let front : big_bytes n (big_number n a.0.0) ≡ a.0.0 = number_back n a.0.0 t.1 t.2 in
    subst (λ (y : ℕ × List ℕ). Takes bytes (big_bytes n y.0) y.1 × (y.0 < 256 ^ n))
    (ok_is CodeRefusal (big_number n a.0.0, a.0.1) x a.2)
    (subst (λ (b : List ℕ). Takes bytes b a.0.1) (sym front) t.0, number_fits n a.0.0 t.2)

pub unsigned_again : (pc n x : ℕ) (rest : List ℕ) → x < 256 ^ n
    → unsigned_at pc n (big_bytes n x ++ rest) ≡ Ok (x, rest)
unfolding unsigned_at
unsigned_again pc n x rest below =
    rw (bytes_again pc n (big_bytes n x) rest (length-big n x), number_again n x below) refl

-- a byte
pub byte_again : (pc b : ℕ) (rest : List ℕ) → unsigned_at pc 1 (b ∷ rest) ≡ Ok (b, rest)
unfolding unsigned_at
byte_again pc b rest =
    let number : big_number 1 (b ∷ []) ≡ b = omega arith in
    rw (bytes_again pc 1 (b ∷ []) rest refl, number) refl

pub one_byte : (n b : ℕ) → n < 256 → b ≡ n → big_bytes 1 n ≡ b ∷ []
one_byte n b below same = rw (same, mod-eq_of_lt below) refl

pub byte_takes : (pc : ℕ) (bytes : List ℕ) (x : ℕ × List ℕ) → IsBytes bytes → unsigned_at pc 1 bytes ≡ Ok x
    → Takes bytes (x.0 ∷ []) x.1
byte_takes pc bytes x fits e =
    let t = unsigned_takes pc 1 bytes x fits e in
    subst (λ (l : List ℕ). Takes bytes l x.1) (one_byte x.0 x.0 t.1 refl) t.0

-- ---- signed numbers

-- the bytes of a type hold its bits
abbrev pub IsWhole : Width → Type 0
IsWhole w = 256 ^ byte_len w ≡ 2 ^ bits w

pub whole8 : IsWhole w8
whole8 = refl

pub whole16 : IsWhole w16
whole16 = refl

pub whole32 : IsWhole w32
whole32 = refl

pub signed_takes : (w : Width) → IsWhole w → (pc : ℕ) (bytes : List ℕ) (x : ℤ × List ℕ) → IsBytes bytes
    → signed_at pc w bytes ≡ Ok x → Takes bytes (signed w x.0) x.1 × FitsSigned w x.0
unfolding signed_at
signed_takes w whole pc bytes x fits e =
    let a = bind_ok (unsigned_at pc (byte_len w) bytes) (λ n. Ok (cast_signed w n.0, n.1)) x e in
    let t = unsigned_takes pc (byte_len w) bytes a.0 fits a.1 in
    let n = a.0.0 in
    let below : n < 2 ^ bits w = subst (λ (k : ℕ). n < k) whole t.1 in
    let same : cast_unsigned w (cast_signed w n) ≡ n = of_z-to_z w n below in
    subst (λ (y : ℤ × List ℕ). Takes bytes (signed w y.0) y.1 × FitsSigned w y.0)
    (ok_is CodeRefusal (cast_signed w n, a.0.1) x a.2) (
      subst (λ (k : ℕ). Takes bytes (big_bytes (byte_len w) k) a.0.1) (sym same) t.0,
      sfits_to_z (record { fits = below }),
    )

pub signed_again : (w : Width) → IsWhole w → (pc : ℕ) (z : ℤ) (rest : List ℕ) → FitsSigned w z
    → signed_at pc w (signed w z ++ rest) ≡ Ok (z, rest)
unfolding signed_at
signed_again w whole pc z rest fits =
    let n = cast_unsigned w z in
    let inside : Fits w n = Fits-of_z fits in
    let below : n < 256 ^ byte_len w = subst (λ (k : ℕ). n < k) (sym whole) inside.fits in
    rw (unsigned_again pc (byte_len w) n rest below, to_z-of_z w z fits) refl

-- ---- targets, which are an offset from the jump

-- where an offset leads, and which offset leads there
pub offset-moved : (pc : ℕ) (z : ℤ) → FitsSigned w32 z → pc ≤ 65535 → moved pc z ≤ 65535
    → offset pc (moved pc z) ≡ z
offset-moved pc (pos k) fits near reached =
    let small : k < 2 ^ 31 = fits.sfits in
    let to : (pc + k) % 2 ^ 32 ≡ pc + k = mod-eq_of_lt (omega arith) in
    rw to (omega (arith, ints))
offset-moved pc (negsuc k) fits near reached =
    let small : k < 2 ^ 31 = fits.sfits in
    let high : (pc + (2 ^ 32 - suc k)) % 2 ^ 32 ≤ 65535 = reached in
    let to : (pc + (2 ^ 32 - suc k)) % 2 ^ 32 + suc k ≡ pc = omega arith in
    omega (arith, ints, to)

-- a target lies at the jump or behind it, or before it
offset_cases : (pc t : ℕ)
    → ((k : ℕ) × (t ≡ pc + k) × (offset pc t ≡ pos k)) ⊎
    ((k : ℕ) × (pc ≡ t + suc k) × (offset pc t ≡ negsuc k))
offset_cases pc t =
    elim (cases_lt t pc) [
      | inl before ↦ inr (pc - suc t, omega arith, omega (arith, ints))
      | inr behind ↦ inl (t - pc, omega arith, omega (arith, ints))
    ]

pub moved-offset : (pc t : ℕ) → pc ≤ 65535 → t ≤ 65535 → moved pc (offset pc t) ≡ t
moved-offset pc t near reached =
    elim (offset_cases pc t) [
      | inl p ↦ rw p.2 (let e : t ≡ pc + p.0 = p.1 in let m : (pc + p.0) % 2 ^ 32 ≡ t = omega arith in m)
      | inr p ↦ rw p.2 (let e : pc ≡ t + suc p.0 = p.1 in let m : (pc + (2 ^ 32 - suc p.0)) % 2 ^ 32 ≡ t =
          omega arith in m)
    ]

pub offset_fits : (pc t : ℕ) → pc ≤ 65535 → t ≤ 65535 → FitsSigned w32 (offset pc t)
offset_fits pc t near reached =
    elim (offset_cases pc t) [
      | inl p ↦ rw p.2 (let e : t ≡ pc + p.0 = p.1 in record { sfits = omega arith })
      | inr p ↦ rw p.2 (let e : pc ≡ t + suc p.0 = p.1 in record { sfits = omega arith })
    ]

pub target_takes : (w : Width) → IsWhole w → T (leb (hbits w) 31) → (pc : ℕ) (bytes : List ℕ) (x : ℕ × List ℕ)
    → IsBytes bytes → pc ≤ 65535 → target_at pc w bytes ≡ Ok x → x.0 ≤ 65535
    → Takes bytes (signed w (offset pc x.0)) x.1 × FitsSigned w (offset pc x.0)
unfolding target_at
target_takes w whole narrow pc bytes x fits near e =
    let a = bind_ok (signed_at pc w bytes) (λ z. Ok (moved pc z.0, z.1)) x e in
    let t = signed_takes w whole pc bytes a.0 fits a.1 in
    let z = a.0.0 in
    subst (λ (y : ℕ × List ℕ). y.0 ≤ 65535
    → Takes bytes (signed w (offset pc y.0)) y.1 × FitsSigned w (offset pc y.0))
    (ok_is CodeRefusal (moved pc z, a.0.1) x a.2)
    (λ reached. subst (λ (o : ℤ). Takes bytes (signed w o) a.0.1 × FitsSigned w o)
    (sym (offset-moved pc z (sfits_widen narrow t.1) near reached)) t)

pub target_again : (w : Width) → IsWhole w → (pc t : ℕ) (rest : List ℕ) → FitsSigned w (offset pc t)
    → pc ≤ 65535 → t ≤ 65535 → target_at pc w (signed w (offset pc t) ++ rest) ≡ Ok (t, rest)
unfolding target_at
target_again w whole pc t rest fits near reached =
    rw (signed_again w whole pc (offset pc t) rest fits, moved-offset pc t near reached) refl
