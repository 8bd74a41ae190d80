-- Texts in modified UTF-8 have one spelling, and their code units are below 2 ^ 16.
use Rattle.std.proofs.Common.{◌≡◌, ℕ, ◌+◌, ◌*◌, ◌/◌, ◌%◌, ◌<◌, ◌≤◌, ◌^◌, List, [], ◌∷◌, ◌++◌, refl, ap, sym, ◌∙◌, subst, arith}
use Rattle.std.proofs.Common.{inl, inr}
use Rattle.std.specs.Prelude.{All}
use Rattle.std.specs.List.{AllByRecursion}
use Rattle.std.proofs.lemmas.Bool.{cases_eq, cases_lt, lt-ltb, le-ltb}
use Rattle.std.proofs.lemmas.List.Concat.{flat_map-cons}
use Rattle.std.proofs.lemmas.List.Elements.{All-cons, All-nil}
use Rattle.const_pool.specs.Utf8.{IsModifiedUtf8, IsUnit, unit_bytes, units_bytes}
use Rattle.const_pool.proofs.Texts.{one_form, two_form, three_form}
use Rattle.class_set.specs.Literals.{chars_of}

low_char : (u : ℕ) (more : List ℕ) → u < 128 → chars_of (u ∷ more) ≡ u ∷ chars_of more
low_char u [] l = refl
low_char u (b ∷ []) l = rw (lt-ltb u 128 l) refl
low_char u (b ∷ c ∷ rest) l = rw (lt-ltb u 128 l) refl

two_char : (a b u : ℕ) (more : List ℕ) → 128 ≤ a → a < 224 → 64 * (a % 32) + b % 64 ≡ u → chars_of (a ∷ b ∷ more) ≡ u ∷ chars_of more
two_char a b u [] l m e = rw (le-ltb a 128 l, e) refl
two_char a b u (c ∷ rest) l m e = rw (le-ltb a 128 l, lt-ltb a 224 m, e) refl

three_char : (a b c u : ℕ) (more : List ℕ) → 224 ≤ a → 4096 * (a % 16) + 64 * (b % 64) + c % 64 ≡ u
    → chars_of (a ∷ b ∷ c ∷ more) ≡ u ∷ chars_of more
three_char a b c u more l e = (let far : 128 ≤ a = omega (arith, l) in rw (le-ltb a 128 far, le-ltb a 224 l, e) refl)

high_char : (u : ℕ) (more : List ℕ) → u < 65536 → 2048 ≤ u → chars_of (unit_bytes u ++ more) ≡ u ∷ chars_of more
high_char u more l h =
    ap (λ bytes. chars_of (bytes ++ more)) (three_form u h)
    ∙ three_char (224 + u / 4096) (128 + u / 64 % 64) (128 + u % 64) u more (omega arith) (omega (arith, l))

middle_char : (u : ℕ) (more : List ℕ) → u < 2048 → unit_bytes u ≡ (192 + u / 64) ∷ (128 + u % 64) ∷ []
    → chars_of (unit_bytes u ++ more) ≡ u ∷ chars_of more
middle_char u more l form =
    ap (λ bytes. chars_of (bytes ++ more)) form
    ∙ two_char (192 + u / 64) (128 + u % 64) u more (omega arith) (omega (arith, l)) (omega (arith, l))

front_char : (u : ℕ) (more : List ℕ) → IsUnit u → chars_of (unit_bytes u ++ more) ≡ u ∷ chars_of more
front_char u more is = elim (cases_lt u 2048) [
  | inr large ↦ high_char u more (omega (arith, is)) large
  | inl small ↦ elim (cases_lt u 128) [
    | inr past ↦ middle_char u more small (two_form u (inr past) small)
    | inl low ↦ elim (cases_eq u 0) [
      | inl none ↦ middle_char u more small (two_form u (inl none) small)
      | inr some ↦ (let positive : 0 < u = omega (arith, some) in
          ap (λ bytes. chars_of (bytes ++ more)) (one_form u positive low) ∙ low_char u more low)
    ]
  ]
]

chars_again : (units : List ℕ) → AllByRecursion IsUnit units → chars_of (units_bytes units) ≡ units
chars_again [] all = refl
chars_again (u ∷ us) all =
    ap chars_of (flat_map-cons unit_bytes u us) ∙ front_char u (units_bytes us) all.0 ∙ ap (λ xs. u ∷ xs) (chars_again us all.1)

-- the chars' spelling is the text again
pub spelled_again : (t : List ℕ) → IsModifiedUtf8 t → units_bytes (chars_of t) ≡ t
spelled_again t good = ap units_bytes (ap chars_of good.2 ∙ chars_again good.0 good.1) ∙ sym good.2

small_units : (units : List ℕ) → AllByRecursion IsUnit units → All (λ c. c < 2 ^ 16) units
small_units [] all = All-nil (λ c. c < 2 ^ 16)
small_units (u ∷ us) all = All-cons (λ c. c < 2 ^ 16) u us all.0 (small_units us all.1)

pub small_chars : (t : List ℕ) → IsModifiedUtf8 t → All (λ c. c < 2 ^ 16) (chars_of t)
small_chars t good =
    subst (All (λ c. c < 2 ^ 16)) (sym (ap chars_of good.2 ∙ chars_again good.0 good.1)) (small_units good.0 good.1)
