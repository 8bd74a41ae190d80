-- A byte below 128 of modified UTF-8 is a unit of its own, so the bytes before and after it are modified
-- UTF-8 too.
use Rattle.std.proofs.Common.{◌≡◌, ℕ, zero, suc, ◌⊎◌, ◌<◌, ◌≤◌, List, [], ◌∷◌, ◌++◌, replicate, refl, sym, ap, subst, ◌∙◌, inl}
use Rattle.std.proofs.Common.{inr, arith}
use Rattle.std.specs.List.{AllByRecursion}
use Rattle.std.proofs.lemmas.Bool.{cases_lt, cases_eq}
use Rattle.std.proofs.lemmas.List.Concat.{flat_map-cons}
use Rattle.const_pool.specs.Utf8.{unit_bytes, IsUnit, units_bytes, IsModifiedUtf8}
use Rattle.const_pool.proofs.Texts.{one_form, two_form, three_form}

abbrev IsHigh : ℕ → Type 0
IsHigh b = 128 ≤ b

-- what is left before a low byte once high bytes are taken away
record Peeled (high more a : List ℕ) (b : ℕ) (rest : List ℕ) : Type 0 where
  left : List ℕ
  front : a ≡ high ++ left
  parts : more ≡ left ++ b ∷ rest

peel : (high more a : List ℕ) (b : ℕ) (rest : List ℕ) → AllByRecursion IsHigh high → b < 128
    → high ++ more ≡ a ++ b ∷ rest → Peeled high more a b rest
peel [] more a b rest all low e = record { left = a; front = refl; parts = e }
peel (x ∷ high) more [] b rest all low e = let same : x ≡ b = cc in absurd (omega (arith, all.0))
peel (x ∷ high) more (y ∷ a) b rest all low e =
    let same : x ≡ y = cc in
    let tail : high ++ more ≡ a ++ b ∷ rest = cc in
    let p = peel high more a b rest all.1 low tail in
    record { left = p.left; front = ap (λ (z : ℕ). z ∷ a) (sym same) ∙ ap (λ (t : List ℕ). x ∷ t) p.front; parts = p.parts }

-- a unit is one low byte, or high bytes
record IsHighUnit (u : ℕ) : Type 0 where
  high : AllByRecursion IsHigh (unit_bytes u)

high_unit : (u : ℕ) → (u ≡ 0) ⊎ (128 ≤ u) → IsHighUnit u
high_unit u far =
    elim (cases_lt u 2048) [
      | inl small ↦ record { high = subst (λ (bytes : List ℕ). AllByRecursion IsHigh bytes) (sym (two_form u far small)) (omega arith, (omega arith, tt)) }
      | inr large ↦ record { high = subst (λ (bytes : List ℕ). AllByRecursion IsHigh bytes) (sym (three_form u large)) (omega arith, (omega arith, (omega arith, tt))) }
    ]

-- both parts are modified UTF-8
pub record SplitsWell (a rest : List ℕ) : Type 0 where
  pub before : IsModifiedUtf8 a
  pub after : IsModifiedUtf8 rest

with_unit : (u : ℕ) (a : List ℕ) → IsUnit u → IsModifiedUtf8 a → IsModifiedUtf8 (unit_bytes u ++ a)
with_unit u a is good = (u ∷ good.0, (is, good.1), ap (λ (t : List ℕ). unit_bytes u ++ t) good.2 ∙ sym (flat_map-cons unit_bytes u good.0))

split_low : (u : ℕ) (more a : List ℕ) (b : ℕ) (rest : List ℕ) → IsUnit u → 0 < u → u < 128
    → IsModifiedUtf8 more → b < 128
    → ((left : List ℕ) → more ≡ left ++ b ∷ rest → SplitsWell left rest) → u ∷ more ≡ a ++ b ∷ rest
    → SplitsWell a rest
split_low u more [] b rest is pos low good small later e = let same : more ≡ rest = cc in record { before = ([], tt, refl); after = subst IsModifiedUtf8 same good }
split_low u more (x ∷ a) b rest is pos low good small later e =
    let same : u ≡ x = cc in
    let tail : more ≡ a ++ b ∷ rest = cc in
    let p = later a tail in
    let one : unit_bytes u ++ a ≡ x ∷ a = rw (one_form u pos low, same) refl in
    record { before = subst IsModifiedUtf8 one (with_unit u a is p.before); after = p.after }

split_high : (u : ℕ) (more a : List ℕ) (b : ℕ) (rest : List ℕ) → IsUnit u → (u ≡ 0) ⊎ (128 ≤ u) → b < 128
    → ((left : List ℕ) → more ≡ left ++ b ∷ rest → SplitsWell left rest)
    → unit_bytes u ++ more ≡ a ++ b ∷ rest → SplitsWell a rest
split_high u more a b rest is far small later e =
    let p = peel (unit_bytes u) more a b rest (high_unit u far).high small e in
    let q = later p.left p.parts in
    record { before = subst IsModifiedUtf8 (sym p.front) (with_unit u p.left is q.before); after = q.after }

not_nothing : (a : List ℕ) (b : ℕ) (rest : List ℕ) → [] ≡ a ++ b ∷ rest → SplitsWell a rest
not_nothing [] b rest e = absurd cc
not_nothing (x ∷ a) b rest e = absurd cc

split_units : (units a : List ℕ) (b : ℕ) (rest : List ℕ) → AllByRecursion IsUnit units → b < 128
    → units_bytes units ≡ a ++ b ∷ rest → SplitsWell a rest
split_units [] a b rest all small e = not_nothing a b rest e
split_units (u ∷ units) a b rest all small e =
    let more = units_bytes units in
    let whole : unit_bytes u ++ more ≡ a ++ b ∷ rest = sym (flat_map-cons unit_bytes u units) ∙ e in
    let later : (left : List ℕ) → more ≡ left ++ b ∷ rest → SplitsWell left rest = λ left h. split_units units left b rest all.1 small h in
    elim (cases_lt u 128) [
      | inr large ↦ split_high u more a b rest all.0 (inr large) small later whole
      | inl tiny ↦ elim (cases_eq u 0) [
        | inl zero' ↦ split_high u more a b rest all.0 (inl zero') small later whole
        | inr other ↦
            let pos : 0 < u = omega arith in
            let one : u ∷ more ≡ a ++ b ∷ rest = ap (λ (w : List ℕ). w ++ more) (sym (one_form u pos tiny)) ∙ whole in
            split_low u more a b rest all.0 pos tiny (units, all.1, refl) small later one
      ]
    ]

-- the bytes around a byte below 128
pub splits_well : (bytes a : List ℕ) (b : ℕ) (rest : List ℕ) → IsModifiedUtf8 bytes → b < 128
    → bytes ≡ a ++ b ∷ rest → SplitsWell a rest
splits_well bytes a b rest good small e = split_units good.0 a b rest good.1 small (sym good.2 ∙ e)

-- the bytes after some bytes below 128
pub after_replicate : (n b : ℕ) (bytes rest : List ℕ) → IsModifiedUtf8 bytes → b < 128
    → bytes ≡ replicate n b ++ rest → IsModifiedUtf8 rest
after_replicate zero b bytes rest good small e = subst IsModifiedUtf8 e good
after_replicate (suc n) b bytes rest good small e =
    after_replicate n b (replicate n b ++ rest) rest (splits_well bytes [] b (replicate n b ++ rest) good small e).after small refl
