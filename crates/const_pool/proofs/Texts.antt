-- Modified UTF-8: what stands at the front is one unit's bytes exactly where the ranges say so, and the
-- first bad place is what a walk over the units finds.
use Rattle.std.proofs.Common.{◌≡◌, ℕ, zero, suc, ◌+◌, ◌-◌, ◌*◌, ◌/◌, ◌%◌, ◌^◌, ◌<◌, ◌≤◌, ◌⊎◌, Bool, true, false, cond, eqb, leb}
use Rattle.std.proofs.Common.{◌&&◌, ◌||◌, List, [], ◌∷◌, ◌++◌, length, drop, Option, Some, None, refl, sym, ap, subst, ◌∙◌, inl}
use Rattle.std.proofs.Common.{inr, arith, add-zero}
use Rattle.std.specs.List.{AllByRecursion}
use Rattle.std.proofs.lemmas.Bool.{and_parts, and_from, and_left, or_cases, or_from, or_left, or_right, leb-true, eqb-true}
use Rattle.std.proofs.lemmas.Bool.{lt-ltb, le-ltb, eq-eqb, ne_eqb, cases_lt, cases_eq}
use Rattle.std.proofs.lemmas.Bool.Decides.{nat_tests}
use Rattle.std.proofs.lemmas.List.{drop_at, length-drop}
use Rattle.std.proofs.lemmas.List.Concat.{flat_map-cons}
use Rattle.const_pool.specs.Utf8.{unit_bytes, IsUnit, units_bytes, IsModifiedUtf8, is_within, begins_one, begins_two}
use Rattle.const_pool.specs.Utf8.{begins_three, char_len, bad_place}

-- ---- the three forms of a unit

is_within_parts : (low high b : ℕ) → is_within low high b ≡ true → (low ≤ b) × (b ≤ high)
is_within_parts low high b e =
    let p = and_parts (leb low b) (leb b high) e in
    (leb-true _ _ p.0, leb-true _ _ p.1)

is_within_from : (low high b : ℕ) → low ≤ b → b ≤ high → is_within low high b ≡ true
is_within_from low high b p q = grind (arith, nat_tests)

pub one_form : (u : ℕ) → 0 < u → u < 128 → unit_bytes u ≡ u ∷ []
one_form u p q = rw (lt-ltb 0 u p, lt-ltb u 128 q) refl

pub two_form : (u : ℕ) → (u ≡ 0) ⊎ (128 ≤ u) → u < 2048 → unit_bytes u ≡ (192 + u / 64) ∷ (128 + u % 64) ∷ []
two_form u (inl z) q = subst (λ (v : ℕ). unit_bytes v ≡ (192 + v / 64) ∷ (128 + v % 64) ∷ []) (sym z) refl
two_form u (inr p) q =
    let pos : 0 < u = omega arith in
    rw (lt-ltb 0 u pos, le-ltb u 128 p, lt-ltb u 2048 q) refl

pub three_form : (u : ℕ) → 2048 ≤ u
    → unit_bytes u ≡ (224 + u / 4096) ∷ (128 + u / 64 % 64) ∷ (128 + u % 64) ∷ []
three_form u p =
    let pos : 0 < u = omega arith in
    let past : 128 ≤ u = omega arith in
    rw (lt-ltb 0 u pos, le-ltb u 128 past, le-ltb u 2048 p) refl

-- ---- what stands at the front

-- the first n bytes are those of a unit
pub record FrontUnit (bytes : List ℕ) (n : ℕ) : Type 0 where
  pub unit : ℕ
  pub is_unit : IsUnit unit
  pub parts : bytes ≡ unit_bytes unit ++ drop n bytes
  pub positive : 0 < n
  pub short : n ≤ length bytes

one_sound : (bytes : List ℕ) → begins_one bytes ≡ true → FrontUnit bytes 1
one_sound [] e = absurd cc
one_sound (a ∷ rest) e =
    let p = is_within_parts 1 127 a e in
    let form = one_form a (omega arith) (omega arith) in
    record { unit = a; is_unit = omega arith; parts = rw form refl; positive = omega arith; short = omega arith }

two_bytes_unit : (u a b : ℕ) (rest : List ℕ) → (u ≡ 0) ⊎ (128 ≤ u) → u < 2048 → 192 + u / 64 ≡ a
    → 128 + u % 64 ≡ b → FrontUnit (a ∷ b ∷ rest) 2
two_bytes_unit u a b rest far small p q =
    record { unit = u; is_unit = omega arith; parts = rw (two_form u far small, p, q) refl; positive = omega arith; short = omega arith }

two_sound : (bytes : List ℕ) → begins_two bytes ≡ true → FrontUnit bytes 2
two_sound [] e = absurd cc
two_sound (a ∷ []) e = absurd cc
two_sound (a ∷ b ∷ rest) e =
    elim (or_cases (eqb a 192 && eqb b 128) (is_within 194 223 a && is_within 128 191 b) e) [
      | inl z ↦
          let p = and_parts (eqb a 192) (eqb b 128) z in
          two_bytes_unit 0 a b rest (inl refl) (omega arith) (sym (eqb-true _ _ p.0)) (sym (eqb-true _ _ p.1))
      | inr z ↦
          let p = and_parts (is_within 194 223 a) (is_within 128 191 b) z in
          let pa = is_within_parts 194 223 a p.0 in
          let pb = is_within_parts 128 191 b p.1 in
          two_bytes_unit ((a - 192) * 64 + (b - 128)) a b rest (inr (omega arith)) (omega arith) (omega arith) (omega arith)
    ]

three_bytes_unit : (u a b c : ℕ) (rest : List ℕ) → 2048 ≤ u → u < 2 ^ 16 → 224 + u / 4096 ≡ a
    → 128 + u / 64 % 64 ≡ b → 128 + u % 64 ≡ c → FrontUnit (a ∷ b ∷ c ∷ rest) 3
three_bytes_unit u a b c rest far small p q r =
    record { unit = u; is_unit = small; parts = rw (three_form u far, p, q, r) refl; positive = omega arith; short = omega arith }

three_sound : (bytes : List ℕ) → begins_three bytes ≡ true → FrontUnit bytes 3
three_sound [] e = absurd cc
three_sound (a ∷ []) e = absurd cc
three_sound (a ∷ b ∷ []) e = absurd cc
three_sound (a ∷ b ∷ c ∷ rest) e =
    let whole = and_parts ((eqb a 224 && is_within 160 191 b) || (is_within 225 239 a && is_within 128 191 b)) (is_within 128 191 c) e in
    let pc = is_within_parts 128 191 c whole.1 in
    let far : (((a ≡ 224) × (160 ≤ b)) ⊎ (225 ≤ a)) × (224 ≤ a) × (a ≤ 239) × (128 ≤ b) × (b ≤ 191) =
    elim (or_cases (eqb a 224 && is_within 160 191 b) (is_within 225 239 a && is_within 128 191 b) whole.0) [
      | inl z ↦
          let p = and_parts (eqb a 224) (is_within 160 191 b) z in
          let pa = eqb-true _ _ p.0 in
          let pb = is_within_parts 160 191 b p.1 in
          (inl (pa, pb.0), omega arith, omega arith, omega arith, omega arith)
      | inr z ↦
          let p = and_parts (is_within 225 239 a) (is_within 128 191 b) z in
          let pa = is_within_parts 225 239 a p.0 in
          let pb = is_within_parts 128 191 b p.1 in
          (inr pa.0, omega arith, omega arith, omega arith, omega arith)
    ] in
    let large : 2048 ≤ (a - 224) * 4096 + ((b - 128) * 64 + (c - 128)) = elim far.0 [ inl z ↦ omega arith | inr z ↦ omega arith ] in
    three_bytes_unit ((a - 224) * 4096 + ((b - 128) * 64 + (c - 128))) a b c rest large (omega arith) (omega arith) (omega arith) (omega arith)

front_by_tests : (bytes : List ℕ) (one two three : Bool) (n : ℕ) → begins_one bytes ≡ one
    → begins_two bytes ≡ two → begins_three bytes ≡ three
    → cond one (Some 1) (cond two (Some 2) (cond three (Some 3) None)) ≡ Some n → FrontUnit bytes n
front_by_tests bytes true two three n p q r e = let k : 1 ≡ n = cc in subst (λ (m : ℕ). FrontUnit bytes m) k (one_sound bytes p)
front_by_tests bytes false true three n p q r e = let k : 2 ≡ n = cc in subst (λ (m : ℕ). FrontUnit bytes m) k (two_sound bytes q)
front_by_tests bytes false false true n p q r e = let k : 3 ≡ n = cc in subst (λ (m : ℕ). FrontUnit bytes m) k (three_sound bytes r)
front_by_tests bytes false false false n p q r e = absurd cc

pub front_unit : (bytes : List ℕ) (n : ℕ) → char_len bytes ≡ Some n → FrontUnit bytes n
unfolding char_len
front_unit bytes n e = front_by_tests bytes (begins_one bytes) (begins_two bytes) (begins_three bytes) n refl refl refl e

-- ---- a unit at the front is found

not_within_above : (low high b : ℕ) → high < b → is_within low high b ≡ false
not_within_above low high b p = grind (arith, nat_tests)

two_begins : (u : ℕ) (rest : List ℕ) → (u ≡ 0) ⊎ (128 ≤ u) → u < 2048
    → begins_two ((192 + u / 64) ∷ (128 + u % 64) ∷ rest) ≡ true
two_begins u rest (inl z) q = subst (λ (v : ℕ). begins_two ((192 + v / 64) ∷ (128 + v % 64) ∷ rest) ≡ true) (sym z) refl
two_begins u rest (inr p) q =
    let a = is_within_from 194 223 (192 + u / 64) (omega arith) (omega arith) in
    let b = is_within_from 128 191 (128 + u % 64) (omega arith) (omega arith) in
    or_right (eqb (192 + u / 64) 192 && eqb (128 + u % 64) 128) _ (and_from _ _ a b)

three_is_not_two : (a b : ℕ) (rest : List ℕ) → 224 ≤ a → begins_two (a ∷ b ∷ rest) ≡ false
three_is_not_two a b rest p =
    let other : a ≡ 192 → ⊥ = λ e. omega arith in
    or_from _ _ (and_left (eqb a 192) (eqb b 128) (ne_eqb a 192 other)) (and_left _ (is_within 128 191 b) (not_within_above 194 223 a (omega arith)))

three_begins : (u : ℕ) (rest : List ℕ) → 2048 ≤ u → u < 2 ^ 16
    → begins_three ((224 + u / 4096) ∷ (128 + u / 64 % 64) ∷ (128 + u % 64) ∷ rest) ≡ true
three_begins u rest p q =
    let c = is_within_from 128 191 (128 + u % 64) (omega arith) (omega arith) in
    elim (cases_lt u 4096) [
      | inl small ↦
          let a : eqb (224 + u / 4096) 224 ≡ true = eq-eqb _ _ (omega arith) in
          let b = is_within_from 160 191 (128 + u / 64 % 64) (omega arith) (omega arith) in
          and_from _ _ (or_left (eqb (224 + u / 4096) 224 && is_within 160 191 (128 + u / 64 % 64)) _ (and_from _ _ a b)) c
      | inr large ↦
          let a = is_within_from 225 239 (224 + u / 4096) (omega arith) (omega arith) in
          let b = is_within_from 128 191 (128 + u / 64 % 64) (omega arith) (omega arith) in
          and_from _ _ (or_right (eqb (224 + u / 4096) 224 && is_within 160 191 (128 + u / 64 % 64)) _ (and_from _ _ a b)) c
    ]

-- the bytes are found as one unit, whatever follows
pub record SpellsUnit (bytes rest : List ℕ) : Type 0 where
  pub found : char_len (bytes ++ rest) ≡ Some (length bytes)
  pub positive : 0 < length bytes

one_found : (u : ℕ) (rest : List ℕ) → 0 < u → u < 128 → SpellsUnit (unit_bytes u) rest
unfolding char_len
one_found u rest p q = let w = is_within_from 1 127 u (omega arith) (omega arith) in
    subst (λ (bytes : List ℕ). SpellsUnit bytes rest) (sym (one_form u p q)) (record { found = rw w refl; positive = omega arith })

two_found : (u : ℕ) (rest : List ℕ) → (u ≡ 0) ⊎ (128 ≤ u) → u < 2048 → SpellsUnit (unit_bytes u) rest
unfolding char_len
two_found u rest p q =
    let w = not_within_above 1 127 (192 + u / 64) (omega arith) in
    let t = two_begins u rest p q in
    subst (λ (bytes : List ℕ). SpellsUnit bytes rest) (sym (two_form u p q)) (record { found = rw (w, t) refl; positive = omega arith })

three_found : (u : ℕ) (rest : List ℕ) → 2048 ≤ u → u < 2 ^ 16 → SpellsUnit (unit_bytes u) rest
unfolding char_len
three_found u rest p q =
    let w = not_within_above 1 127 (224 + u / 4096) (omega arith) in
    let t = three_is_not_two (224 + u / 4096) (128 + u / 64 % 64) ((128 + u % 64) ∷ rest) (omega arith) in
    let r = three_begins u rest p q in
    subst (λ (bytes : List ℕ). SpellsUnit bytes rest) (sym (three_form u p)) (record { found = rw (w, t, r) refl; positive = omega arith })

pub unit_found : (u : ℕ) (rest : List ℕ) → IsUnit u → SpellsUnit (unit_bytes u) rest
unit_found u rest fits =
    elim (cases_lt u 2048) [
      | inr large ↦ three_found u rest large fits
      | inl small ↦ elim (cases_lt u 128) [
        | inr large ↦ two_found u rest (inr large) small
        | inl tiny ↦ elim (cases_eq u 0) [
          | inl z ↦ two_found u rest (inl z) small
          | inr n ↦ one_found u rest (omega arith) tiny
        ]
      ]
    ]

-- ---- the first bad place

bad_inside : (bytes : List ℕ) (at inside : ℕ)
    → bad_place at inside bytes ≡ bad_place (at + inside) 0 (drop inside bytes)
unfolding bad_place
bad_inside [] at zero = refl
bad_inside [] at (suc inside) = refl
bad_inside (b ∷ rest) at zero = rw add-zero refl
bad_inside (b ∷ rest) at (suc inside) =
    let moved : at + 1 + inside ≡ at + suc inside = omega arith in
    bad_inside rest (at + 1) inside ∙ ap (λ (k : ℕ). bad_place k 0 (drop inside rest)) moved

bad_over : (at n : ℕ) (b : ℕ) (rest : List ℕ) → char_len (b ∷ rest) ≡ Some n → 0 < n
    → bad_place at 0 (b ∷ rest) ≡ bad_place (at + n) 0 (drop n (b ∷ rest))
unfolding bad_place
bad_over at zero b rest e p = absurd (omega arith)
bad_over at (suc m) b rest e p =
    let less : suc m - 1 ≡ m = omega arith in
    let one : bad_place at 0 (b ∷ rest) ≡ bad_place (at + 1) m rest = rw e (ap (λ (k : ℕ). bad_place (at + 1) k rest) less) in
    let moved : at + 1 + m ≡ at + suc m = omega arith in
    one ∙ bad_inside rest (at + 1) m ∙ ap (λ (k : ℕ). bad_place k 0 (drop m rest)) moved

-- a good unit is passed over
pub bad_step : (at n : ℕ) (bytes : List ℕ) → char_len bytes ≡ Some n
    → bad_place at 0 bytes ≡ bad_place (at + n) 0 (drop n bytes)
bad_step at n [] e = let f = front_unit [] n e in absurd (omega (arith, f.positive, f.short))
bad_step at n (b ∷ rest) e = bad_over at n b rest e (front_unit (b ∷ rest) n e).positive

-- where none begins is the place
pub bad_stop : (at : ℕ) (bytes : List ℕ) → 0 < length bytes → char_len bytes ≡ None
    → bad_place at 0 bytes ≡ Some at
unfolding bad_place
bad_stop at [] p e = absurd (omega arith)
bad_stop at (b ∷ rest) p e = rw e refl

pub bad_end : (at : ℕ) → bad_place at 0 [] ≡ None
unfolding bad_place
bad_end at = refl

units_good : (units : List ℕ) (at : ℕ) → AllByRecursion IsUnit units
    → bad_place at 0 (units_bytes units) ≡ None
units_good [] at fits = bad_end at
units_good (u ∷ units) at fits =
    let s = unit_found u (units_bytes units) fits.0 in
    let e : units_bytes (u ∷ units) ≡ unit_bytes u ++ units_bytes units = flat_map-cons unit_bytes u units in
    let step = bad_step at (length (unit_bytes u)) (unit_bytes u ++ units_bytes units) s.found in
    let over = drop_at (unit_bytes u) (units_bytes units) (length (unit_bytes u)) refl in
    ap (bad_place at 0) e ∙ step ∙ ap (bad_place (at + length (unit_bytes u)) 0) over ∙ units_good units (at + length (unit_bytes u)) fits.1

-- modified UTF-8 has no bad place
pub good_has_none : (bytes : List ℕ) → IsModifiedUtf8 bytes → bad_place 0 0 bytes ≡ None
good_has_none bytes good = ap (bad_place 0 0) good.2 ∙ units_good good.0 0 good.1

-- a unit before modified UTF-8
good_after : (bytes : List ℕ) (n : ℕ) → FrontUnit bytes n → IsModifiedUtf8 (drop n bytes)
    → IsModifiedUtf8 bytes
good_after bytes n f good =
    (f.unit ∷ good.0, (f.is_unit, good.1), f.parts ∙ ap (λ (r : List ℕ). unit_bytes f.unit ++ r) good.2 ∙ sym (flat_map-cons unit_bytes f.unit good.0))

none_step : (at : ℕ) (bytes : List ℕ) (len : Option ℕ) → 0 < length bytes → char_len bytes ≡ len
    → bad_place at 0 bytes ≡ None
    → ((from : ℕ) (more : List ℕ) → length more < length bytes → bad_place from 0 more ≡ None → IsModifiedUtf8 more) → IsModifiedUtf8 bytes
none_step at bytes None long e none shorter = let stop = bad_stop at bytes long e in absurd cc
none_step at bytes (Some n) long e none shorter =
    let f = front_unit bytes n e in
    let less : length (drop n bytes) < length bytes = omega (arith, length-drop n bytes, f.positive) in
    good_after bytes n f (shorter (at + n) (drop n bytes) less (sym (bad_step at n bytes e) ∙ none))

none_within : (fuel at : ℕ) (bytes : List ℕ) → length bytes ≤ fuel → bad_place at 0 bytes ≡ None
    → IsModifiedUtf8 bytes
none_within fuel at [] le none = ([], tt, refl)
none_within zero at (b ∷ rest) le none = absurd (omega arith)
none_within (suc fuel) at (b ∷ rest) le none =
    none_step at (b ∷ rest) (char_len (b ∷ rest)) (omega arith) refl none (λ from more less e. none_within fuel from more (omega arith) e)

-- where there is no bad place, the bytes are modified UTF-8
pub none_is_good : (bytes : List ℕ) → bad_place 0 0 bytes ≡ None → IsModifiedUtf8 bytes
none_is_good bytes none = none_within (length bytes) 0 bytes (omega arith) none
