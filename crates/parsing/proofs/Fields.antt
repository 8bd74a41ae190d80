-- A field that is read is the field that stands there, and what was written is read again.
use Rattle.std.proofs.Common.{◌≡◌, ℕ, ◌+◌, ◌^◌, ◌<◌, ◌≤◌, false, ltb, List, [], ◌++◌, length, take, drop, Result, Ok, refl, sym}
use Rattle.std.proofs.Common.{ap, subst, ◌∙◌, append_assoc, arith}
use Rattle.std.proofs.lemmas.Bool.{ltb-false, le-ltb}
use Rattle.std.proofs.lemmas.List.{take_at, drop_at, take-append-drop, length-append, length-take}
use Rattle.byteorder.specs.Endian.{big_bytes, big_number}
use Rattle.parsing.specs.declared.cut.Cut.{Cut}
use Rattle.parsing.specs.Bytes.{IsBytes, HasBytes}
use Rattle.parsing.specs.Places.{Place, field_at, number_at}
use Rattle.parsing.proofs.Steps.{done, bind_ok, unless_ok, ok_is}
use Rattle.parsing.proofs.Numbers.{IsBytes-drop, IsBytes-take, number_fits, number_again, length-big, bytes_again}

-- ---- what was taken from the front

pub record Takes (file : Place) (text : List ℕ) (after : Place) : Type 0 where
  pub parts : file.1 ≡ text ++ after.1
  pub moved : after.0 ≡ file.0 + length text
  pub rest_fits : IsBytes after.1

pub takes_none : (file : Place) → IsBytes file.1 → Takes file [] file
takes_none file fits = record { parts = refl; moved = omega arith; rest_fits = fits }

pub Takes-then : (a : Place) (x : List ℕ) (b : Place) (y : List ℕ) (c : Place) → Takes a x b → Takes b y c
    → Takes a (x ++ y) c
Takes-then a x b y c p q = record {
  parts = p.parts ∙ ap (λ (t : List ℕ). x ++ t) q.parts ∙ sym (append_assoc x y c.1);
  moved = omega (arith, p.moved, q.moved, length-append x y);
  rest_fits = q.rest_fits;
}

-- a place further on, with the offset in two forms
pub same_place : {A : Type 0} (E : Type 0) (x : A) (i j : ℕ) (rest : List ℕ) → i ≡ j
    → done {A = A × Place} E (x, (i, rest)) ≡ done {A = A × Place} E (x, (j, rest))
same_place {A} E x i j rest e = ap (λ (k : ℕ). done {A = A × Place} E (x, (k, rest))) e

-- ---- fields

pub field_takes : (n : ℕ) (file : Place) (x : List ℕ × Place) → IsBytes file.1 → field_at n file ≡ Ok x
    → Takes file x.0 x.1 × HasBytes n x.0
unfolding field_at
field_takes n file x fits e =
    let cut : Cut = record { at = file.0 } in
    let g = unless_ok (ltb (length file.1) n) cut (take n file.1, (file.0 + n, drop n file.1)) x e in
    let long : n ≤ length file.1 = ltb-false _ _ g.0 in
    let len : length (take n file.1) ≡ n = omega (arith, length-take n file.1) in
    let taken : Takes file (take n file.1) (file.0 + n, drop n file.1) = record {
      parts = sym (take-append-drop n file.1);
      moved = omega (arith, len);
      rest_fits = IsBytes-drop n file.1 fits;
    } in
    subst (λ (y : List ℕ × Place). Takes file y.0 y.1 × HasBytes n y.0) g.1
    (taken, (len, IsBytes-take n file.1 fits))

pub field_again : (n at : ℕ) (text rest : List ℕ) → length text ≡ n
    → field_at n (at, text ++ rest) ≡ Ok (text, (at + n, rest))
unfolding field_at
field_again n at text rest len =
    let long : ltb (length (text ++ rest)) n ≡ false = le-ltb _ _ (omega (arith, length-append text rest)) in
    rw (long, take_at text rest n len, drop_at text rest n len) refl

pub field_moves : (n : ℕ) (file : Place) (x : List ℕ × Place) → field_at n file ≡ Ok x → x.1.0 ≡ file.0 + n
unfolding field_at
field_moves n file x e =
    let cut : Cut = record { at = file.0 } in
    let g = unless_ok (ltb (length file.1) n) cut (take n file.1, (file.0 + n, drop n file.1)) x e in
    ap (λ (y : List ℕ × Place). y.1.0) (sym g.1)

-- ---- numbers

abbrev then_number : ℕ → List ℕ × Place → Result (ℕ × Place) Cut
then_number n field = Ok (big_number n field.0, field.1)

pub number_takes : (n : ℕ) (file : Place) (x : ℕ × Place) → IsBytes file.1 → number_at n file ≡ Ok x
    → Takes file (big_bytes n x.0) x.1 × (x.0 < 256 ^ n)
unfolding number_at
number_takes n file x fits e =
    let a = bind_ok (field_at n file) (then_number n) x e in
    let t = field_takes n file a.0 fits a.1 in
    let back : big_bytes n (big_number n a.0.0) ≡ a.0.0 = bytes_again n a.0.0 t.1.0 t.1.1 in
    let taken : Takes file (big_bytes n (big_number n a.0.0)) a.0.1 =
    subst (λ (text : List ℕ). Takes file text a.0.1) (sym back) t.0 in
    subst (λ (y : ℕ × Place). Takes file (big_bytes n y.0) y.1 × (y.0 < 256 ^ n))
    (ok_is Cut (big_number n a.0.0, a.0.1) x a.2) (taken, number_fits n a.0.0 t.1.1)

pub number_read_again : (n at x : ℕ) (rest : List ℕ) → x < 256 ^ n
    → number_at n (at, big_bytes n x ++ rest) ≡ Ok (x, (at + n, rest))
unfolding number_at
number_read_again n at x rest lt =
    rw (field_again n at (big_bytes n x) rest (length-big n x), number_again n x lt) refl

pub number_moves : (n : ℕ) (file : Place) (x : ℕ × Place) → number_at n file ≡ Ok x → x.1.0 ≡ file.0 + n
unfolding number_at
number_moves n file x e =
    let a = bind_ok (field_at n file) (then_number n) x e in
    let same = ok_is Cut (big_number n a.0.0, a.0.1) x a.2 in
    ap (λ (y : ℕ × Place). y.1.0) (sym same) ∙ field_moves n file a.0 a.1
