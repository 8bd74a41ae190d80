-- A field that is read is the field that was written, and what was written is read again.
use Rattle.std.proofs.Common.{◌≡◌, ℕ, ◌+◌, ◌^◌, ◌<◌, Bool, false, cond, List, ◌++◌, length, Ok, Err, refl, sym, ap, subst}
use Rattle.std.proofs.Common.{arith}
use Rattle.byteorder.specs.Endian.{big_bytes}
use Rattle.parsing.specs.Results.{◌>>=◌, placed, unless_found}
use Rattle.parsing.specs.Places.{Place, field_at, number_at}
use Rattle.parsing.specs.Bytes.{IsBytes, HasBytes}
use Rattle.parsing.proofs.Steps.{bind_ok, ok_is, unless_ok, none_found, placed_ok}
use Rattle.parsing.proofs.Fields as fields
use Rattle.parsing.proofs.Fields.{Takes, Takes-then, same_place}
use Rattle.const_pool.specs.declared.refusal.PoolRefusal.{PoolRefusal}
use Rattle.const_pool.specs.declared.refusal.PoolRefusal.TheVariants.{BadUtf8}
use Rattle.const_pool.specs.declared.entry.Member.{Member}
use Rattle.const_pool.specs.Utf8.{IsModifiedUtf8, bad_place}
use Rattle.const_pool.specs.Entry.{AreIndices, index_bytes, member_bytes}
use Rattle.const_pool.specs.Reading.{of_cut, field_from, number_from, name_from, member_from}
use Rattle.const_pool.proofs.Texts.{good_has_none, none_is_good}

pub guard_ok : {A : Type 0} (b : Bool) (d : PoolRefusal) (x y : A) → cond b (Err d) (Ok x) ≡ Ok y
    → (b ≡ false) × (x ≡ y)
guard_ok b d x y e = unless_ok b d x y e

-- ---- fields and numbers

pub field_takes : (n : ℕ) (file : Place) (x : List ℕ × Place) → IsBytes file.1 → field_from n file ≡ Ok x
    → Takes file x.0 x.1 × HasBytes n x.0
field_takes n file x fits e = fields.field_takes n file x fits (placed_ok of_cut (field_at n file) x e)

pub field_again : (n at : ℕ) (text rest : List ℕ) → length text ≡ n
    → field_from n (at, text ++ rest) ≡ Ok (text, (at + n, rest))
field_again n at text rest len = ap (placed of_cut) (fields.field_again n at text rest len)

pub number_takes : (n : ℕ) (file : Place) (x : ℕ × Place) → IsBytes file.1 → number_from n file ≡ Ok x
    → Takes file (big_bytes n x.0) x.1 × (x.0 < 256 ^ n)
number_takes n file x fits e = fields.number_takes n file x fits (placed_ok of_cut (number_at n file) x e)

pub number_from-again : (n at x : ℕ) (rest : List ℕ) → x < 256 ^ n
    → number_from n (at, big_bytes n x ++ rest) ≡ Ok (x, (at + n, rest))
number_from-again n at x rest lt = ap (placed of_cut) (fields.number_read_again n at x rest lt)

-- ---- names

pub name_takes : (file : Place) (x : List ℕ × Place) → IsBytes file.1 → name_from file ≡ Ok x
    → Takes file (big_bytes 2 (length x.0) ++ x.0) x.1 × (length x.0 < 2 ^ 16) × IsModifiedUtf8 x.0
unfolding name_from
name_takes file x fits e =
    let a = bind_ok (number_from 2 file) (λ len. field_from len.0 len.1 >>= λ text. unless_found (bad_place 0 0 text.0) (λ place. BadUtf8 (len.1.0 + place)) >>= λ good. Ok text) x e in
    let b = bind_ok (field_from a.0.0 a.0.1) (λ text. unless_found (bad_place 0 0 text.0) (λ place. BadUtf8 (a.0.1.0 + place)) >>= λ good. Ok text) x a.2 in
    let c = bind_ok (unless_found (bad_place 0 0 b.0.0) (λ place. BadUtf8 (a.0.1.0 + place))) (λ good. Ok b.0) x b.2 in
    let t = number_takes 2 file a.0 fits a.1 in
    let u = field_takes a.0.0 a.0.1 b.0 t.0.rest_fits b.1 in
    let good = none_is_good b.0.0 (none_found (bad_place 0 0 b.0.0) (λ place. BadUtf8 (a.0.1.0 + place)) c.0 c.1) in
    let both = Takes-then file (big_bytes 2 a.0.0) a.0.1 b.0.0 b.0.1 t.0 u.0 in
    let whole : Takes file (big_bytes 2 (length b.0.0) ++ b.0.0) b.0.1 = subst (λ (k : ℕ). Takes file (big_bytes 2 k ++ b.0.0) b.0.1) (sym u.1.0) both in
    subst (λ (y : List ℕ × Place). Takes file (big_bytes 2 (length y.0) ++ y.0) y.1 × (length y.0 < 2 ^ 16) × IsModifiedUtf8 y.0) (ok_is PoolRefusal b.0 x c.2) (whole, omega (arith, t.1, u.1.0), good)

pub name_again : (at : ℕ) (name rest : List ℕ) → length name < 2 ^ 16 → IsModifiedUtf8 name
    → name_from (at, (big_bytes 2 (length name) ++ name) ++ rest) ≡ Ok (name, (at + length (big_bytes 2 (length name) ++ name), rest))
unfolding name_from
name_again at name rest short good =
    let none = good_has_none name good in
    let ends : at + 2 + length name ≡ at + length (big_bytes 2 (length name) ++ name) = omega arith in
    rw (number_from-again 2 at (length name) (name ++ rest) short, field_again (length name) (at + 2) name rest refl, none) (same_place PoolRefusal name _ _ rest ends)

-- ---- members

pub member_takes : (file : Place) (x : Member × Place) → IsBytes file.1 → member_from file ≡ Ok x
    → Takes file (member_bytes x.0) x.1 × AreIndices x.0
unfolding member_from
member_takes file x fits e =
    let a = bind_ok (number_from 2 file) (λ class. number_from 2 class.1 >>= λ name_and_type. Ok (record { class = class.0; name_and_type = name_and_type.0 }, name_and_type.1)) x e in
    let b = bind_ok (number_from 2 a.0.1) (λ name_and_type. Ok (record { class = a.0.0; name_and_type = name_and_type.0 }, name_and_type.1)) x a.2 in
    let t = number_takes 2 file a.0 fits a.1 in
    let u = number_takes 2 a.0.1 b.0 t.0.rest_fits b.1 in
    let both = Takes-then file (index_bytes a.0.0) a.0.1 (index_bytes b.0.0) b.0.1 t.0 u.0 in
    let made : Member × Place = (record { class = a.0.0; name_and_type = b.0.0 }, b.0.1) in
    subst (λ (y : Member × Place). Takes file (member_bytes y.0) y.1 × AreIndices y.0) (ok_is PoolRefusal made x b.2) (both, (t.1, u.1))

pub member_again : (at : ℕ) (m : Member) (rest : List ℕ) → AreIndices m
    → member_from (at, member_bytes m ++ rest) ≡ Ok (m, (at + 4, rest))
unfolding member_from
member_again at m rest fits =
    let ends : at + 2 + 2 ≡ at + 4 = omega arith in
    rw (number_from-again 2 at m.class (index_bytes m.name_and_type ++ rest) fits.0, number_from-again 2 (at + 2) m.name_and_type rest fits.1) (same_place PoolRefusal m _ _ rest ends)
