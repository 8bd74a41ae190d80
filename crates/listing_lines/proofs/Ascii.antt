-- ASCII bytes without zero are modified UTF-8.
use Rattle.std.proofs.Common.{◌≡◌, ℕ, ◌<◌, ◌^◌, Bool, true, false, List, [], ◌∷◌, refl, ap, arith}
use Rattle.std.specs.Prelude.{◌&&◌}
use Rattle.std.specs.List.{list_all, AllByRecursion}
use Rattle.std.proofs.lemmas.Grind.{common_steps}
use Rattle.std.proofs.lemmas.Bool.Decides.{nat_tests}
use Rattle.const_pool.specs.Utf8.{IsModifiedUtf8, IsUnit, unit_bytes, units_bytes}
use Rattle.listing_lines.specs.Reading.{is_ascii}

one_byte : (b : ℕ) → is_ascii b ≡ true → unit_bytes b ≡ b ∷ []
one_byte b h = grind (arith, nat_tests, common_steps)

small : (b : ℕ) → is_ascii b ≡ true → b < 2 ^ 16
small b h = grind (arith, nat_tests, common_steps)

first_ascii : (x y : Bool) → (x && y) ≡ true → x ≡ true
first_ascii true y h = refl
first_ascii false y h = h

rest_ascii : (x y : Bool) → (x && y) ≡ true → y ≡ true
rest_ascii true y h = h
rest_ascii false y h = absurd cc

units : (bytes : List ℕ) → list_all is_ascii bytes ≡ true → AllByRecursion IsUnit bytes
units [] h = tt
units (b ∷ bytes) h = (
  small b (first_ascii (is_ascii b) (list_all is_ascii bytes) h),
  units bytes (rest_ascii (is_ascii b) (list_all is_ascii bytes) h),
)

spelled : (bytes : List ℕ) → list_all is_ascii bytes ≡ true → bytes ≡ units_bytes bytes
spelled [] h = refl
spelled (b ∷ bytes) h =
    let first = one_byte b (first_ascii (is_ascii b) (list_all is_ascii bytes) h) in
    let rest = spelled bytes (rest_ascii (is_ascii b) (list_all is_ascii bytes) h) in
    rw first (ap (λ (xs : List ℕ). b ∷ xs) rest)

pub ascii_is_utf8 : (bytes : List ℕ) → list_all is_ascii bytes ≡ true → IsModifiedUtf8 bytes
ascii_is_utf8 bytes h = (bytes, units bytes h, spelled bytes h)
