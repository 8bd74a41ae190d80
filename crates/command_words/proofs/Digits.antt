use Rattle.std.proofs.Common.{◌≡◌, ◌<◌, ◌≤◌, ◌+◌, ◌*◌, ◌-◌, ◌^◌, ℕ, arith, refl, List, ◌∷◌, length, drop, get_or}
use Rattle.std.proofs.Common.{drop-cons, add-one}
use Rattle.std.proofs.Math.Nat.{pow-succ', pow-le-pow_right}

pub front : (xs : List ℕ) (i : ℕ) → i < length xs → drop i xs ≡ get_or xs i 0 ∷ drop (i + 1) xs
front xs i h = rw (add-one, drop-cons xs i 0)

pub next_fits : (n i b : ℕ) → n < 10 ^ i → b < 10 → n * 10 + b < 10 ^ (i + 1)
next_fits n i b below digit = rw (add-one, pow-succ' 10 i) (omega arith)

pub small : (n i : ℕ) → n < 10 ^ i → i < 12 → n < 100000000000
small n i below few =
    let few' : i ≤ 11 = omega arith in
    let most : 10 ^ i ≤ 10 ^ 11 = pow-le-pow_right {n = 10} (omega arith) {i = i} {j = 11} few' in
    let number : 10 ^ 11 ≡ 100000000000 = refl in
    omega (arith, most, number, below)
