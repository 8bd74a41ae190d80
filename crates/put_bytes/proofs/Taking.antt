-- Bytes that a sink takes one piece after another.
use Rattle.std.proofs.Common.{◌≡◌, ℕ, ◌+◌, List, [], ◌∷◌, ◌++◌, take, drop, Option, Some, None, refl, sym, ap, ◌∙◌, suc, zero, arith}
use Rattle.std.proofs.lemmas.List.{append-nil, append_assoc}
use Rattle.ap_base.specs.Sinks.{with_bytes}

pub with-nothing : (o : Option (List ℕ)) → o ≡ with_bytes o []
with-nothing None = refl
with-nothing (Some before) = ap (λ (bytes : List ℕ). Some bytes) (sym (append-nil before))

pub with-more : (o : Option (List ℕ)) (a b : List ℕ) → with_bytes (with_bytes o a) b ≡ with_bytes o (a ++ b)
with-more None a b = refl
with-more (Some before) a b = ap (λ (bytes : List ℕ). Some bytes) (append_assoc before a b)

abbrev nothing : List ℕ
nothing = []

take-none : (n : ℕ) → take n nothing ≡ nothing
take-none zero = refl
take-none (suc n) = refl

pub take-more : (bytes : List ℕ) (k n : ℕ) → take k bytes ++ take n (drop k bytes) ≡ take (k + n) bytes
take-more bytes zero n = let e : 0 + n ≡ n = omega arith in rw e refl
take-more [] (suc k) n = take-none n ∙ sym (take-none (suc k + n))
take-more (x ∷ bytes) (suc k) n =
    let e : suc k + n ≡ suc (k + n) = omega arith in rw e (ap (λ (rest : List ℕ). x ∷ rest) (take-more bytes k n))

-- a sink took the first k bytes, and now n more
pub took-more : (before old new : Option (List ℕ)) (bytes : List ℕ) (k n : ℕ) → old ≡ with_bytes before (take k bytes)
    → new ≡ with_bytes old (take n (drop k bytes)) → new ≡ with_bytes before (take (k + n) bytes)
took-more before old new bytes k n first second =
    second ∙ ap (λ (o : Option (List ℕ)). with_bytes o (take n (drop k bytes))) first
    ∙ with-more before (take k bytes) (take n (drop k bytes)) ∙ ap (with_bytes before) (take-more bytes k n)
