-- Lists of found numbers: what they have, and what more values add to them.
use Rattle.std.proofs.Common.{◌≡◌, ℕ, zero, suc, ◌<◌, true, false, List, [], ◌∷◌, ◌++◌, refl, ap, sym, ◌∙◌, subst, arith}
use Rattle.std.proofs.Common.{if◌then◌else◌, nat_eq, ◌||◌, inl, inr, eq-eqb}
use Rattle.std.specs.Prelude.{All, Contains}
use Rattle.std.specs.List.{IsDistinct, list_any}
use Rattle.std.proofs.lemmas.Bool.{eqb-true, or_cases, or_left, or_right, false≢true}
use Rattle.std.proofs.lemmas.Cmp.{nat_eq_equiv}
use Rattle.std.proofs.Math.Bool.{or-false}
use Rattle.std.proofs.lemmas.List.{append-nil, append_assoc}
use Rattle.std.proofs.lemmas.List.Elements.{All-push, All-head, All-tail}
use Rattle.std.proofs.lemmas.Map.Keys.{IsDistinct-push}
use Rattle.graph_model.specs.declared.types.Value.{Value}
use Rattle.graph_model.specs.declared.types.Value.TheVariants.{Int, Long, Null, Obj as Object}
use Rattle.graph_model.specs.Heaps.{has_number, IsBelow}
use Rattle.graph_model.specs.Canon.{with_number, with_new}

-- what a list with one more number has
pub has_number-push : (xs : List ℕ) (t n : ℕ) → has_number (xs ++ t ∷ []) n ≡ (has_number xs n || nat_eq t n)
has_number-push [] t n = or-false (nat_eq t n)
has_number-push (x ∷ xs) t n =
    elim (nat_eq x n) as (λ b. (b || has_number (xs ++ t ∷ []) n) ≡ ((b || has_number xs n) || nat_eq t n))
    [ true ↦ refl | false ↦ has_number-push xs t n ]

pub has_number-any : (xs : List ℕ) (n : ℕ) → has_number xs n ≡ list_any (nat_eq n) xs
has_number-any [] n = refl
has_number-any (x ∷ xs) n = rw (nat_eq_equiv.symm x n, has_number-any xs n) refl

pub has_number-from_Contains : (xs : List ℕ) (n : ℕ) → Contains xs n → has_number xs n ≡ true
has_number-from_Contains [] n c = absurd (omega (arith, c.1))
has_number-from_Contains (x ∷ xs) n (zero, l, e) = or_left (nat_eq x n) (has_number xs n) (eq-eqb x n e)
has_number-from_Contains (x ∷ xs) n (suc k, l, e) =
    or_right (nat_eq x n) (has_number xs n) (has_number-from_Contains xs n (k, omega (arith, l), e))

pub Contains-from_has_number : (xs : List ℕ) (n : ℕ) → has_number xs n ≡ true → Contains xs n
Contains-from_has_number [] n h = absurd (false≢true h)
Contains-from_has_number (x ∷ xs) n h = elim (or_cases (nat_eq x n) (has_number xs n) h) [
  | inl e ↦ (0, omega arith, eqb-true x n e)
  | inr e ↦ (let c = Contains-from_has_number xs n e in (suc c.0, omega (arith, c.1), c.2))
]

-- ---- one more number
pub with_number-keeps : (found : List ℕ) (m n : ℕ) → has_number found n ≡ true → has_number (with_number found m) n ≡ true
with_number-keeps found m n h =
    elim (has_number found m) as (λ b. has_number (if b then found else found ++ m ∷ []) n ≡ true)
    [ true ↦ h | false ↦ rw (has_number-push found m n, h) refl ]

pub with_number-has : (found : List ℕ) (m : ℕ) → has_number (with_number found m) m ≡ true
with_number-has found m =
    elim (has_number found m) as (λ b. has_number found m ≡ b → has_number (if b then found else found ++ m ∷ []) m ≡ true) [
      | true ↦ λ e. e
      | false ↦ λ e. has_number-push found m m ∙ or_right (has_number found m) (nat_eq m m) (eq-eqb m m refl)
    ] refl

pub with_number-only : (P : ℕ → Type 0) (found : List ℕ) (m : ℕ) → ((n : ℕ) → has_number found n ≡ true → P n) → P m
    → (n : ℕ) → has_number (with_number found m) n ≡ true → P n
with_number-only P found m f p n =
    elim (has_number found m) as (λ b. has_number (if b then found else found ++ m ∷ []) n ≡ true → P n) [
      | true ↦ f n
      | false ↦ λ h. elim (or_cases (has_number found n) (nat_eq m n) (sym (has_number-push found m n) ∙ h))
          [ inl e ↦ f n e | inr e ↦ subst P (eqb-true m n e) p ]
    ]

pub with_number-prefix : (found : List ℕ) (m : ℕ) → (extra : List ℕ) × (with_number found m ≡ found ++ extra)
with_number-prefix found m =
    elim (has_number found m) as (λ b. (extra : List ℕ) × ((if b then found else found ++ m ∷ []) ≡ found ++ extra))
    [ true ↦ ([], sym (append-nil found)) | false ↦ (m ∷ [], refl) ]

pub with_number-distinct : (found : List ℕ) (m : ℕ) → IsDistinct nat_eq found → IsDistinct nat_eq (with_number found m)
with_number-distinct found m d =
    elim (has_number found m) as (λ b. has_number found m ≡ b → IsDistinct nat_eq (if b then found else found ++ m ∷ [])) [
      | true ↦ λ e. d
      | false ↦ λ e. IsDistinct-push nat_eq_equiv found m d (sym (has_number-any found m) ∙ e)
    ] refl

pub with_number-below : (n : ℕ) (found : List ℕ) (m : ℕ) → All (λ k. k < n) found → m < n → All (λ k. k < n) (with_number found m)
with_number-below n found m h l =
    elim (has_number found m) as (λ b. All (λ k. k < n) (if b then found else found ++ m ∷ []))
    [ true ↦ h | false ↦ All-push (λ k. k < n) found m h l ]

-- ---- more values
pub with_new-append : (found : List ℕ) (xs ys : List Value) → with_new found (xs ++ ys) ≡ with_new (with_new found xs) ys
with_new-append found [] ys = refl
with_new-append found (Object n ∷ xs) ys = with_new-append (with_number found n) xs ys
with_new-append found (Int i ∷ xs) ys = with_new-append found xs ys
with_new-append found (Long i ∷ xs) ys = with_new-append found xs ys
with_new-append found (Null ∷ xs) ys = with_new-append found xs ys

pub with_new-keeps : (found : List ℕ) (values : List Value) (n : ℕ) → has_number found n ≡ true → has_number (with_new found values) n ≡ true
with_new-keeps found [] n h = h
with_new-keeps found (Object m ∷ values) n h = with_new-keeps (with_number found m) values n (with_number-keeps found m n h)
with_new-keeps found (Int i ∷ values) n h = with_new-keeps found values n h
with_new-keeps found (Long i ∷ values) n h = with_new-keeps found values n h
with_new-keeps found (Null ∷ values) n h = with_new-keeps found values n h

number_of : Value → ℕ
number_of (Object n) = n
number_of (Int i) = 0
number_of (Long i) = 0
number_of Null = 0

pub same_number : (m n : ℕ) → Object m ≡ Object n → m ≡ n
unfolding number_of
same_number m n e = ap number_of e

pub with_new-has : (found : List ℕ) (values : List Value) (m : ℕ) → Contains values (Object m) → has_number (with_new found values) m ≡ true
with_new-has found [] m c = absurd (omega (arith, c.1))
with_new-has found (Object n ∷ values) m (zero, l, e) =
    with_new-keeps (with_number found n) values m
    (subst (λ k. has_number (with_number found n) k ≡ true) (same_number n m e) (with_number-has found n))
with_new-has found (Object n ∷ values) m (suc k, l, e) = with_new-has (with_number found n) values m (k, omega (arith, l), e)
with_new-has found (Int i ∷ values) m (zero, l, e) = absurd (let f : Int i ≡ Object m = e in cc)
with_new-has found (Int i ∷ values) m (suc k, l, e) = with_new-has found values m (k, omega (arith, l), e)
with_new-has found (Long i ∷ values) m (zero, l, e) = absurd (let f : Long i ≡ Object m = e in cc)
with_new-has found (Long i ∷ values) m (suc k, l, e) = with_new-has found values m (k, omega (arith, l), e)
with_new-has found (Null ∷ values) m (zero, l, e) = absurd (let f : Null ≡ Object m = e in cc)
with_new-has found (Null ∷ values) m (suc k, l, e) = with_new-has found values m (k, omega (arith, l), e)

later : (v : Value) (values : List Value) (m : ℕ) → Contains values (Object m) → Contains (v ∷ values) (Object m)
later v values m c = (suc c.0, omega (arith, c.1), c.2)

pub with_new-only : (P : ℕ → Type 0) (found : List ℕ) (values : List Value) → ((n : ℕ) → has_number found n ≡ true → P n)
    → ((n : ℕ) → Contains values (Object n) → P n) → (n : ℕ) → has_number (with_new found values) n ≡ true → P n
with_new-only P found [] f v n h = f n h
with_new-only P found (Object j ∷ values) f v n h =
    with_new-only P (with_number found j) values (with_number-only P found j f (v j (0, omega arith, refl)))
    (λ m c. v m (later (Object j) values m c)) n h
with_new-only P found (Int i ∷ values) f v n h = with_new-only P found values f (λ m c. v m (later (Int i) values m c)) n h
with_new-only P found (Long i ∷ values) f v n h = with_new-only P found values f (λ m c. v m (later (Long i) values m c)) n h
with_new-only P found (Null ∷ values) f v n h = with_new-only P found values f (λ m c. v m (later Null values m c)) n h

-- what was found stays where it was
pub with_new-prefix : (found : List ℕ) (values : List Value) → (extra : List ℕ) × (with_new found values ≡ found ++ extra)
with_new-prefix found [] = ([], sym (append-nil found))
with_new-prefix found (Object m ∷ values) =
    let p = with_number-prefix found m in let q = with_new-prefix (with_number found m) values in
    (p.0 ++ q.0, q.1 ∙ ap (λ xs. xs ++ q.0) p.1 ∙ append_assoc found p.0 q.0)
with_new-prefix found (Int i ∷ values) = with_new-prefix found values
with_new-prefix found (Long i ∷ values) = with_new-prefix found values
with_new-prefix found (Null ∷ values) = with_new-prefix found values

pub with_new-distinct : (found : List ℕ) (values : List Value) → IsDistinct nat_eq found → IsDistinct nat_eq (with_new found values)
with_new-distinct found [] d = d
with_new-distinct found (Object m ∷ values) d = with_new-distinct (with_number found m) values (with_number-distinct found m d)
with_new-distinct found (Int i ∷ values) d = with_new-distinct found values d
with_new-distinct found (Long i ∷ values) d = with_new-distinct found values d
with_new-distinct found (Null ∷ values) d = with_new-distinct found values d

pub with_new-below : (n : ℕ) (found : List ℕ) (values : List Value) → All (λ k. k < n) found → All (IsBelow n) values
    → All (λ k. k < n) (with_new found values)
with_new-below n found [] h v = h
with_new-below n found (Object m ∷ values) h v =
    with_new-below n (with_number found m) values
    (with_number-below n found m h (All-head (IsBelow n) (Object m) values v)) (All-tail (IsBelow n) (Object m) values v)
with_new-below n found (Int i ∷ values) h v = with_new-below n found values h (All-tail (IsBelow n) (Int i) values v)
with_new-below n found (Long i ∷ values) h v = with_new-below n found values h (All-tail (IsBelow n) (Long i) values v)
with_new-below n found (Null ∷ values) h v = with_new-below n found values h (All-tail (IsBelow n) Null values v)
