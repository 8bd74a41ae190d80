-- Lists of reached vertices: what they have, and what more vertices add to them.
use Rattle.std.proofs.Common.{◌≡◌, ℕ, zero, suc, true, List, [], ◌∷◌, ◌++◌, refl, ap, sym, ◌∙◌, arith, if◌then◌else◌, nat_eq}
use Rattle.std.proofs.Common.{◌||◌, inl, inr, eq-eqb}
use Rattle.std.specs.Prelude.{Contains}
use Rattle.std.proofs.lemmas.Bool.{eqb-true, or_cases, or_left, or_right, false≢true}
use Rattle.std.proofs.Math.Bool.{or-false}
use Rattle.std.proofs.lemmas.List.Folds.{list_any-append}
use Rattle.graph_walks.specs.Reached.{has_vertex}

-- what a list with one more vertex has
pub has_vertex-push : (xs : List ℕ) (v n : ℕ) → has_vertex (xs ++ v ∷ []) n ≡ (has_vertex xs n || nat_eq n v)
has_vertex-push xs v n =
    list_any-append (nat_eq n) xs (v ∷ []) ∙ ap (λ b. has_vertex xs n || b) (or-false (nat_eq n v))

pub Contains-from_has_vertex : (xs : List ℕ) (n : ℕ) → has_vertex xs n ≡ true → Contains xs n
Contains-from_has_vertex [] n h = absurd (false≢true h)
Contains-from_has_vertex (x ∷ xs) n h = elim (or_cases (nat_eq n x) (has_vertex xs n) h) [
  | inl e ↦ (0, omega arith, sym (eqb-true n x e))
  | inr e ↦ (let c = Contains-from_has_vertex xs n e in (suc c.0, omega (arith, c.1), c.2))
]

pub has_vertex-from_Contains : (xs : List ℕ) (n : ℕ) → Contains xs n → has_vertex xs n ≡ true
has_vertex-from_Contains [] n c = absurd (omega (arith, c.1))
has_vertex-from_Contains (x ∷ xs) n (zero, l, e) = or_left (nat_eq n x) (has_vertex xs n) (eq-eqb n x (sym e))
has_vertex-from_Contains (x ∷ xs) n (suc k, l, e) =
    or_right (nat_eq n x) (has_vertex xs n) (has_vertex-from_Contains xs n (k, omega (arith, l), e))

-- ---- more vertices

abbrev pub with_vertex : List ℕ → ℕ → List ℕ
with_vertex reached v = if has_vertex reached v then reached else reached ++ v ∷ []

-- the reached vertices, and then those among the others that are new, in order
abbrev pub with_vertices : List ℕ → List ℕ → List ℕ
with_vertices reached [] = reached
with_vertices reached (v ∷ vs) = with_vertices (with_vertex reached v) vs

pub with_vertices-append : (reached xs ys : List ℕ)
    → with_vertices reached (xs ++ ys) ≡ with_vertices (with_vertices reached xs) ys
with_vertices-append reached [] ys = refl
with_vertices-append reached (x ∷ xs) ys = with_vertices-append (with_vertex reached x) xs ys

-- vertices that are all there already add none
pub with_vertices-none : (reached xs : List ℕ) → ((n : ℕ) → Contains xs n → Contains reached n)
    → with_vertices reached xs ≡ reached
with_vertices-none reached [] h = refl
with_vertices-none reached (x ∷ xs) h =
    let there : has_vertex reached x ≡ true = has_vertex-from_Contains reached x (h x (0, omega arith, refl)) in
    let same : with_vertex reached x ≡ reached = ap (λ b. if b then reached else reached ++ x ∷ []) there in
    ap (λ r. with_vertices r xs) same
    ∙ with_vertices-none reached xs (λ n c. h n (suc c.0, omega (arith, c.1), c.2))
