-- Each number once, where it stands first.
use Rattle.std.proofs.Common.{◌≡◌, ℕ, Bool, true, false, List, [], ◌∷◌, ◌++◌, refl, ap, sym, ◌∙◌, if◌then◌else◌, nat_eq, not}
use Rattle.std.proofs.Common.{filter, ◌||◌, append_assoc}
use Rattle.std.proofs.lemmas.Bool.{eqb-true}
use Rattle.std.proofs.lemmas.List.{append-nil}
use Rattle.graph_walks.specs.Reached.{has_vertex}
use Rattle.graph_walks.proofs.Vertices.{has_vertex-push, with_vertices}
use Rattle.graph_walks.specs.Order.{firsts}

filter_filter : (p q both : ℕ → Bool) → ((n : ℕ) → both n ≡ (if q n then p n else false)) → (ns : List ℕ)
    → filter p (filter q ns) ≡ filter both ns
filter_filter p q both is [] = refl
filter_filter p q both is (n ∷ ns) =
    elim (q n) as (λ b. both n ≡ (if b then p n else false)
    → filter p (if b then n ∷ filter q ns else filter q ns) ≡ (if both n then n ∷ filter both ns else filter both ns)) [
      | true ↦ λ e. rw (e, filter_filter p q both is ns) refl
      | false ↦ λ e. rw (e, filter_filter p q both is ns) refl
    ] (is n)

-- a reached vertex is left out, so it makes no difference to those that aren't
new_to-old : (reached : List ℕ) (v : ℕ) → has_vertex reached v ≡ true → (n : ℕ)
    → not (has_vertex reached n) ≡ (if not (nat_eq n v) then not (has_vertex reached n) else false)
new_to-old reached v h n =
    elim (nat_eq n v) as (λ b. nat_eq n v ≡ b → not (has_vertex reached n) ≡ (if not b then not (has_vertex reached n) else false))
    [ true ↦ λ e. ap (λ m. not (has_vertex reached m)) (eqb-true n v e) ∙ ap not h | false ↦ λ e. refl ] refl

new_to-push : (reached : List ℕ) (v n : ℕ)
    → not (has_vertex (reached ++ v ∷ []) n) ≡ (if not (nat_eq n v) then not (has_vertex reached n) else false)
new_to-push reached v n =
    ap not (has_vertex-push reached v n)
    ∙ elim (has_vertex reached n) as (λ b. not (b || nat_eq n v) ≡ (if not (nat_eq n v) then not b else false)) [
      | true ↦ elim (nat_eq n v) as (λ b. false ≡ (if not b then false else false)) [ true ↦ refl | false ↦ refl ]
      | false ↦ elim (nat_eq n v) as (λ b. not b ≡ (if not b then true else false)) [ true ↦ refl | false ↦ refl ]
    ]

with_vertices-firsts : (reached ns : List ℕ) → with_vertices reached ns ≡ reached ++ filter (λ m. not (has_vertex reached m)) (firsts ns)
with_vertices-firsts reached [] = sym (append-nil reached)
with_vertices-firsts reached (n ∷ ns) =
    elim (has_vertex reached n) as (λ b. has_vertex reached n ≡ b → with_vertices (if b then reached else reached ++ n ∷ []) ns
    ≡ reached ++ (if not b then n ∷ filter (λ m. not (has_vertex reached m)) (filter (λ m. not (nat_eq m n)) (firsts ns))
    else filter (λ m. not (has_vertex reached m)) (filter (λ m. not (nat_eq m n)) (firsts ns)))) [
      | true ↦ λ e. with_vertices-firsts reached ns ∙ ap (λ xs. reached ++ xs) (sym (filter_filter (λ m. not (has_vertex reached m))
          (λ m. not (nat_eq m n)) (λ m. not (has_vertex reached m)) (new_to-old reached n e) (firsts ns)))
      | false ↦ λ e. with_vertices-firsts (reached ++ n ∷ []) ns ∙ append_assoc reached (n ∷ []) (filter (λ m. not (has_vertex (reached ++ n ∷ []) m)) (firsts ns))
          ∙ ap (λ xs. reached ++ n ∷ xs) (sym (filter_filter (λ m. not (has_vertex reached m))
          (λ m. not (nat_eq m n)) (λ m. not (has_vertex (reached ++ n ∷ []) m)) (new_to-push reached n) (firsts ns)))
    ] refl

filter_all : (ns : List ℕ) → filter (λ m. not (has_vertex [] m)) ns ≡ ns
filter_all [] = refl
filter_all (n ∷ ns) = ap (λ xs. n ∷ xs) (filter_all ns)

pub firsts_of : (ns : List ℕ) → with_vertices [] ns ≡ firsts ns
firsts_of ns = with_vertices-firsts [] ns ∙ filter_all (firsts ns)
