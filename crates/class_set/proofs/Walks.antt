-- What a walk finds first, and which types stand above a class.
use Rattle.std.proofs.Common.{◌≡◌, ℕ, zero, suc, ◌+◌, ◌<◌, Bool, true, false, nat_eq, not, ◌||◌, List, [], ◌∷◌, ◌++◌, Option}
use Rattle.std.proofs.Common.{Some, None, map, length, filter, slice_index_or, refl, ap, sym, ◌∙◌, arith, if◌then◌else◌, inl}
use Rattle.std.proofs.Common.{inr}
use Rattle.std.specs.List.{flat_map}
use Rattle.std.proofs.lemmas.Bool.{eqb-true, cases_lt}
use Rattle.std.proofs.lemmas.Cmp.{nat_eq_equiv}
use Rattle.std.proofs.lemmas.List.{get_or_append_left, length-map, length-append}
use Rattle.graph_model.specs.Heaps.{has_number}
use Rattle.graph_walks.specs.Order.{walk, firsts, visits, visits_from}
use Rattle.graph_walks.specs.Reached.{has_vertex}
use Rattle.plain_model.specs.First.{numbers_to}
use Rattle.class_set.specs.Lookups.{first_some}

-- ---- numbers in order

pub numbers_more : (n : ℕ) → numbers_to (n + 1) ≡ numbers_to n ++ n ∷ []
numbers_more n = (let e : n + 1 ≡ suc n = omega arith in ap numbers_to e)

pub map-numbers_more : {X : Type 0} (f : ℕ → X) (n : ℕ) → map f (numbers_to (n + 1)) ≡ map f (numbers_to n) ++ f n ∷ []
map-numbers_more f n = ap (map f) (numbers_more n) ∙ mapped (numbers_to n)
  where
    mapped : (ns : List ℕ) → map f (ns ++ n ∷ []) ≡ map f ns ++ f n ∷ []
    mapped [] = refl
    mapped (m ∷ ms) = ap (λ ys. f m ∷ ys) (mapped ms)

pub numbers_counted : (n : ℕ) → length (numbers_to n) ≡ n
numbers_counted zero = refl
numbers_counted (suc n) = length-append (numbers_to n) (n ∷ []) ∙ omega (arith, numbers_counted n)

pub mapped_counted : {X : Type 0} (f : ℕ → X) (n : ℕ) → length (map f (numbers_to n)) ≡ n
mapped_counted f n = length-map (numbers_to n) f ∙ numbers_counted n

last_of : {X : Type 0} (xs : List X) (x d : X) (n : ℕ) → length xs ≡ n → slice_index_or (xs ++ x ∷ []) n d ≡ x
last_of [] x d zero e = refl
last_of [] x d (suc n) e = absurd (omega (arith, e))
last_of (y ∷ ys) x d zero e = absurd (omega (arith, e))
last_of (y ∷ ys) x d (suc n) e = last_of ys x d n (omega (arith, e))

pub mapped_read : {X : Type 0} (f : ℕ → X) (n k : ℕ) (d : X) → k < n → slice_index_or (map f (numbers_to n)) k d ≡ f k
mapped_read f zero k d l = absurd (omega (arith, l))
mapped_read f (suc n) k d l =
    let front = map f (numbers_to n) in
    let next : suc n ≡ n + 1 = omega arith in
    let more : map f (numbers_to (suc n)) ≡ front ++ f n ∷ [] = ap (λ m. map f (numbers_to m)) next ∙ map-numbers_more f n in
    let size = mapped_counted f n in
    ap (λ xs. slice_index_or xs k d) more
    ∙ elim (cases_lt k n) [
      | inl m ↦ get_or_append_left front (f n ∷ []) d k (omega (arith, size, m)) ∙ mapped_read f n k d m
      | inr h ↦ (let same : k ≡ n = omega (arith, h, l) in
          ap (λ j. slice_index_or (front ++ f n ∷ []) j d) same ∙ last_of front (f n) d n size ∙ ap f (sym same))
    ]

-- ---- the first answer along a walk

passed : {B : Type 0} (f : ℕ → Option B) (n : ℕ) (ns : List ℕ) → f n ≡ None → first_some f (n ∷ ns) ≡ first_some f ns
passed f n ns e = rw (e, first_some) refl

after : {B : Type 0} (f : ℕ → Option B) (n : ℕ) (xs ys : List ℕ) → first_some f xs ≡ first_some f ys → first_some f (n ∷ xs) ≡ first_some f (n ∷ ys)
after {B} f n xs ys e = ap (λ r. elim (f n) as (λ o. Option B) [ None ↦ r | Some y ↦ Some y ]) e

first_some-without : {B : Type 0} (f : ℕ → Option B) (v : ℕ) (ns : List ℕ) → f v ≡ None
    → first_some f (filter (λ m. not (nat_eq m v)) ns) ≡ first_some f ns
first_some-without f v [] none = refl
first_some-without f v (n ∷ ns) none =
    elim (nat_eq n v) as (λ b. nat_eq n v ≡ b → first_some f (if not b then n ∷ filter (λ m. not (nat_eq m v)) ns else filter (λ m. not (nat_eq m v)) ns)
    ≡ first_some f (n ∷ ns)) [
      | true ↦ λ e. first_some-without f v ns none ∙ sym (passed f n ns (ap f (eqb-true n v e) ∙ none))
      | false ↦ λ e. after f n (filter (λ m. not (nat_eq m v)) ns) ns (first_some-without f v ns none)
    ] refl

found : {B : Type 0} (f : ℕ → Option B) (n : ℕ) (y : B) (ns : List ℕ) → f n ≡ Some y → first_some f (n ∷ ns) ≡ Some y
found f n y ns e = rw (e, first_some) refl

pub first_some-firsts : {B : Type 0} (f : ℕ → Option B) (ns : List ℕ) → first_some f (firsts ns) ≡ first_some f ns
first_some-firsts f [] = refl
first_some-firsts f (n ∷ ns) =
    elim (f n) as (λ o. f n ≡ o → first_some f (firsts (n ∷ ns)) ≡ first_some f (n ∷ ns)) [
      | None ↦ λ e. after f n (filter (λ m. not (nat_eq m n)) (firsts ns)) ns (first_some-without f n (firsts ns) e ∙ first_some-firsts f ns)
      | Some y ↦ λ e. found f n y (filter (λ m. not (nat_eq m n)) (firsts ns)) e ∙ sym (found f n y ns e)
    ] refl

pub first_some-visits : {B : Type 0} (f : ℕ → Option B) (edges : List (List ℕ)) (v : ℕ) → first_some f (visits edges v) ≡ first_some f (walk edges v)
unfolding visits
first_some-visits f edges v = first_some-firsts f (walk edges v)

-- ---- membership

flipped : (a b : ℕ) → nat_eq a b ≡ false → nat_eq b a ≡ false
flipped a b h = nat_eq_equiv.symm b a ∙ h

has_number-without : (v t : ℕ) (ns : List ℕ) → nat_eq v t ≡ false → has_vertex (filter (λ m. not (nat_eq m v)) ns) t ≡ has_vertex ns t
has_number-without v t [] e = refl
has_number-without v t (n ∷ ns) e =
    elim (nat_eq n v) as (λ b. nat_eq n v ≡ b → has_vertex (if not b then n ∷ filter (λ m. not (nat_eq m v)) ns else filter (λ m. not (nat_eq m v)) ns) t
    ≡ (nat_eq t n || has_vertex ns t)) [
      | true ↦ λ s. has_number-without v t ns e ∙ ap (λ b. b || has_vertex ns t) (sym (ap (nat_eq t) (eqb-true n v s) ∙ flipped v t e))
      | false ↦ λ s. ap (λ b. nat_eq t n || b) (has_number-without v t ns e)
    ] refl

pub has_vertex-firsts : (ns : List ℕ) (t : ℕ) → has_vertex (firsts ns) t ≡ has_vertex ns t
has_vertex-firsts [] t = refl
has_vertex-firsts (n ∷ ns) t =
    elim (nat_eq t n) as (λ b. nat_eq t n ≡ b → (b || has_vertex (filter (λ m. not (nat_eq m n)) (firsts ns)) t) ≡ (b || has_vertex ns t)) [
      | true ↦ λ e. refl
      | false ↦ λ e. has_number-without n t (firsts ns) (flipped t n e) ∙ has_vertex-firsts ns t
    ] refl

-- ---- supertypes

number_is_vertex : (ns : List ℕ) (t : ℕ) → has_number ns t ≡ has_vertex ns t
number_is_vertex [] t = refl
number_is_vertex (n ∷ ns) t = ap (λ b. b || has_number ns t) (nat_eq_equiv.symm n t) ∙ ap (λ b. nat_eq t n || b) (number_is_vertex ns t)

pub has_vertex-append : (xs ys : List ℕ) (t : ℕ) → has_vertex (xs ++ ys) t ≡ (has_vertex xs t || has_vertex ys t)
has_vertex-append [] ys t = refl
has_vertex-append (x ∷ xs) ys t =
    elim (nat_eq t x) as (λ b. (b || has_vertex (xs ++ ys) t) ≡ ((b || has_vertex xs t) || has_vertex ys t))
    [ true ↦ refl | false ↦ has_vertex-append xs ys t ]

-- walks from each of these have what these and the interfaces above them are
walks_have : (above : ℕ → List ℕ) (ns : List ℕ) (t : ℕ)
    → has_vertex (flat_map (λ n. n ∷ above n) ns) t ≡ has_vertex (ns ++ flat_map above ns) t
walks_have above [] t = refl
walks_have above (n ∷ ns) t =
    ap (λ b. nat_eq t n || b) (has_vertex-append (above n) (flat_map (λ m. m ∷ above m) ns) t
    ∙ ap (λ b. has_vertex (above n) t || b) (walks_have above ns t ∙ has_vertex-append ns (flat_map above ns) t)
    ∙ swapped (has_vertex (above n) t) (has_vertex ns t) (has_vertex (flat_map above ns) t)
    ∙ ap (λ b. has_vertex ns t || b) (sym (has_vertex-append (above n) (flat_map above ns) t))
    ∙ sym (has_vertex-append ns (above n ++ flat_map above ns) t))
  where
    swapped : (a b c : Bool) → (a || (b || c)) ≡ (b || (a || c))
    swapped true true c = refl
    swapped true false c = refl
    swapped false b c = refl

pub reached_has : (edges : List (List ℕ)) (above : ℕ → List ℕ) (starts : List ℕ) (t : ℕ)
    → flat_map (walk edges) starts ≡ flat_map (λ n. n ∷ above n) starts
    → has_vertex (visits_from edges starts) t ≡ has_number (starts ++ flat_map above starts) t
unfolding visits_from
reached_has edges above starts t e =
    has_vertex-firsts (flat_map (walk edges) starts) t
    ∙ ap (λ ns. has_vertex ns t) e
    ∙ walks_have above starts t
    ∙ sym (number_is_vertex (starts ++ flat_map above starts) t)
