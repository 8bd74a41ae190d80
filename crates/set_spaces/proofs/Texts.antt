-- Texts by their places.
use Rattle.std.proofs.Common.{◌≡◌, ◌≢◌, inl, inr, ℕ, suc, ◌+◌, ◌<◌, Bool, true, false, ◌&&◌, ◌||◌, List, [], ◌∷◌, ◌++◌, Option}
use Rattle.std.proofs.Common.{Some, None, map, take, length, get_or, refl, sym, ◌∙◌, ap, subst, arith, nat_eq, if◌then◌else◌}
use Rattle.std.specs.Prelude.{AllPairs, Contains, unwrap_or}
use Rattle.std.specs.Option.{is_some}
use Rattle.std.specs.Str.{bytes_eq}
use Rattle.std.proofs.lemmas.Bool.{false≢true}
use Rattle.std.proofs.lemmas.List.{get_or-take, get_or_default, length-map, length-take, take_more}
use Rattle.std.proofs.lemmas.Slice.Eq.{bytes_eq-Decides}
use Rattle.graph_walks.proofs.Lists.{Contains-cons_cases, Contains-head, Contains-tail}
use Rattle.plain_model.specs.First.{name_is}
use Rattle.text_table.specs.Sorted.{has_text, sorted_texts}
use Rattle.text_table.specs.Texts.{place_from, place_of, with_text}
use Rattle.set_directory.proofs.Sorted.{sorted_from, sorted_has}
use Rattle.set_spaces.specs.Names.{place_in}

-- ---- equal names

pub same_test : (a b : List ℕ) → name_is a b ≡ bytes_eq a b
same_test [] [] = refl
same_test [] (y ∷ ys) = refl
same_test (x ∷ xs) [] = refl
same_test (x ∷ xs) (y ∷ ys) = ap (λ b. nat_eq x y && b) (same_test xs ys)

pub same_bool : (a b : Bool) → (a ≡ true → b ≡ true) → (b ≡ true → a ≡ true) → a ≡ b
same_bool true true there back = refl
same_bool true false there back = sym (there refl)
same_bool false true there back = back refl
same_bool false false there back = refl

-- ---- whether a text is there

pub found_text : (texts : List (List ℕ)) (t : List ℕ) → has_text texts t ≡ true → Contains texts t
found_text [] t e = absurd (false≢true e)
found_text (u ∷ us) t e =
    elim (bytes_eq u t) as (λ b. bytes_eq u t ≡ b → (b || has_text us t) ≡ true → Contains (u ∷ us) t) [
      | true ↦ λ s f. subst (λ v. Contains (u ∷ us) v) ((bytes_eq-Decides u t).0 s) (Contains-head u us)
      | false ↦ λ s f. Contains-tail u us t (found_text us t f)
    ] refl e

pub text_found : (texts : List (List ℕ)) (t : List ℕ) → Contains texts t → has_text texts t ≡ true
text_found [] t c = absurd (omega (arith, c.1))
text_found (u ∷ us) t c = elim (Contains-cons_cases u us t c) [
  | inl same ↦ ap (λ b. b || has_text us t) ((bytes_eq-Decides u t).1 same)
  | inr d ↦ ap (λ b. bytes_eq u t || b) (text_found us t d) ∙ or_true (bytes_eq u t)
]
  where
    or_true : (b : Bool) → (b || true) ≡ true
    or_true true = refl
    or_true false = refl

pub sorted_same : (texts : List (List ℕ)) (t : List ℕ) → has_text (sorted_texts texts) t ≡ has_text texts t
sorted_same texts t = same_bool (has_text (sorted_texts texts) t) (has_text texts t)
    (λ e. text_found texts t (sorted_from texts t (found_text (sorted_texts texts) t e)))
    (λ e. text_found (sorted_texts texts) t (sorted_has texts t (found_text texts t e)))

-- ---- the place of a name

-- of the first of these with the name; one past all where there is none
abbrev pub first_at : {A : Type 0} → (A → List ℕ) → List A → List ℕ → ℕ
first_at f [] name = 0
first_at f (x ∷ xs) name = if name_is (f x) name then 0 else suc (first_at f xs name)

place_picked : (a b : Bool) → a ≡ b → (n m k : ℕ) (o : Option ℕ) → unwrap_or o (n + suc m) ≡ n + suc k
    → unwrap_or (if b then Some n else o) (n + suc m) ≡ n + (if a then 0 else suc k)
place_picked true true e n m k o h = omega arith
place_picked true false e n m k o h = absurd (false≢true (sym e))
place_picked false true e n m k o h = absurd (false≢true e)
place_picked false false e n m k o h = h

placed_from : {A : Type 0} (f : A → List ℕ) (xs : List A) (name : List ℕ) (n : ℕ)
    → unwrap_or (place_from n (map f xs) name) (n + length xs) ≡ n + first_at f xs name
placed_from f [] name n = refl
placed_from f (x ∷ xs) name n =
    let further : n + 1 + length xs ≡ n + suc (length xs) = omega arith in
    let past : n + 1 + first_at f xs name ≡ n + suc (first_at f xs name) = omega arith in
    place_picked (name_is (f x) name) (bytes_eq (f x) name) (same_test (f x) name) n (length xs)
    (first_at f xs name)
    (place_from (n + 1) (map f xs) name)
    (ap (λ k. unwrap_or (place_from (n + 1) (map f xs) name) k) (sym further)
    ∙ placed_from f xs name (n + 1) ∙ past)

pub placed_first : {A : Type 0} (f : A → List ℕ) (xs : List A) (names : List (List ℕ)) (name : List ℕ)
    → map f xs ≡ names → place_in names name ≡ first_at f xs name
placed_first f xs names name e =
    ap (λ ns. place_in ns name) (sym e)
    ∙ ap (λ k. unwrap_or (place_of (map f xs) name) k) (length-map xs f)
    ∙ ap (λ k. unwrap_or (place_of (map f xs) name) k)
    (let sum : length xs ≡ 0 + length xs = omega arith in sum)
    ∙ placed_from f xs name 0
    ∙ (let sum : 0 + first_at f xs name ≡ first_at f xs name = omega arith in sum)

-- ---- a name that isn't there yet

differ : (t x : List ℕ) → t ≢ x → bytes_eq t x ≡ false
differ t x other =
    elim (bytes_eq t x) as (λ b. bytes_eq t x ≡ b → b ≡ false) [
      | true ↦ λ e. absurd (other ((bytes_eq-Decides t x).0 e))
      | false ↦ λ e. refl
    ] refl

not_placed : (texts : List (List ℕ)) (x : List ℕ) (n : ℕ)
    → ((k : ℕ) → k < length texts → get_or texts k [] ≢ x) → place_from n texts x ≡ None
not_placed [] x n other = refl
not_placed (t ∷ ts) x n other =
    ap (λ b. if b then Some n else place_from (n + 1) ts x) (differ t x (other 0 (omega arith)))
    ∙ not_placed ts x (n + 1) (λ k lt. other (suc k) (omega (arith, lt)))

-- names that differ are added one after another
pub name_added : (names texts new : List (List ℕ)) (i : ℕ) (name text : List ℕ)
    → AllPairs (λ (left right : List ℕ). left ≢ right) names → i < length names → name ≡ get_or names i name
    → text ≡ name → texts ≡ take i names → new ≡ with_text texts text → new ≡ take (i + 1) names
name_added names texts new i name text apart below at same so_far added =
    let here : place_of (take i names) name ≡ None =
    not_placed (take i names) name 0 (λ k lt e.
    let early : k < i = omega (arith, lt, length-take i names) in
    apart k i [] early below
    (sym (get_or-take i names k [] early) ∙ e ∙ at ∙ get_or_default names i name [] below)) in
    added ∙ ap (with_text texts) same ∙ ap (λ ts. with_text ts name) so_far
    ∙ ap (λ o. if is_some o then take i names else take i names ++ name ∷ []) here
    ∙ ap (λ x. take i names ++ x ∷ []) at ∙ sym (take_more names i name below)
