-- The durable roots of the first heap hold what the opening graph's roots hold.
use Rattle.std.proofs.Common.{◌≡◌, ℕ, suc, ◌+◌, ◌<◌, Bool, true, false, List, [], ◌∷◌, ◌++◌, map, filter, length, refl, ap, sym}
use Rattle.std.proofs.Common.{◌∙◌, subst, arith, nat_eq, ◌&&◌, slice_index_or, if◌then◌else◌, append_assoc, cond}
use Rattle.std.specs.Prelude.{◌≢◌, AllPairs, Option, Some, None, slice_get}
use Rattle.std.proofs.lemmas.Bool.{eqb-true, eq-eqb, and_parts, false≢true}
use Rattle.std.proofs.lemmas.List.{get_or-map, get_or_append_left, get_or_at, length-append, length-map}
use Rattle.std.proofs.lemmas.Option.{get_or_from_slice_get, slice_get_within}
use Rattle.graph_model.specs.declared.types.Value.{Value}
use Rattle.graph_model.specs.declared.types.Value.TheVariants.{Null}
use Rattle.graph_model.specs.declared.types.Root.{Root}
use Rattle.graph_model.specs.declared.types.NamedValue.{NamedValue}
use Rattle.graph_model.specs.declared.types.Graph.{Graph}
use Rattle.plain_model.specs.Facts.{SetFacts, StaticFacts}
use Rattle.plain_model.specs.First.{IsOpening, first_statics, static_value, root_static, root_value, roots_from, is_lacking}
use Rattle.plain_model.specs.First.{lacking_roots, name_is}

name_same : (a b : List ℕ) → name_is a b ≡ true → a ≡ b
name_same [] [] is = refl
name_same (x ∷ xs) (y ∷ ys) is =
    let (first, rest) = and_parts (nat_eq x y) (name_is xs ys) is in
    ap (λ n. n ∷ xs) (eqb-true x y first) ∙ ap (λ ns. y ∷ ns) (name_same xs ys rest)
name_same [] (y ∷ ys) is = absurd (false≢true is)
name_same (x ∷ xs) [] is = absurd (false≢true is)

name_own : (a : List ℕ) → name_is a a ≡ true
name_own [] = refl
name_own (x ∷ xs) = rw (eq-eqb x x refl) (name_own xs)

abbrev Differ : NamedValue → NamedValue → Type 0
Differ r s = r.name ≢ s.name

-- a root's value is found by its name, where names differ
root_own : (done : List NamedValue) (r : NamedValue) (rs : List NamedValue) → AllPairs Differ (done ++ r ∷ rs)
    → root_value (done ++ r ∷ rs) r.name ≡ r.value
root_own [] r rs pairs = rw (name_own r.name) refl
root_own (x ∷ done) r rs pairs =
    let later : length done < length (done ++ r ∷ rs) = omega (arith, length-append done (r ∷ rs)) in
    let apart : x.name ≢ r.name = subst (λ (y : NamedValue). x.name ≢ y.name)
    (get_or_at done r rs r (length done) refl)
    (pairs 0 (suc (length done)) r (omega arith) (omega (arith, later))) in
    elim (name_is x.name r.name) as (λ b. name_is x.name r.name ≡ b
    → (if b then x.value else root_value (done ++ r ∷ rs) r.name) ≡ r.value) [
      | true ↦ λ same. absurd (apart (name_same x.name r.name same))
      | false ↦ λ other. root_own done r rs (λ i j d before within. pairs (suc i) (suc j) d
          (omega (arith, before)) (omega (arith, within)))
    ] refl

-- the static that a root's name finds is a durable root of that name
found_static : (fields : List StaticFacts) (name : List ℕ) (k : ℕ) → root_static fields name ≡ Some k
    → (s : StaticFacts) × (slice_get fields k ≡ Some s) × (s.is_root ≡ true) × (name_is s.name name ≡ true)
found_static [] name k is = absurd (let no : ◌≡◌ {A = Option ℕ} None (Some k) = is in cc)
found_static (s ∷ ss) name k is = elim (s.is_root && name_is s.name name) as
    (λ b. (s.is_root && name_is s.name name) ≡ b
    → (if b then Some 0 else (elim (root_static ss name) [ None ↦ None | Some j ↦ Some (suc j) ])) ≡ Some k
    → (x : StaticFacts) × (slice_get (s ∷ ss) k ≡ Some x) × (x.is_root ≡ true)
    × (name_is x.name name ≡ true)) [
      | true ↦ λ both e.
          let it : Some 0 ≡ Some k = e in
          let zero_is : 0 ≡ k = cc in
          let (root, name_it) = and_parts s.is_root (name_is s.name name) both in
          (s, subst (λ n. slice_get (s ∷ ss) n ≡ Some s) zero_is refl, root, name_it)
      | false ↦ λ no_match e. further (found_static ss name) (root_static ss name) refl e
    ] refl is
  where
    further : ((j : ℕ) → root_static ss name ≡ Some j
        → (x : StaticFacts) × (slice_get ss j ≡ Some x) × (x.is_root ≡ true) × (name_is x.name name ≡ true))
        → (found : Option ℕ) → root_static ss name ≡ found
        → (elim found [ None ↦ None | Some j ↦ Some (suc j) ]) ≡ Some k
        → (x : StaticFacts) × (slice_get (s ∷ ss) k ≡ Some x) × (x.is_root ≡ true)
        × (name_is x.name name ≡ true)
    further again None there e = absurd (let no : ◌≡◌ {A = Option ℕ} None (Some k) = e in cc)
    further again (Some j) there e =
        let it : Some (suc j) ≡ Some k = e in
        let is_k : suc j ≡ k = cc in
        let (x, at, root, named) = again j there in
        (x, subst (λ n. slice_get (s ∷ ss) n ≡ Some x) is_k at, root, named)

get_or_append_right : {X : Type 0} (xs ys : List X) (j : ℕ) (d : X) → slice_index_or (xs ++ ys)
    (length xs + j) d ≡ slice_index_or ys j d
get_or_append_right [] ys j d = let e : 0 + j ≡ j = omega arith in ap (λ n. slice_index_or ys n d) e
get_or_append_right (x ∷ xs) ys j d =
    let e : suc (length xs) + j ≡ suc (length xs + j) = omega arith in
    ap (λ n. slice_index_or (x ∷ xs ++ ys) n d) e ∙ get_or_append_right xs ys j d

filter-append : {X : Type 0} (test : X → Bool) (xs ys : List X) → filter test (xs ++ ys) ≡ filter test xs
    ++ filter test ys
filter-append test [] ys = refl
filter-append test (x ∷ xs) ys =
    elim (test x) as (λ b. cond b (x ∷ filter test (xs ++ ys)) (filter test (xs ++ ys))
    ≡ cond b (x ∷ filter test xs) (filter test xs) ++ filter test ys) [
      | true ↦ ap (λ zs. x ∷ zs) (filter-append test xs ys)
      | false ↦ filter-append test xs ys
    ]

module _ (set : SetFacts) (opening : Graph) (is : IsOpening set opening) where
  abbrev lacks : NamedValue → Bool
  lacks = is_lacking set opening

  abbrev fields : List Value
  fields = map (static_value set opening) set.statics

  abbrev others : List Value
  others = map (λ (r : NamedValue). r.value) (lacking_roots set opening)

  -- whether a root whose name finds this static is lacking
  abbrev lacking_at : Option ℕ → Bool
  lacking_at found = elim found [ None ↦ true | Some k ↦ false ]

  -- what a root reads
  abbrev pub reading : Root → NamedValue
  reading r = record { name = r.name; value = slice_index_or (first_statics set opening) r.at Null }

  module _ (done : List NamedValue) (r : NamedValue) (rs : List NamedValue) (goes_on : opening.roots ≡ done
      ++ r ∷ rs) where
    abbrev before : ℕ
    before = length (filter lacks done)

    named_value : (k : ℕ) → root_static set.statics r.name ≡ Some k
        → slice_index_or (first_statics set opening) (suc k) Null ≡ r.value
    named_value k found =
        let (s, at, root, named) = found_static set.statics r.name k found in
        let within : k < length set.statics = slice_get_within set.statics k s at in
        let there : k < length fields = rw (length-map set.statics (static_value set opening)) within in
        let same : s.name ≡ r.name = name_same s.name r.name named in
        let pairs : AllPairs Differ (done ++ r ∷ rs) = subst (AllPairs Differ) goes_on is.names_differ in
        get_or_append_left fields others Null k there
        ∙ get_or-map (static_value set opening) set.statics k s Null within
        ∙ ap (static_value set opening) (get_or_from_slice_get set.statics k s s at)
        ∙ rooted s root
        ∙ ap (root_value opening.roots) same
        ∙ ap (λ roots. root_value roots r.name) goes_on
        ∙ root_own done r rs pairs
      where
        rooted : (s : StaticFacts) → s.is_root ≡ true → static_value set opening s
            ≡ root_value opening.roots s.name
        rooted s root = rw root refl

    lacking_value : root_static set.statics r.name ≡ None
        → slice_index_or (first_statics set opening) (suc (length set.statics) + before) Null ≡ r.value
    lacking_value none =
        let lacks_it : lacks r ≡ true = ap lacking_at none in
        let all : lacking_roots set opening ≡ filter lacks done ++ r ∷ filter lacks rs =
        ap (filter lacks) goes_on ∙ filter-append lacks done (r ∷ rs)
        ∙ ap (λ b. filter lacks done ++ cond b (r ∷ filter lacks rs) (filter lacks rs)) lacks_it in
        let place : suc (length set.statics) + before ≡ suc (length fields + before) =
        omega (arith, length-map set.statics (static_value set opening)) in
        let there : before < length (filter lacks done ++ r ∷ filter lacks rs) =
        omega (arith, length-append (filter lacks done) (r ∷ filter lacks rs)) in
        ap (λ n. slice_index_or (first_statics set opening) n Null) place
        ∙ get_or_append_right fields others before Null
        ∙ ap (λ roots. slice_index_or (map (λ (x : NamedValue). x.value) roots) before Null) all
        ∙ get_or-map (λ (x : NamedValue). x.value) (filter lacks done ++ r
        ∷ filter lacks rs) before r Null there
        ∙ ap (λ (x : NamedValue). x.value) (get_or_at (filter lacks done) r (filter lacks rs) r before refl)

    one_more_lacks : lacks r ≡ true → length (filter lacks (done ++ r ∷ [])) ≡ suc before
    one_more_lacks lacks_it =
        ap length (filter-append lacks done (r ∷ [])
        ∙ ap (λ b. filter lacks done ++ cond b (r ∷ []) []) lacks_it)
        ∙ (let e = length-append (filter lacks done) (r ∷ []) in omega (arith, e))

    as_many_lack : lacks r ≡ false → length (filter lacks (done ++ r ∷ [])) ≡ before
    as_many_lack has_it =
        ap length (filter-append lacks done (r ∷ [])
        ∙ ap (λ b. filter lacks done ++ cond b (r ∷ []) []) has_it)
        ∙ (let e = length-append (filter lacks done) [] in omega (arith, e))

  pub roots_read : (roots done : List NamedValue) (count : ℕ) → length (filter lacks done) ≡ count
      → opening.roots ≡ done ++ roots → map reading (roots_from set opening count roots) ≡ roots
  roots_read [] done count counted goes_on = refl
  roots_read (r ∷ rs) done count counted goes_on =
      by_static (λ more is_more. roots_read rs (done ++ r ∷ []) more is_more next)
      (root_static set.statics r.name) refl
    where
      next : opening.roots ≡ (done ++ r ∷ []) ++ rs
      next = goes_on ∙ sym (append_assoc done (r ∷ []) rs)

      by_static : ((more : ℕ) → length (filter lacks (done ++ r ∷ [])) ≡ more
          → map reading (roots_from set opening more rs) ≡ rs)
          → (found : Option ℕ) → root_static set.statics r.name ≡ found
          → map reading (elim found [
            | None ↦ record { name = r.name; at = suc (length set.statics) + count }
                ∷ roots_from set opening (suc count) rs
            | Some k ↦ record { name = r.name; at = suc k } ∷ roots_from set opening count rs
          ]) ≡ r ∷ rs
      by_static again None there =
          let here : slice_index_or (first_statics set opening) (suc (length set.statics) + count) Null
          ≡ r.value =
          subst (λ n. slice_index_or (first_statics set opening) (suc (length set.statics) + n) Null
          ≡ r.value) counted
          (lacking_value done r rs goes_on there) in
          let lacks_it : lacks r ≡ true = ap lacking_at there in
          let more : length (filter lacks (done ++ r ∷ [])) ≡ suc count =
          one_more_lacks done r rs goes_on lacks_it ∙ ap (λ n. suc n) counted in
          ap (λ v. record { name = r.name; value = v }
          ∷ map reading (roots_from set opening (suc count) rs)) here
          ∙ ap (λ xs. r ∷ xs) (again (suc count) more)
      by_static again (Some k) there =
          let has_it : lacks r ≡ false = ap lacking_at there in
          let same : length (filter lacks (done ++ r ∷ [])) ≡ count = as_many_lack done r rs goes_on has_it
          ∙ counted in
          ap (λ v. record { name = r.name; value = v } ∷ map reading (roots_from set opening count rs))
          (named_value done r rs goes_on k there)
          ∙ ap (λ xs. r ∷ xs) (again count same)
