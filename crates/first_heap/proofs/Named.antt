-- Roots by their names.
use Rattle.std.proofs.Common.{◌≡◌, ◌≢◌, ℕ, suc, ◌+◌, ◌-◌, ◌<◌, ◌≤◌, Bool, true, false, ◌&&◌, ◌||◌, not, List, [], ◌∷◌, ◌++◌}
use Rattle.std.proofs.Common.{Option, Some, None, map, filter, take, length, get_or, refl, sym, ◌∙◌, ap, arith, nat_eq, cond}
use Rattle.std.proofs.Common.{append_assoc, append-nil, if◌then◌else◌}
use Rattle.std.specs.Prelude.{AllPairs}
use Rattle.std.specs.Option.{is_some}
use Rattle.std.specs.Str.{bytes_eq}
use Rattle.std.proofs.lemmas.Bool.{false≢true}
use Rattle.std.proofs.lemmas.List.{get_or-take, get_or_default, length-take, take_more, map-append}
use Rattle.std.proofs.lemmas.List.Elements.{filter-append}
use Rattle.std.proofs.lemmas.Slice.Eq.{bytes_eq-Decides}
use Rattle.graph_model.specs.declared.types.Graph.{Graph}
use Rattle.graph_model.specs.declared.types.NamedValue.{NamedValue}
use Rattle.graph_model.specs.declared.types.Value.{Value}
use Rattle.graph_model.specs.declared.types.Value.TheVariants.{Null}
use Rattle.plain_model.specs.Facts.{SetFacts, StaticFacts}
use Rattle.plain_model.specs.First.{is_lacking, name_is, root_static, root_value}
use Rattle.text_table.specs.Texts.{place_from, place_of, with_text}
use Rattle.first_heap.specs.Roots.{AreRootNames}
use Rattle.first_heap.proofs.Lists.{mapped_more}

abbrev pub name_in : NamedValue → List ℕ
name_in r = r.name

abbrev pub value_in : NamedValue → Value
value_in r = r.value

-- ---- equal names

pub same_test : (a b : List ℕ) → name_is a b ≡ bytes_eq a b
same_test [] [] = refl
same_test [] (y ∷ ys) = refl
same_test (x ∷ xs) [] = refl
same_test (x ∷ xs) (y ∷ ys) = ap (λ b. nat_eq x y && b) (same_test xs ys)

differ : (t x : List ℕ) → t ≢ x → bytes_eq t x ≡ false
differ t x other =
    elim (bytes_eq t x) as (λ b. bytes_eq t x ≡ b → b ≡ false) [
      | true ↦ λ e. absurd (other ((bytes_eq-Decides t x).0 e))
      | false ↦ λ e. refl
    ] refl

or_true : (b : Bool) → (b || true) ≡ true
or_true true = refl
or_true false = refl

or_false : (b : Bool) → (b || false) ≡ b
or_false true = refl
or_false false = refl

-- ---- the graph's root of a name

none_here : (a b : Bool) → b ≡ a → (n : ℕ) (o : Option ℕ) (v w : Value) → (o ≡ None → w ≡ Null)
    → (if a then Some n else o) ≡ None → (if b then v else w) ≡ Null
none_here true b e n o v w later f = let no : ⊥ = cc in absurd no
none_here false true e n o v w later f = absurd (false≢true (sym e))
none_here false false e n o v w later f = later f

no_root : (roots : List NamedValue) (text : List ℕ) (n : ℕ) → place_from n (map name_in roots) text ≡ None
    → root_value roots text ≡ Null
no_root [] text n e = refl
no_root (r ∷ rs) text n e =
    none_here (bytes_eq r.name text) (name_is r.name text) (same_test r.name text) n
    (place_from (n + 1) (map name_in rs) text) r.value (root_value rs text) (no_root rs text (n + 1)) e

pub root_lacked : (roots : List NamedValue) (names : List (List ℕ)) (text : List ℕ) → names ≡ map name_in roots
    → place_of names text ≡ None → root_value roots text ≡ Null
root_lacked roots names text e none =
    no_root roots text 0 (ap (λ ns. place_of ns text) (sym e) ∙ none)

-- the root at a place behind so many others is the first one with the name
abbrev pub IsAt : List NamedValue → Value → (n at : ℕ) → Type 0
IsAt roots v n at = (n ≤ at) × (at < n + length roots)
    × ((d : NamedValue) → v ≡ (get_or roots (at - n) d).value)

found_here : (a b : Bool) → b ≡ a → (n at : ℕ) (o : Option ℕ) (r : NamedValue) (rs : List NamedValue) (w : Value)
    → (o ≡ Some at → IsAt rs w (n + 1) at) → (if a then Some n else o) ≡ Some at
    → IsAt (r ∷ rs) (if b then r.value else w) n at
found_here true true e n at o r rs w later f =
    let same : n ≡ at = cc in
    let first : 0 ≡ at - n = omega (arith, same) in
    (omega (arith, same), omega (arith, same), λ d. ap (λ k. (get_or (r ∷ rs) k d).value) first)
found_here true false e n at o r rs w later f = absurd (false≢true e)
found_here false true e n at o r rs w later f = absurd (false≢true (sym e))
found_here false false e n at o r rs w later f =
    let is = later f in
    let low = is.0 in
    let high = is.1 in
    let next : suc (at - (n + 1)) ≡ at - n = omega (arith, low) in
    (omega (arith, low), omega (arith, high), λ d. is.2 d ∙ ap (λ k. (get_or (r ∷ rs) k d).value) next)

root_at : (roots : List NamedValue) (text : List ℕ) (n at : ℕ) → place_from n (map name_in roots) text ≡ Some at
    → IsAt roots (root_value roots text) n at
root_at [] text n at e = let no : ⊥ = cc in absurd no
root_at (r ∷ rs) text n at e =
    found_here (bytes_eq r.name text) (name_is r.name text) (same_test r.name text) n at
    (place_from (n + 1) (map name_in rs) text) r rs (root_value rs text) (root_at rs text (n + 1) at) e

module _ (roots : List NamedValue) (names : List (List ℕ)) (text : List ℕ) (at : ℕ) (e : names ≡ map name_in roots)
    (found : place_of names text ≡ Some at) where
  abbrev is : IsAt roots (root_value roots text) 0 at
  is = root_at roots text 0 at (ap (λ ns. place_of ns text) (sym e) ∙ found)

  pub root_there : at < length roots
  root_there = let below = is.1 in omega (arith, below)

  pub root_found : (d : NamedValue) → (get_or roots at d).value ≡ root_value roots text
  root_found d =
      let first : at ≡ at - 0 = omega arith in ap (λ k. (get_or roots k d).value) first ∙ sym (is.2 d)

-- ---- names that differ are added one after another

not_placed : (rs : List NamedValue) (x : List ℕ) (n : ℕ)
    → ((k : ℕ) (d : NamedValue) → k < length rs → (get_or rs k d).name ≢ x) → place_from n (map name_in rs) x ≡ None
not_placed [] x n other = refl
not_placed (r ∷ rs) x n other =
    ap (λ b. if b then Some n else place_from (n + 1) (map name_in rs) x) (differ r.name x (other 0 r (omega arith)))
    ∙ not_placed rs x (n + 1) (λ k d lt. other (suc k) d (omega (arith, lt)))

abbrev pub AreNamed : NamedValue → NamedValue → Type 0
AreNamed r s = r.name ≢ s.name

pub name_added : (roots : List NamedValue) (root : NamedValue) (i : ℕ) (text : List ℕ)
    (names new : List (List ℕ))
    → AllPairs AreNamed roots → i < length roots → root ≡ get_or roots i root → text ≡ root.name
    → names ≡ map name_in (take i roots) → new ≡ with_text names text → new ≡ map name_in (take (i + 1) roots)
name_added roots root i text names new apart below at same so_far added =
    let before = map name_in (take i roots) in
    let fresh : place_of before root.name ≡ None =
    not_placed (take i roots) root.name 0 (λ k d lt e.
    let early : k < i = omega (arith, lt, length-take i roots) in
    apart k i d early below
    (ap name_in (sym (get_or-take i roots k d early)) ∙ e
    ∙ ap name_in (at ∙ get_or_default roots i root d below))) in
    added ∙ ap (with_text names) same ∙ ap (λ ns. with_text ns root.name) so_far
    ∙ ap (λ o. if is_some o then before else before ++ root.name ∷ []) fresh
    ∙ sym (mapped_more name_in roots root i below at)

-- ---- the names of a set's durable roots

later_is : (o : Option ℕ) → is_some (elim o as (λ _. Option ℕ) [ None ↦ None | Some k ↦ Some (suc k) ])
    ≡ is_some o
later_is None = refl
later_is (Some k) = refl

static_more : (ss : List StaticFacts) (s : StaticFacts) (text : List ℕ)
    → is_some (root_static (ss ++ s ∷ []) text) ≡ (is_some (root_static ss text) || (s.is_root && name_is s.name text))
static_more [] s text = one (s.is_root && name_is s.name text)
  where
    one : (b : Bool) → is_some {T = ℕ} (if b then Some 0 else None) ≡ b
    one true = refl
    one false = refl
static_more (t ∷ ss) s text =
    one (t.is_root && name_is t.name text) (root_static (ss ++ s ∷ []) text) (root_static ss text)
    (s.is_root && name_is s.name text) (static_more ss s text)
  where
    one : (b : Bool) (o p : Option ℕ) (c : Bool) → is_some o ≡ (is_some p || c)
        → is_some {T = ℕ} (if b then Some 0 else (elim o as (λ _. Option ℕ) [ None ↦ None | Some k ↦ Some (suc k) ]))
        ≡ (is_some {T = ℕ} (if b then Some 0 else (elim p as (λ _. Option ℕ) [ None ↦ None | Some k ↦ Some (suc k) ]))
        || c)
    one true o p c e = refl
    one false o p c e = later_is o ∙ e ∙ ap (λ b. b || c) (sym (later_is p))

placed_more : (ts : List (List ℕ)) (t text : List ℕ) (n : ℕ)
    → is_some (place_from n (ts ++ t ∷ []) text) ≡ (is_some (place_from n ts text) || bytes_eq t text)
placed_more [] t text n = one (bytes_eq t text)
  where
    one : (b : Bool) → is_some (if b then Some n else None) ≡ b
    one true = refl
    one false = refl
placed_more (u ∷ us) t text n =
    one (bytes_eq u text) (place_from (n + 1) (us ++ t ∷ []) text) (place_from (n + 1) us text)
    (placed_more us t text (n + 1))
  where
    one : (b : Bool) (o p : Option ℕ) → is_some o ≡ (is_some p || bytes_eq t text)
        → is_some (if b then Some n else o) ≡ (is_some (if b then Some n else p) || bytes_eq t text)
    one true o p e = refl
    one false o p e = e

-- a name is among these with another one exactly where it was or is that one
placed_with : (ts : List (List ℕ)) (t text : List ℕ)
    → is_some (place_of (with_text ts t) text) ≡ (is_some (place_of ts text) || bytes_eq t text)
placed_with ts t text = one (is_some (place_of ts t)) refl
  where
    there : is_some (place_of ts t) ≡ true → (c : Bool) → bytes_eq t text ≡ c
        → is_some (place_of ts text) ≡ (is_some (place_of ts text) || c)
    there e true same =
        (ap (λ u. is_some (place_of ts u)) (sym ((bytes_eq-Decides t text).0 same)) ∙ e)
        ∙ sym (or_true (is_some (place_of ts text)))
    there e false other = sym (or_false (is_some (place_of ts text)))

    one : (b : Bool) → is_some (place_of ts t) ≡ b
        → is_some (place_of (if b then ts else ts ++ t ∷ []) text) ≡ (is_some (place_of ts text) || bytes_eq t text)
    one true e = there e (bytes_eq t text) refl
    one false e = placed_more ts t text 0

module _ {A : Type 0} (f : A → StaticFacts) (xs : List A) (x : A) (i : ℕ) (below : i < length xs)
    (at : x ≡ get_or xs i x) (names : List (List ℕ)) (so_far : AreRootNames (map f (take i xs)) names) where
  abbrev before : List StaticFacts
  before = map f (take i xs)

  more : (text : List ℕ) → is_some (root_static (map f (take (i + 1) xs)) text)
      ≡ (is_some (root_static before text) || ((f x).is_root && name_is (f x).name text))
  more text = ap (λ ss. is_some (root_static ss text)) (mapped_more f xs x i below at)
      ∙ static_more before (f x) text

  -- a further durable root's name is added
  pub root_name_added : (new : List (List ℕ)) → (f x).is_root ≡ true → new ≡ with_text names (f x).name
      → AreRootNames (map f (take (i + 1) xs)) new
  root_name_added new root added text =
      ap (λ ns. is_some (place_of ns text)) added ∙ placed_with names (f x).name text
      ∙ ap (λ b. b || bytes_eq (f x).name text) (so_far text)
      ∙ ap (λ b. is_some (root_static before text) || b) (sym (same_test (f x).name text))
      ∙ ap (λ b. is_some (root_static before text) || (b && name_is (f x).name text)) (sym root)
      ∙ sym (more text)

  -- any other static field is passed over
  pub root_name_passed : (f x).is_root ≡ false → AreRootNames (map f (take (i + 1) xs)) names
  root_name_passed other text =
      so_far text ∙ sym (or_false (is_some (root_static before text)))
      ∙ ap (λ b. is_some (root_static before text) || (b && name_is (f x).name text)) (sym other)
      ∙ sym (more text)

-- ---- roots that the set lacks

lacking_is : (o : Option ℕ) → (elim o as (λ _. Bool) [ None ↦ true | Some k ↦ false ]) ≡ not (is_some o)
lacking_is None = refl
lacking_is (Some k) = refl

module _ (set : SetFacts) (opening : Graph) (own : List (List ℕ)) (are : AreRootNames set.statics own)
    (roots : List NamedValue) (root : NamedValue) (i : ℕ) (below : i < length roots)
    (at : root ≡ get_or roots i root) where
  lacks : is_lacking set opening root ≡ not (is_some (place_of own root.name))
  lacks = lacking_is (root_static set.statics root.name) ∙ ap not (sym (are root.name))

  further : map value_in (filter (is_lacking set opening) (take (i + 1) roots))
      ≡ map value_in (filter (is_lacking set opening) (take i roots))
      ++ map value_in (filter (is_lacking set opening) (root ∷ []))
  further =
      ap (λ rs. map value_in (filter (is_lacking set opening) rs))
      (take_more roots i root below ∙ ap (λ (r : NamedValue). take i roots ++ r ∷ []) (sym at))
      ∙ ap (map value_in) (filter-append (is_lacking set opening) (take i roots) (root ∷ []))
      ∙ map-append value_in (filter (is_lacking set opening) (take i roots))
      (filter (is_lacking set opening) (root ∷ []))

  module _ (first old : List Value)
      (so_far : old ≡ first ++ map value_in (filter (is_lacking set opening) (take i roots))) where
    pub lacking_added : (new : List Value) → is_some (place_of own root.name) ≡ false → new ≡ old ++ root.value ∷ []
        → new ≡ first ++ map value_in (filter (is_lacking set opening) (take (i + 1) roots))
    lacking_added new none pushed =
        pushed ∙ ap (λ vs. vs ++ root.value ∷ []) so_far
        ∙ append_assoc first (map value_in (filter (is_lacking set opening) (take i roots))) (root.value ∷ [])
        ∙ ap (λ b. first ++ (map value_in (filter (is_lacking set opening) (take i roots))
        ++ map value_in (cond b (root ∷ []) []))) (sym (lacks ∙ ap not none))
        ∙ ap (λ vs. first ++ vs) (sym further)

    pub lacking_passed : is_some (place_of own root.name) ≡ true
        → old ≡ first ++ map value_in (filter (is_lacking set opening) (take (i + 1) roots))
    lacking_passed there =
        so_far ∙ ap (λ vs. first ++ vs)
        (sym (append-nil (map value_in (filter (is_lacking set opening) (take i roots))))
        ∙ ap (λ b. map value_in (filter (is_lacking set opening) (take i roots))
        ++ map value_in (cond b (root ∷ []) [])) (sym (lacks ∙ ap not there))
        ∙ sym further)
