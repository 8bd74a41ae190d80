-- Static fields lie in the root slots of the durable roots whose statics they are.
use Rattle.std.proofs.Common.{◌≡◌, ◌≢◌, inl, inr, ℕ, zero, suc, ◌+◌, ◌-◌, ◌<◌, Bool, true, false, ◌&&◌, List, [], ◌∷◌, ◌++◌}
use Rattle.std.proofs.Common.{map, filter, take, length, refl, ap, sym, ◌∙◌, subst, arith, nat_eq, cond, slice_index_or}
use Rattle.std.proofs.Common.{if◌then◌else◌, length-append}
use Rattle.std.specs.Prelude.{◌↔◌, AllPairs, Contains, Option, Some, None}
use Rattle.std.proofs.lemmas.Bool.{eqb-true, eq-eqb, and_parts, false≢true, cases_lt}
use Rattle.std.proofs.lemmas.List.{get_or-map, get_or_append_left, get_or_past, length-map}
use Rattle.std.proofs.lemmas.List.Elements.{All-get_or}
use Rattle.ap_base.specs.declared.kind.Kind.TheVariants.{I}
use Rattle.graph_model.specs.declared.types.Root.{Root}
use Rattle.graph_model.specs.declared.types.Value.TheVariants.{Null}
use Rattle.graph_model.specs.declared.types.NamedValue.{NamedValue}
use Rattle.graph_model.specs.declared.types.Graph.{Graph}
use Rattle.plain_model.specs.Facts.{SetFacts, StaticFacts}
use Rattle.plain_model.specs.First.{IsOpening, first_heap, root_static, roots_from, is_lacking, lacking_roots, name_is}
use Rattle.first_spaces.specs.Slots.{Home, BesideHeap, InSlot, slot_named, home_of, slot_of, no_root, IsRootAt}
use Rattle.first_spaces.specs.Parts.{homes, RootsDiffer}

-- ---- names

name_same : (a b : List ℕ) → name_is a b ≡ true → a ≡ b
name_same [] [] is = refl
name_same (x ∷ xs) (y ∷ ys) is =
    let (first, rest) = and_parts (nat_eq x y) (name_is xs ys) is in
    ap (λ n. n ∷ xs) (eqb-true x y first) ∙ ap (λ ns. y ∷ ns) (name_same xs ys rest)
name_same [] (y ∷ ys) is = absurd (false≢true is)
name_same (x ∷ xs) [] is = absurd (false≢true is)

name_own : (a : List ℕ) → name_is a a ≡ true
name_own [] = refl
name_own (x ∷ xs) = rw (eq-eqb x x refl) (name_own xs)

abbrev Differ : NamedValue → NamedValue → Type 0
Differ r s = r.name ≢ s.name

abbrev none_named : NamedValue
none_named = record { name = []; value = Null }

abbrev root_in : List NamedValue → ℕ → NamedValue
root_in rs k = slice_index_or rs k none_named

-- the slot of a root's own name is its place, where names differ
own_slot : (rs : List NamedValue) (k : ℕ) → AllPairs Differ rs → k < length rs → slot_named rs (root_in rs
    k).name ≡ k
own_slot [] k pairs below = absurd (omega (arith, below))
own_slot (r ∷ rs) zero pairs below = rw (name_own r.name) refl
own_slot (r ∷ rs) (suc k) pairs below =
    let apart : r.name ≢ (root_in rs k).name = pairs 0 (suc k) none_named (omega arith) below in
    elim (name_is r.name (root_in rs k).name) as (λ b. name_is r.name (root_in rs k).name ≡ b
    → (if b then 0 else suc (slot_named rs (root_in rs k).name)) ≡ suc k) [
      | true ↦ λ same. absurd (apart (name_same r.name (root_in rs k).name same))
      | false ↦ λ other. ap suc (own_slot rs k (λ i j d before within. pairs (suc i) (suc j) d
          (omega (arith, before)) (omega (arith, within))) (omega (arith, below)))
    ] refl

-- a name that a root has finds one
record IsSlotOf (rs : List NamedValue) (name : List ℕ) : Type 0 where
  pub there : slot_named rs name < length rs
  pub named : (root_in rs (slot_named rs name)).name ≡ name

named_slot : (rs : List NamedValue) (name : List ℕ) (k : ℕ) → k < length rs → (root_in rs k).name ≡ name →
    IsSlotOf rs name
named_slot [] name k below is = absurd (omega (arith, below))
named_slot (r ∷ rs) name k below is =
    let both : (slot_named (r ∷ rs) name < suc (length rs)) × ((root_in (r ∷ rs) (slot_named (r ∷ rs)
    name)).name ≡ name) =
    elim (name_is r.name name) as (λ b. name_is r.name name ≡ b
    → ((if b then 0 else suc (slot_named rs name)) < suc (length rs))
    × ((root_in (r ∷ rs) (if b then 0 else suc (slot_named rs name))).name ≡ name)) [
      | true ↦ λ same. (omega arith, name_same r.name name same)
      | false ↦ λ other. (let more = further (λ i lt e. named_slot rs name i lt e) k below is other in (
        omega
            (arith, more.there),
        more.named,
      ))
    ] refl in record { there = both.0; named = both.1 }
  where
    further : ((i : ℕ) → i < length rs → (root_in rs i).name ≡ name → IsSlotOf rs name)
        → (i : ℕ) → i < length (r ∷ rs) → (root_in (r ∷ rs) i).name ≡ name → name_is r.name name ≡ false →
        IsSlotOf rs name
    further again zero lt e other = absurd (false≢true (sym other ∙ ap (λ n. name_is r.name n) (sym e) ∙
        name_own r.name))
    further again (suc i) lt e other = again i (omega (arith, lt)) e

-- ---- statics of names

abbrev none_static : StaticFacts
none_static = record { class = 0; name = []; kind = I; is_root = false; constant = None }

abbrev field_in : List StaticFacts → ℕ → StaticFacts
field_in ss k = slice_index_or ss k none_static

-- the static that a name finds is a durable root of that name
record IsFound (ss : List StaticFacts) (name : List ℕ) (k : ℕ) : Type 0 where
  pub there : k < length ss
  pub root : (field_in ss k).is_root ≡ true
  pub named : (field_in ss k).name ≡ name

found_at : (ss : List StaticFacts) (name : List ℕ) (k : ℕ) → root_static ss name ≡ Some k → IsFound ss name k
found_at [] name k is = absurd (let no : ◌≡◌ {A = Option ℕ} None (Some k) = is in cc)
found_at (s ∷ ss) name k is = elim (s.is_root && name_is s.name name) as
    (λ b. (s.is_root && name_is s.name name) ≡ b
    → (if b then Some 0 else (elim (root_static ss name) [ None ↦ None | Some j ↦ Some (suc j) ])) ≡ Some k
    → IsFound (s ∷ ss) name k) [
      | true ↦ λ both e. here both e
      | false ↦ λ no_match e. further (found_at ss name) (root_static ss name) refl e
    ] refl is
  where
    here : (s.is_root && name_is s.name name) ≡ true → Some 0 ≡ Some k → IsFound (s ∷ ss) name k
    here both e =
        let zero_is : 0 ≡ k = cc in
        let parts = and_parts s.is_root (name_is s.name name) both in
        subst (λ n. IsFound (s ∷ ss) name n) zero_is (record {
          there = omega arith;
          root = parts.0;
          named = name_same s.name name parts.1;
        })

    further : ((j : ℕ) → root_static ss name ≡ Some j → IsFound ss name j)
        → (found : Option ℕ) → root_static ss name ≡ found
        → (elim found [ None ↦ None | Some j ↦ Some (suc j) ]) ≡ Some k → IsFound (s ∷ ss) name k
    further again None there e = absurd (let no : ◌≡◌ {A = Option ℕ} None (Some k) = e in cc)
    further again (Some j) there e =
        let it : Some (suc j) ≡ Some k = e in
        let is_k : suc j ≡ k = cc in
        let found = again j there in
        subst (λ n. IsFound (s ∷ ss) name n) is_k (record {
          there = omega (arith, found.there);
          root = found.root;
          named = found.named;
        })

abbrev Apart : StaticFacts → StaticFacts → Type 0
Apart s t = s.is_root ≡ true → t.is_root ≡ true → s.name ≢ t.name

-- a durable root is found by its name, where these differ
own_static : (ss : List StaticFacts) (k : ℕ) → AllPairs Apart ss → k < length ss → (field_in ss k).is_root ≡
    true
    → root_static ss (field_in ss k).name ≡ Some k
own_static [] k pairs below root = absurd (omega (arith, below))
own_static (s ∷ ss) zero pairs below root = rw (root, name_own s.name) refl
own_static (s ∷ ss) (suc k) pairs below root =
    let name = (field_in ss k).name in
    elim (s.is_root && name_is s.name name) as (λ b. (s.is_root && name_is s.name name) ≡ b
    → (if b then Some 0 else (elim (root_static ss name) [ None ↦ None | Some j ↦ Some (suc j) ])) ≡ Some (suc
    k)) [
      | true ↦ λ both. (let parts = and_parts s.is_root (name_is s.name name) both in
          absurd (pairs 0 (suc k) none_static (omega arith) below parts.0 root (name_same s.name name
          parts.1)))
      | false ↦ λ other. ap (λ (o : Option ℕ). elim o as (λ _. Option ℕ) [
        | None ↦ None
        | Some j ↦ Some (suc j)
      ])
          (own_static ss k (λ i j d before within. pairs (suc i) (suc j) d
          (omega (arith, before)) (omega (arith, within))) (omega (arith, below)) root)
    ] refl

-- ---- what a filter keeps

module _ (test : NamedValue → Bool) where
  abbrev before : List NamedValue → ℕ → ℕ
  before rs k = length (filter test (take k rs))

  record IsKept (rs : List NamedValue) (k j : ℕ) : Type 0 where
    pub there : j < length (filter test rs)
    pub is : root_in (filter test rs) j ≡ root_in rs k

  kept_at : (rs : List NamedValue) (k : ℕ) → k < length rs → test (root_in rs k) ≡ true → IsKept rs k (before
      rs k)
  kept_at [] k below is = absurd (omega (arith, below))
  kept_at (r ∷ rs) zero below is =
      let both : (0 < length (cond (test r) (r ∷ filter test rs) (filter test rs)))
      × (root_in (cond (test r) (r ∷ filter test rs) (filter test rs)) 0 ≡ r) =
      subst (λ b. (0 < length (cond b (r ∷ filter test rs) (filter test rs)))
      × (root_in (cond b (r ∷ filter test rs) (filter test rs)) 0 ≡ r)) (sym is) (omega arith, refl)
      in record { there = both.0; is = both.1 }
  kept_at (r ∷ rs) (suc k) below is =
      let more = kept_at rs k (omega (arith, below)) is in
      let both : (length (cond (test r) (r ∷ filter test (take k rs)) (filter test (take k rs))) < length
      (cond (test r) (r ∷ filter test rs) (filter test rs)))
      × (root_in (cond (test r) (r ∷ filter test rs) (filter test rs)) (length (cond (test r) (r ∷ filter test
      (take k rs)) (filter test (take k rs)))) ≡ root_in rs k) =
      elim (test r) as (λ b. (length (cond b (r ∷ filter test (take k rs)) (filter test (take k rs))) < length
      (cond b (r ∷ filter test rs) (filter test rs)))
      × (root_in (cond b (r ∷ filter test rs) (filter test rs)) (length (cond b (r ∷ filter test (take k rs))
      (filter test (take k rs)))) ≡ root_in rs k)) [
        | true ↦ (omega (arith, more.there), more.is)
        | false ↦ (more.there, more.is)
      ] in record { there = both.0; is = both.1 }

  record IsFrom (rs : List NamedValue) (j : ℕ) : Type 0 where
    pub k : ℕ
    pub below : k < length rs
    pub passes : test (root_in rs k) ≡ true
    pub count : before rs k ≡ j

  kept_from : (rs : List NamedValue) (j : ℕ) → j < length (filter test rs) → IsFrom rs j
  kept_from [] j below = absurd (omega (arith, below))
  kept_from (r ∷ rs) j below = at_head (λ i lt. kept_from rs i lt) (test r) refl below
    where
      later : (b : Bool) → test r ≡ b → (i : ℕ) → length (cond b (r ∷ []) []) + i ≡ j → IsFrom rs i → IsFrom
          (r ∷ rs) j
      later b is i sum from = record {
        k = suc from.k;
        below = (let lt = from.below in omega (arith, lt));
        passes = from.passes;
        count =
            ap (λ c. length (cond c (r ∷ filter test (take from.k rs)) (filter test (take from.k rs)))) is
            ∙ counted b (filter test (take from.k rs))
            ∙ ap (λ n. length (cond b (r ∷ []) []) + n) from.count ∙ sum;
      }
        where
          counted : (c : Bool) (xs : List NamedValue) → length (cond c (r ∷ xs) xs) ≡ length (cond c (r ∷ [])
              []) + length xs
          counted true xs = omega arith
          counted false xs = omega arith

      at_head : ((i : ℕ) → i < length (filter test rs) → IsFrom rs i)
          → (b : Bool) → test r ≡ b → j < length (cond b (r ∷ filter test rs) (filter test rs)) → IsFrom (r ∷
          rs) j
      at_head again false is lt = later false is j (omega arith) (again j lt)
      at_head again true is lt = at_number j refl lt
        where
          at_number : (i : ℕ) → i ≡ j → i < suc (length (filter test rs)) → IsFrom (r ∷ rs) j
          at_number zero e l = record { k = 0; below = omega arith; passes = is; count = e }
          at_number (suc i) e l = later true is i (omega (arith, e)) (again i (omega (arith, l)))

-- ---- the statics of roots

module _ (set : SetFacts) (opening : Graph) where
  abbrev lacks : NamedValue → Bool
  lacks = is_lacking set opening

  -- where the root has its value, after so many lacking ones
  abbrev static_for : ℕ → Option ℕ → ℕ
  static_for count None = suc (length set.statics) + count
  static_for count (Some k) = suc k

  -- how many are lacking with this root
  abbrev more : ℕ → Option ℕ → ℕ
  more n None = suc n
  more n (Some k) = n

  abbrev lacks_at : Option ℕ → Bool
  lacks_at found = elim found [ None ↦ true | Some k ↦ false ]

  roots_long : (count : ℕ) (rs : List NamedValue) → length (roots_from set opening count rs) ≡ length rs
  roots_long count [] = refl
  roots_long count (r ∷ rs) =
      elim (root_static set.statics r.name) as (λ found. length {A = Root} (elim found as (λ _. List Root) [
        | None ↦ record { name = r.name; at = suc (length set.statics) + count } ∷ roots_from set opening (suc
            count) rs
        | Some k ↦ record { name = r.name; at = suc k } ∷ roots_from set opening count rs
      ]) ≡ suc (length rs)) [
        | None ↦ ap suc (roots_long (suc count) rs)
        | Some k ↦ ap suc (roots_long count rs)
      ]

  roots_at : (count : ℕ) (rs : List NamedValue) (k : ℕ) → k < length rs
      → (slice_index_or (roots_from set opening count rs) k no_root).at
      ≡ static_for (count + before lacks rs k) (root_static set.statics (root_in rs k).name)
  roots_at count [] k below = absurd (omega (arith, below))
  roots_at count (r ∷ rs) zero below = at_first (root_static set.statics r.name)
    where
      at_first : (found : Option ℕ) → (slice_index_or (elim found as (λ _. List Root) [
        | None ↦ record { name = r.name; at = suc (length set.statics) + count } ∷ roots_from set opening (suc
            count) rs
        | Some k ↦ record { name = r.name; at = suc k } ∷ roots_from set opening count rs
      ]) 0 no_root).at ≡ static_for (count + 0) found
      at_first None = omega arith
      at_first (Some k) = refl
  roots_at count (r ∷ rs) (suc k) below =
      at_found (λ n. roots_at n rs k (omega (arith, below))) (root_static set.statics r.name)
      ∙ ap (λ n. static_for n (root_static set.statics (root_in rs k).name)) (counted (root_static set.statics
      r.name))
    where
      at_found : ((n : ℕ) → (slice_index_or (roots_from set opening n rs) k no_root).at
          ≡ static_for (n + before lacks rs k) (root_static set.statics (root_in rs k).name))
          → (found : Option ℕ) → (slice_index_or (elim found as (λ _. List Root) [
            | None ↦ record { name = r.name; at = suc (length set.statics) + count } ∷ roots_from set opening
                (suc count) rs
            | Some j ↦ record { name = r.name; at = suc j } ∷ roots_from set opening count rs
          ]) (suc k) no_root).at ≡ static_for (more count found + before lacks rs k) (root_static set.statics
          (root_in rs k).name)
      at_found again None = again (suc count)
      at_found again (Some j) = again count

      counted : (found : Option ℕ) → more count found + before lacks rs k
          ≡ count + length (cond (lacks_at found) (r ∷ filter lacks (take k rs)) (filter lacks (take k rs)))
      counted None = omega arith
      counted (Some j) = refl

-- ---- where each lies

module _ (set : SetFacts) (opening : Graph) (is : IsOpening set opening) (differ : RootsDiffer set) where
  abbrev all_roots : List Root
  all_roots = roots_from set opening 0 opening.roots

  abbrev root_of : ℕ → NamedValue
  root_of slot = root_in opening.roots slot

  abbrev no_home : Home
  no_home = BesideHeap I None

  abbrev own : List Home
  own = map (home_of opening.roots) set.statics

  abbrev others : List Home
  others = map (slot_of opening.roots) (lacking_roots set opening)

  abbrev slot_in : Home → ℕ
  slot_in (BesideHeap kind c) = 0
  slot_in (InSlot slot) = slot

  own_long : length own ≡ length set.statics
  own_long = length-map set.statics (home_of opening.roots)

  others_long : length others ≡ length (lacking_roots set opening)
  others_long = length-map (lacking_roots set opening) (slot_of opening.roots)

  own_at : (k : ℕ) → k < length set.statics
      → slice_index_or (homes set opening) k no_home ≡ home_of opening.roots (field_in set.statics k)
  own_at k below =
      get_or_append_left own others no_home k (omega (arith, below, own_long))
      ∙ get_or-map (home_of opening.roots) set.statics k none_static no_home below

  append_right : (xs ys : List Home) (j : ℕ) → slice_index_or (xs ++ ys) (length xs + j) no_home ≡
      slice_index_or ys j no_home
  append_right [] ys j = let e : 0 + j ≡ j = omega arith in ap (λ n. slice_index_or ys n no_home) e
  append_right (x ∷ xs) ys j =
      let e : suc (length xs) + j ≡ suc (length xs + j) = omega arith in
      ap (λ n. slice_index_or (x ∷ xs ++ ys) n no_home) e ∙ append_right xs ys j

  other_at : (j : ℕ) → j < length (lacking_roots set opening)
      → slice_index_or (homes set opening) (length set.statics + j) no_home
      ≡ InSlot (slot_named opening.roots (root_in (lacking_roots set opening) j).name)
  other_at j below =
      ap (λ n. slice_index_or (homes set opening) (n + j) no_home) (sym own_long)
      ∙ append_right own others j
      ∙ get_or-map (slot_of opening.roots) (lacking_roots set opening) j none_named no_home below

  -- a root's static
  root_at : (slot : ℕ) → slot < length opening.roots
      → (slice_index_or all_roots slot no_root).at
      ≡ static_for set opening (before (lacks set opening) opening.roots slot) (root_static set.statics
      (root_of slot).name)
  root_at slot below =
      let e : 0 + before (lacks set opening) opening.roots slot ≡ before (lacks set opening) opening.roots
      slot = omega arith in
      roots_at set opening 0 opening.roots slot below
      ∙ ap (λ n. static_for set opening n (root_static set.statics (root_of slot).name)) e

  slot_there : (slot : ℕ) → slot < length opening.roots → slot < length all_roots
  slot_there slot below = let long = roots_long set opening 0 opening.roots in omega (arith, below, long)

  there_slot : (slot : ℕ) → slot < length all_roots → slot < length opening.roots
  there_slot slot below = let long = roots_long set opening 0 opening.roots in omega (arith, below, long)

  -- ---- from the place to the root

  own_forth : (k slot : ℕ) → k < length set.statics → home_of opening.roots (field_in set.statics k) ≡ InSlot
      slot
      → IsRootAt all_roots slot (suc k)
  own_forth k slot below is_slot = by_root (field_in set.statics k).is_root refl is_slot
    where
      name : List ℕ
      name = (field_in set.statics k).name

      by_root : (b : Bool) → (field_in set.statics k).is_root ≡ b
          → (if b then InSlot (slot_named opening.roots (field_in set.statics k).name)
          else BesideHeap (field_in set.statics k).kind (field_in set.statics k).constant) ≡ InSlot slot
          → IsRootAt all_roots slot (suc k)
      by_root false plain e = absurd (let bad : BesideHeap (field_in set.statics k).kind (field_in set.statics
          k).constant ≡ InSlot slot = e in cc)
      by_root true root e =
          let same : slot_named opening.roots (field_in set.statics k).name ≡ slot = ap slot_in e in
          let has = All-get_or (λ (s : StaticFacts). s.is_root ≡ true
          → Contains (map (λ (r : NamedValue). r.name) opening.roots) s.name) set.statics k none_static below
          is.has_roots root in
          let within : has.0 < length opening.roots = (let lt = has.1 in let long = length-map opening.roots
          (λ (r : NamedValue). r.name) in omega (arith, lt, long)) in
          let found = named_slot opening.roots (field_in set.statics k).name has.0 within
          (sym (get_or-map (λ (r : NamedValue). r.name) opening.roots has.0 none_named (field_in set.statics
          k).name within) ∙ has.2) in
          let there : slot < length opening.roots = subst (λ n. n < length opening.roots) same found.there in
          let named : (root_of slot).name ≡ (field_in set.statics k).name =
          ap (λ n. (root_of n).name) (sym same) ∙ found.named in
          record {
            there = slot_there slot there;
            at = root_at slot there
                ∙ ap (λ x. static_for set opening (before (lacks set opening) opening.roots slot) (root_static
                set.statics x)) named
                ∙ ap (static_for set opening (before (lacks set opening) opening.roots slot)) (own_static
                set.statics k differ below root);
          }

  lacking_none : (found : Option ℕ) → lacks_at set opening found ≡ true → found ≡ None
  lacking_none None e = refl
  lacking_none (Some k) e = absurd (false≢true e)

  other_forth : (j slot : ℕ) → j < length (lacking_roots set opening)
      → InSlot (slot_named opening.roots (root_in (lacking_roots set opening) j).name) ≡ InSlot slot
      → IsRootAt all_roots slot (suc (length set.statics) + j)
  other_forth j slot below is_slot =
      let from = kept_from (lacks set opening) opening.roots j below in
      let kept = kept_at (lacks set opening) opening.roots from.k from.below from.passes in
      let same_root : root_in (lacking_roots set opening) j ≡ root_of from.k =
      ap (root_in (lacking_roots set opening)) (sym from.count) ∙ kept.is in
      let same : from.k ≡ slot =
      sym (own_slot opening.roots from.k is.names_differ from.below)
      ∙ ap (λ (r : NamedValue). slot_named opening.roots r.name) (sym same_root)
      ∙ ap slot_in is_slot in
      let none = lacking_none (root_static set.statics (root_of from.k).name) from.passes in
      subst (λ n. IsRootAt all_roots n (suc (length set.statics) + j)) same (record {
        there = slot_there from.k from.below;
        at = root_at from.k from.below
            ∙ ap (static_for set opening (before (lacks set opening) opening.roots from.k)) none
            ∙ ap (λ n. suc (length set.statics) + n) from.count;
      })

  pub forth : (k slot : ℕ) → slice_index_or (homes set opening) k no_home ≡ InSlot slot → IsRootAt all_roots
      slot (suc k)
  forth k slot is_slot = elim (cases_lt k (length set.statics)) [
    | inl below ↦ own_forth k slot below (sym (own_at k below) ∙ is_slot)
    | inr past ↦ beyond (k - length set.statics) (omega (arith, past))
  ]
    where
      beyond : (j : ℕ) → length set.statics + j ≡ k → IsRootAt all_roots slot (suc k)
      beyond j sum = elim (cases_lt j (length (lacking_roots set opening))) [
        | inl below ↦
            (let e : suc (length set.statics) + j ≡ suc k = omega (arith, sum) in
            subst (λ n. IsRootAt all_roots slot n) e (other_forth j slot below
            (sym (other_at j below) ∙ ap (λ n. slice_index_or (homes set opening) n no_home) sum ∙ is_slot)))
        | inr over ↦ absurd (let long = length-append own others in
            let none : slice_index_or (homes set opening) k no_home ≡ no_home =
            get_or_past (homes set opening) k no_home (omega (arith, long, own_long, others_long, over, sum))
            in
            let bad : no_home ≡ InSlot slot = sym none ∙ is_slot in cc)
      ]

  -- ---- from the root to the place

  pub back : (k slot : ℕ) → IsRootAt all_roots slot (suc k) → slice_index_or (homes set opening) k no_home ≡
      InSlot slot
  back k slot root =
      by_static (root_static set.statics (root_of slot).name) refl
    where
      below : slot < length opening.roots
      below = there_slot slot root.there

      by_static : (found : Option ℕ) → root_static set.statics (root_of slot).name ≡ found
          → slice_index_or (homes set opening) k no_home ≡ InSlot slot
      by_static (Some j) is_found =
          let found = found_at set.statics (root_of slot).name j is_found in
          let at : suc j ≡ suc k =
          sym (root_at slot below ∙ ap (static_for set opening (before (lacks set opening) opening.roots
          slot)) is_found) ∙ root.at in
          let same : j ≡ k = omega (arith, at) in
          subst (λ n. slice_index_or (homes set opening) n no_home ≡ InSlot slot) same
          (own_at j found.there
          ∙ ap (λ b. if b then InSlot (slot_named opening.roots (field_in set.statics j).name)
          else BesideHeap (field_in set.statics j).kind (field_in set.statics j).constant) found.root
          ∙ ap (λ x. InSlot (slot_named opening.roots x)) found.named
          ∙ ap InSlot (own_slot opening.roots slot is.names_differ below))
      by_static None is_found =
          let passes : lacks set opening (root_of slot) ≡ true = ap (lacks_at set opening) is_found in
          let kept = kept_at (lacks set opening) opening.roots slot below passes in
          let j = before (lacks set opening) opening.roots slot in
          let at : suc (length set.statics) + j ≡ suc k =
          sym (root_at slot below ∙ ap (static_for set opening j) is_found) ∙ root.at in
          let same : length set.statics + j ≡ k = omega (arith, at) in
          subst (λ n. slice_index_or (homes set opening) n no_home ≡ InSlot slot) same
          (other_at j kept.there
          ∙ ap (λ (r : NamedValue). InSlot (slot_named opening.roots r.name)) kept.is
          ∙ ap InSlot (own_slot opening.roots slot is.names_differ below))

  -- no root's static is that of the stream
  pub not_first : (slot : ℕ) → IsRootAt (first_heap set opening).roots slot 0 → ⊥
  unfolding first_heap
  not_first slot root = never (before (lacks set opening) opening.roots slot) (root_static set.statics
      (root_of slot).name)
      (sym (root_at slot (there_slot slot root.there)) ∙ root.at)
    where
      never : (count : ℕ) (found : Option ℕ) → static_for set opening count found ≡ 0 → ⊥
      never count None e = omega (arith, e)
      never count (Some k) e = omega (arith, e)

  pub placed : (k slot : ℕ) → (slice_index_or (homes set opening) k no_home ≡ InSlot slot)
      ↔ IsRootAt (first_heap set opening).roots slot (suc k)
  unfolding first_heap
  placed k slot = (forth k slot, back k slot)

pub homes_are : (set : SetFacts) (opening : Graph) → IsOpening set opening → RootsDiffer set → (k slot : ℕ)
    → (slice_index_or (homes set opening) k (BesideHeap I None) ≡ InSlot slot)
    ↔ IsRootAt (first_heap set opening).roots slot (suc k)
homes_are set opening is differ k slot = placed set opening is differ k slot

pub never_first : (set : SetFacts) (opening : Graph) → IsOpening set opening → RootsDiffer set → (slot : ℕ)
    → IsRootAt (first_heap set opening).roots slot 0 → ⊥
never_first set opening is differ slot root = not_first set opening is differ slot root
