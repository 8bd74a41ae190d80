-- Where static fields lie.
use Rattle.std.proofs.Common.{◌≡◌, ℕ, suc, ◌+◌, ◌<◌, ◌≤◌, Bool, true, false, ◌&&◌, ◌||◌, not, List, [], ◌∷◌, ◌++◌, Option, Some}
use Rattle.std.proofs.Common.{None, map, filter, drop, length, refl, ap, sym, ◌∙◌, append_assoc, append-nil, cond, get_or}
use Rattle.std.proofs.Common.{if◌then◌else◌}
use Rattle.std.specs.Option.{is_some}
use Rattle.std.specs.Str.{bytes_eq}
use Rattle.std.proofs.lemmas.Bool.{false≢true}
use Rattle.std.proofs.lemmas.List.{drop_all, drop_more, map-append}
use Rattle.graph_model.specs.declared.types.Graph.{Graph}
use Rattle.graph_model.specs.declared.types.NamedValue.{NamedValue}
use Rattle.graph_model.specs.declared.types.Root.{Root}
use Rattle.class_file.specs.declared.class.ClassFile.{ClassFile}
use Rattle.class_set.specs.declared.statics.Static.{Static}
use Rattle.class_set.specs.Tables.{static_now}
use Rattle.plain_model.specs.Facts.{StaticFacts}
use Rattle.plain_model.specs.First.{is_lacking, lacking_roots, name_is, root_static}
use Rattle.text_table.specs.Sorted.{has_text}
use Rattle.class_set.specs.Facts.{facts_of, roots_from, roots_of}
use Rattle.class_set.specs.Linked.{Linked}
use Rattle.set_directory.specs.Written.{written_roots}
use Rattle.first_spaces.specs.Parts.{homes}
use Rattle.first_spaces.specs.Slots.{Home, BesideHeap, InSlot, home_of, slot_named, slot_of}
use Rattle.set_spaces.specs.Homes.{home_in, lacking_homes}
use Rattle.set_spaces.specs.Names.{lacking, place_in}
use Rattle.set_spaces.proofs.Texts.{first_at, placed_first, same_test, sorted_same}

abbrev value_name : NamedValue → List ℕ
value_name r = r.name

abbrev root_name : Root → List ℕ
root_name r = r.name

-- ---- slots by names

first_slot : (roots : List NamedValue) (name : List ℕ)
    → first_at value_name roots name ≡ slot_named roots name
first_slot [] name = refl
first_slot (r ∷ rs) name = ap (λ k. if name_is r.name name then 0 else suc k) (first_slot rs name)

slot_same : (roots : List NamedValue) (names : List (List ℕ)) (name : List ℕ) → map value_name roots ≡ names
    → slot_named roots name ≡ place_in names name
slot_same roots names name e = sym (first_slot roots name) ∙ sym (placed_first value_name roots names name e)

own_homes : (roots : List NamedValue) (names : List (List ℕ)) (ss : List StaticFacts)
    → map value_name roots ≡ names → map (home_of roots) ss ≡ map (home_in names) ss
own_homes roots names [] e = refl
own_homes roots names (s ∷ ss) e =
    ap (λ k. (if s.is_root then InSlot k else BesideHeap s.kind s.constant) ∷ map (home_of roots) ss)
    (slot_same roots names s.name e)
    ∙ ap (λ hs. home_in names s ∷ hs) (own_homes roots names ss e)

-- ---- roots that the set lacks

one_later : (o : Option ℕ) → is_some (elim o as (λ _. Option ℕ) [ None ↦ None | Some k ↦ Some (suc k) ])
    ≡ is_some o
one_later None = refl
one_later (Some k) = refl

found_first : (root own : Bool) (any : Bool) (o : Option ℕ) → any ≡ is_some o
    → (if root then own || any else any)
    ≡ is_some (if root && own then Some 0
    else (elim o as (λ _. Option ℕ) [ None ↦ None | Some k ↦ Some (suc k) ]))
found_first true true any o e = refl
found_first true false any o e = e ∙ sym (one_later o)
found_first false own any o e = e ∙ sym (one_later o)

has_front : (b : Bool) (root : Root) (roots : List Root) (name : List ℕ)
    → has_text (map root_name ((if b then root ∷ [] else []) ++ roots)) name
    ≡ (if b then bytes_eq root.name name || has_text (map root_name roots) name
    else has_text (map root_name roots) name)
has_front true root roots name = refl
has_front false root roots name = refl

-- a durable root is found by a name where one among those of the static fields has it
named_root : (ss : List StaticFacts) (n : ℕ) (name : List ℕ)
    → has_text (map root_name (roots_from n ss)) name ≡ is_some (root_static ss name)
named_root [] n name = refl
named_root (s ∷ ss) n name =
    let rest = roots_from (suc n) ss in
    has_front s.is_root (record { name = s.name; at = n }) rest name
    ∙ ap (λ b. if s.is_root then b || has_text (map root_name rest) name
    else has_text (map root_name rest) name)
    (sym (same_test s.name name))
    ∙ found_first s.is_root (name_is s.name name) (has_text (map root_name rest) name) (root_static ss name)
    (named_root ss (suc n) name)

none_is : (o : Option ℕ) → (elim o as (λ _. Bool) [ None ↦ true | Some k ↦ false ]) ≡ not (is_some o)
none_is None = refl
none_is (Some k) = refl

lacks_same : (set : Linked) (graph : Graph) (r : NamedValue)
    → is_lacking (facts_of set) graph r ≡ not (has_text (written_roots set) r.name)
lacks_same set graph r =
    none_is (root_static (facts_of set).statics r.name)
    ∙ ap not (sym (sorted_same (map root_name (roots_of (facts_of set))) r.name
    ∙ named_root (facts_of set).statics 1 r.name))

kept_both : {A B : Type 0} (f : A → Home) (g : B → Home) (x : A) (y : B) (xs : List A) (ys : List B)
    (a b : Bool)
    → a ≡ b → f x ≡ g y → map f xs ≡ map g ys → map f (cond a (x ∷ xs) xs) ≡ map g (cond b (y ∷ ys) ys)
kept_both f g x y xs ys true true e here rest = ap (λ h. h ∷ map f xs) here ∙ ap (λ hs. g y ∷ hs) rest
kept_both f g x y xs ys true false e here rest = absurd (false≢true (sym e))
kept_both f g x y xs ys false true e here rest = absurd (false≢true e)
kept_both f g x y xs ys false false e here rest = rest

lacking_slots : (set : Linked) (graph : Graph) (names : List (List ℕ)) (rs : List NamedValue)
    → map value_name graph.roots ≡ names
    → map (slot_of graph.roots) (filter (is_lacking (facts_of set) graph) rs)
    ≡ lacking_homes (written_roots set) names (map value_name rs)
lacking_slots set graph names [] e = refl
lacking_slots set graph names (r ∷ rs) e =
    kept_both (slot_of graph.roots) (λ name. InSlot (place_in names name)) r r.name
    (filter (is_lacking (facts_of set) graph) rs) (lacking (written_roots set) (map value_name rs))
    (is_lacking (facts_of set) graph r) (not (has_text (written_roots set) r.name)) (lacks_same set graph r)
    (ap (λ k. InSlot k) (slot_same graph.roots names r.name e))
    (lacking_slots set graph names rs e)

-- all of them
pub homes_named : (set : Linked) (graph : Graph) (names : List (List ℕ)) → map value_name graph.roots ≡ names
    → homes (facts_of set) graph
    ≡ map (home_in names) (facts_of set).statics ++ lacking_homes (written_roots set) names names
homes_named set graph names e =
    ap (λ hs. hs ++ map (slot_of graph.roots) (lacking_roots (facts_of set) graph))
    (own_homes graph.roots names (facts_of set).statics e)
    ∙ ap (λ hs. map (home_in names) (facts_of set).statics ++ hs)
    (lacking_slots set graph names graph.roots e ∙ ap (λ ns. lacking_homes (written_roots set) names ns) e)

-- ---- one after another

-- the next of these is made of the next of those
pub next_made : {A B C : Type 0} (f : A → C) (g : B → C) (xs : List A) (i : ℕ) (x : A)
    (ys new : List B) (y : B)
    → i < length xs → x ≡ get_or xs i x → new ≡ ys ++ y ∷ [] → g y ≡ f x
    → map g new ++ map f (drop (i + 1) xs) ≡ map g ys ++ map f (drop i xs)
next_made {A} f g xs i x ys new y below at pushed same =
    let rest = map f (drop (i + 1) xs) in
    ap (λ zs. map g zs ++ rest) pushed
    ∙ ap (λ zs. zs ++ rest) (map-append g ys (y ∷ []))
    ∙ append_assoc (map g ys) (g y ∷ []) rest
    ∙ ap (λ z. map g ys ++ z ∷ rest) same
    ∙ ap (λ zs. map g ys ++ map f zs)
    (ap (λ (z : A). z ∷ drop (i + 1) xs) at ∙ sym (drop_more xs i x below))

pub all_made : {A B C : Type 0} (f : A → C) (g : B → C) (xs : List A) (i : ℕ) (ys : List B) → length xs ≤ i
    → map g ys ++ map f (drop i xs) ≡ map f xs → map g ys ≡ map f xs
all_made f g xs i ys past e =
    sym (append-nil (map g ys)) ∙ ap (λ zs. map g ys ++ map f zs) (sym (drop_all i xs past)) ∙ e

pub fields_told : (names : List (List ℕ)) (files : List ClassFile) (fields : List Static)
    → map (λ (f : Static). home_in names (static_now files f)) fields
    ≡ map (home_in names) (map (static_now files) fields)
fields_told names files [] = refl
fields_told names files (f ∷ fs) = ap (λ hs. home_in names (static_now files f) ∷ hs)
    (fields_told names files fs)

-- the next of these names is passed over, or its slot is added
module _ (own all names : List (List ℕ)) (i : ℕ) (name : List ℕ) (below : i < length names)
    (at : name ≡ get_or names i name) where
  abbrev rest : List Home
  rest = lacking_homes own all (drop (i + 1) names)

  next_names : drop i names ≡ name ∷ drop (i + 1) names
  next_names = drop_more names i name below ∙ ap (λ n. n ∷ drop (i + 1) names) (sym at)

  pub name_passed : has_text own name ≡ true → lacking_homes own all (drop i names) ≡ rest
  name_passed there =
      ap (λ ns. lacking_homes own all ns) next_names
      ∙ ap (λ b. map (λ n. InSlot (place_in all n)) (cond (not b) (name ∷ lacking own (drop (i + 1) names))
      (lacking own (drop (i + 1) names)))) there

  pub name_lacked : has_text own name ≡ false
      → lacking_homes own all (drop i names) ≡ InSlot (place_in all name) ∷ rest
  name_lacked none =
      ap (λ ns. lacking_homes own all ns) next_names
      ∙ ap (λ b. map (λ n. InSlot (place_in all n)) (cond (not b) (name ∷ lacking own (drop (i + 1) names))
      (lacking own (drop (i + 1) names)))) none
