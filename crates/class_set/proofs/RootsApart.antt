-- No two durable roots of a linked set have one name.
use Rattle.std.proofs.Common.{◌≡◌, ◌≢◌, ℕ, suc, Bool, true, false, List, [], ◌∷◌, ◌++◌, Option, Some, None, length, map, get_or}
use Rattle.std.proofs.Common.{refl, ap, sym, ◌∙◌, subst, arith, ◌==◌, ◌||◌, if◌then◌else◌}
use Rattle.std.specs.Prelude.{All, AllPairs, codes}
use Rattle.std.specs.List.{list_any}
use Rattle.std.specs.Str.{bytes_eq}
use Rattle.std.specs.Cmp.Lexicographic.{nat_list_eq_equiv}
use Rattle.std.proofs.lemmas.Bool.{false≢true}
use Rattle.std.proofs.lemmas.List.{append_assoc, append_cancel_left}
use Rattle.std.proofs.lemmas.List.Elements.{All-append, All-cons, All-head, All-nil, All-tail, All-weaker}
use Rattle.std.proofs.lemmas.List.Folds.{list_any-append}
use Rattle.std.proofs.lemmas.List.Kept.{AllPairs-cons}
use Rattle.const_pool.specs.Pool.{Slots, utf8_at}
use Rattle.class_file.specs.declared.class.ClassFile.{ClassFile}
use Rattle.class_file.specs.declared.field.Field.{Field}
use Rattle.class_file.specs.Classes.{CanBeRead}
use Rattle.class_file.specs.Members.{is_among, is_text, with_root}
use Rattle.plain_model.specs.Facts.{StaticFacts}
use Rattle.built_in_table.specs.Members.{built_in_names}
use Rattle.class_links.specs.Names.{name_of}
use Rattle.class_set.specs.Linked.{Linked}
use Rattle.class_set.specs.Facts.{facts_of, static_facts, statics_from, statics_of_fields}
use Rattle.class_set.specs.Members.{is_static_member, text_at}
use Rattle.class_set.specs.Sets.{IsLinked}
use Rattle.class_set.proofs.RootsRead.{AreApart, HasNoDot, IsText, TellsRoots, tells_roots}

abbrev Apart : StaticFacts → StaticFacts → Type 0
Apart s t = s.is_root ≡ true → t.is_root ≡ true → s.name ≢ t.name

-- ---- texts with a dot between

-- what stands before the first dot
same_front : (xs ys us vs : List ℕ) → HasNoDot xs → HasNoDot ys → xs ++ 46 ∷ us ≡ ys ++ 46 ∷ vs → xs ≡ ys
same_front [] [] us vs h k e = refl
same_front [] (y ∷ ys) us vs h k e =
    let is : 46 ≡ y = cc in absurd (false≢true (sym k.0 ∙ ap (λ b. b == 46) (sym is)))
same_front (x ∷ xs) [] us vs h k e =
    let is : x ≡ 46 = cc in absurd (false≢true (sym h.0 ∙ ap (λ b. b == 46) is))
same_front (x ∷ xs) (y ∷ ys) us vs h k e =
    let first : x ≡ y = cc in
    let behind : xs ++ 46 ∷ us ≡ ys ++ 46 ∷ vs = cc in
    let others = same_front xs ys us vs h.1 k.1 behind in
    λ i. first i ∷ others i

-- ---- pairs

pairs_nil : {A : Type 0} (R : A → A → Type 0) → AllPairs R []
pairs_nil R i j d before lt = absurd (omega (arith, lt))

pairs_first : {A : Type 0} (R : A → A → Type 0) (x : A) (xs : List A) → AllPairs R (x ∷ xs) → All (R x) xs
pairs_first R x xs pairs k d lt = pairs 0 (suc k) d (omega arith) (omega (arith, lt))

pairs_rest : {A : Type 0} (R : A → A → Type 0) (x : A) (xs : List A) → AllPairs R (x ∷ xs) → AllPairs R xs
pairs_rest R x xs pairs i j d before lt = pairs (suc i) (suc j) d (omega (arith, before)) (omega (arith, lt))

pairs_append : {A : Type 0} (R : A → A → Type 0) (xs ys : List A) → AllPairs R xs → AllPairs R ys
    → All (λ x. All (R x) ys) xs → AllPairs R (xs ++ ys)
pairs_append R [] ys here there between = there
pairs_append R (x ∷ xs) ys here there between =
    AllPairs-cons R x (xs ++ ys)
    (All-append (R x) xs ys (pairs_first R x xs here) (All-head (λ z. All (R z) ys) x xs between))
    (pairs_append R xs ys (pairs_rest R x xs here) there (All-tail (λ z. All (R z) ys) x xs between))

-- ---- names that were met

any_more : (p : ℕ → Bool) (xs : List ℕ) (y : ℕ) → list_any p xs ≡ true → list_any p (xs ++ y ∷ []) ≡ true
any_more p xs y h = list_any-append p xs (y ∷ []) ∙ ap (λ b. b || list_any p (y ∷ [])) h

any_last : (p : ℕ → Bool) (xs : List ℕ) (y : ℕ) → p y ≡ true → list_any p (xs ++ y ∷ []) ≡ true
any_last p xs y h =
    list_any-append p xs (y ∷ []) ∙ ap (λ b. list_any p xs || (b || false)) h ∙ or_true (list_any p xs)
  where
    or_true : (b : Bool) → (b || true) ≡ true
    or_true true = refl
    or_true false = refl

text_is : (pool : Slots) (index : ℕ) (t : List ℕ) → utf8_at pool index ≡ Some t → text_at pool index ≡ t
text_is pool index t e = ap (λ (o : Option (List ℕ)). elim o as (λ x. List ℕ) [ None ↦ [] | Some u ↦ u ]) e

abbrev among_by : Slots → List ℕ → Option (List ℕ) → Bool
among_by pool names o = elim o [ None ↦ false | Some found ↦ list_any (λ name. is_text pool name found) names ]

abbrev text_by : List ℕ → Option (List ℕ) → Bool
text_by text o = elim o [ None ↦ false | Some found ↦ bytes_eq found text ]

itself : (pool : Slots) (index : ℕ) → IsText pool index → is_text pool index (text_at pool index) ≡ true
itself pool index (t, e) =
    ap (is_text pool index) (text_is pool index t e) ∙ ap (text_by t) e ∙ nat_list_eq_equiv.refl t

-- ---- the durable roots of one class

kept : (pool : Slots) (t : List ℕ) (roots : List ℕ) (f : Field) → list_any (λ n. is_text pool n t) roots ≡ true
    → list_any (λ n. is_text pool n t) (with_root roots f) ≡ true
kept pool t roots f h =
    elim (f.root) as (λ b. list_any (λ n. is_text pool n t) (if b then roots ++ f.name ∷ [] else roots) ≡ true)
    [ true ↦ any_more (λ n. is_text pool n t) roots f.name h | false ↦ h ]

-- what was met is the name of no root behind
others_differ : (pool : Slots) (t : List ℕ) (roots : List ℕ) (fs : List Field)
    → list_any (λ n. is_text pool n t) roots ≡ true → AreApart pool roots fs
    → All (λ (g : Field). g.root ≡ true → t ≢ text_at pool g.name) fs
others_differ pool t roots [] met apart = All-nil (λ (g : Field). g.root ≡ true → t ≢ text_at pool g.name)
others_differ pool t roots (g ∷ gs) met apart =
    All-cons (λ (f : Field). f.root ≡ true → t ≢ text_at pool f.name) g gs
    (λ root same. clash (apart.0 root) same)
    (others_differ pool t (with_root roots g) gs (kept pool t roots g met) apart.1)
  where
    clash : (is_among pool roots g.name ≡ false) × IsText pool g.name → t ≡ text_at pool g.name → ⊥
    clash (new, (u, e)) same =
        let is : t ≡ u = same ∙ text_is pool g.name u e in
        false≢true (sym new ∙ ap (among_by pool roots) e ∙ ap (λ v. list_any (λ n. is_text pool n v) roots) (sym is) ∙ met)

module _ (files : List ClassFile) (n : ℕ) (c : ClassFile) where
  all_statics : (P : StaticFacts → Type 0) (fs : List Field) → All (λ (g : Field). P (static_facts files n c g)) fs
      → All P (statics_of_fields files n c fs)
  all_statics P [] all = All-nil P
  all_statics P (f ∷ fs) all =
      let Q : Field → Type 0 = λ (g : Field). P (static_facts files n c g) in
      let behind = all_statics P fs (All-tail Q f fs all) in
      elim (is_static_member f.access) as (λ b. All P (if b then static_facts files n c f ∷ statics_of_fields files n c fs
      else statics_of_fields files n c fs)) [
        | true ↦ All-cons P (static_facts files n c f) (statics_of_fields files n c fs) (All-head Q f fs all) behind
        | false ↦ behind
      ]

  front_apart : (roots : List ℕ) (f : Field) (fs : List Field) → AreApart c.pool roots (f ∷ fs)
      → All (Apart (static_facts files n c f)) (statics_of_fields files n c fs)
  front_apart roots f fs apart =
      all_statics (Apart (static_facts files n c f)) fs (λ k d lt root other same.
      others_differ c.pool (text_at c.pool f.name) (with_root roots f) fs (met root) apart.1 k d lt other
      (append_cancel_left (name_of c ++ codes ".") _ _ same))
    where
      met : f.root ≡ true → list_any (λ i. is_text c.pool i (text_at c.pool f.name)) (with_root roots f) ≡ true
      met root =
          subst (λ b. list_any (λ i. is_text c.pool i (text_at c.pool f.name)) (if b then roots ++ f.name ∷ [] else roots) ≡ true)
          (sym root) (any_last (λ i. is_text c.pool i (text_at c.pool f.name)) roots f.name (itself c.pool f.name (apart.0 root).1))

  class_apart : (roots : List ℕ) (fs : List Field) → AreApart c.pool roots fs → AllPairs Apart (statics_of_fields files n c fs)
  class_apart roots [] apart = pairs_nil Apart
  class_apart roots (f ∷ fs) apart =
      let behind = class_apart (with_root roots f) fs apart.1 in
      elim (is_static_member f.access) as (λ b. AllPairs Apart (if b then static_facts files n c f ∷ statics_of_fields files n c fs
      else statics_of_fields files n c fs)) [
        | true ↦
            AllPairs-cons Apart (static_facts files n c f) (statics_of_fields files n c fs) (front_apart roots f fs apart) behind
        | false ↦ behind
      ]

-- ---- the durable roots of different classes

-- a static field's name begins with its class's and a dot
abbrev IsOf : List ℕ → StaticFacts → Type 0
IsOf name s = (x : List ℕ) × (s.name ≡ name ++ 46 ∷ x)

own : (files : List ClassFile) (n : ℕ) (c : ClassFile) → All (IsOf (name_of c)) (statics_of_fields files n c c.fields)
own files n c = all_statics files n c (IsOf (name_of c)) c.fields (λ k d lt. of_field (get_or c.fields k d))
  where
    of_field : (f : Field) → IsOf (name_of c) (static_facts files n c f)
    of_field f = (text_at c.pool f.name, append_assoc (name_of c) (codes ".") (text_at c.pool f.name))

abbrev HasOther : List ℕ → ClassFile → Type 0
HasOther name c = name ≢ name_of c

module _ (files : List ClassFile) where
  -- no static field of further classes has the name of one of a class before
  behind_differ : (name : List ℕ) (s : StaticFacts) → HasNoDot name → IsOf name s → (n : ℕ) (cs : List ClassFile)
      → All TellsRoots cs → All (HasOther name) cs → All (Apart s) (statics_from files n cs)
  behind_differ name s plain is n [] tell other = All-nil (Apart s)
  behind_differ name s plain is n (c ∷ cs) tell other =
      All-append (Apart s) (statics_of_fields files n c c.fields) (statics_from files (suc n) cs)
      (All-weaker (IsOf (name_of c)) (Apart s) (λ t of root root' same.
      All-head (HasOther name) c cs other (same_front name (name_of c) is.0 of.0 plain (All-head TellsRoots c cs tell).named
      (sym is.1 ∙ same ∙ of.1))) (statics_of_fields files n c c.fields) (own files n c))
      (behind_differ name s plain is (suc n) cs (All-tail TellsRoots c cs tell) (All-tail (HasOther name) c cs other))

  other_names : (name : List ℕ) (cs : List ClassFile) (more : List (List ℕ))
      → All (λ (other : List ℕ). name ≢ other) (map name_of cs ++ more) → All (HasOther name) cs
  other_names name [] more all = All-nil (HasOther name)
  other_names name (c ∷ cs) more all =
      All-cons (HasOther name) c cs (All-head (λ (other : List ℕ). name ≢ other) (name_of c) (map name_of cs ++ more) all)
      (other_names name cs more (All-tail (λ (other : List ℕ). name ≢ other) (name_of c) (map name_of cs ++ more) all))

  from_apart : (n : ℕ) (cs : List ClassFile) (more : List (List ℕ)) → All TellsRoots cs
      → AllPairs (λ (name other : List ℕ). name ≢ other) (map name_of cs ++ more) → AllPairs Apart (statics_from files n cs)
  from_apart n [] more tell differ = pairs_nil Apart
  from_apart n (c ∷ cs) more tell differ =
      let Differ : List ℕ → List ℕ → Type 0 = λ (name other : List ℕ). name ≢ other in
      let first = All-head TellsRoots c cs tell in
      let rest = All-tail TellsRoots c cs tell in
      let others = other_names (name_of c) cs more (pairs_first Differ (name_of c) (map name_of cs ++ more) differ) in
      pairs_append Apart (statics_of_fields files n c c.fields) (statics_from files (suc n) cs)
      (class_apart files n c [] c.fields first.roots)
      (from_apart (suc n) cs more rest (pairs_rest Differ (name_of c) (map name_of cs ++ more) differ))
      (All-weaker (IsOf (name_of c)) (λ s. All (Apart s) (statics_from files (suc n) cs))
      (λ s is. behind_differ (name_of c) s first.named is (suc n) cs rest others)
      (statics_of_fields files n c c.fields) (own files n c))

pub roots_differ : (set : Linked) → IsLinked set → AllPairs Apart (facts_of set).statics
roots_differ set linked =
    from_apart set.files 0 set.files (built_in_names ++ set.arrays)
    (All-weaker CanBeRead TellsRoots tells_roots set.files linked.readable)
    (subst (AllPairs (λ (name other : List ℕ). name ≢ other)) (append_assoc (map name_of set.files) built_in_names set.arrays)
    linked.names_differ)
