-- What calls find is filled up class by class.
use Rattle.std.proofs.Common.{true, false, ◌≡◌, inl, inr, ℕ, suc, ◌<◌, ◌≤◌, List, [], ◌∷◌, ◌++◌, Option, Some, None, length}
use Rattle.std.proofs.Common.{get_or, set, take, refl, ap, sym, ◌∙◌, if◌then◌else◌, eq-eqb, arith, get_or-set_other}
use Rattle.std.proofs.Common.{get_or-set_same}
use Rattle.std.specs.Prelude.{Bool, is_some}
use Rattle.std.proofs.Math.Seq.{take-append_seam}
use Rattle.std.proofs.lemmas.Bool.{false≢true, ne_eqb, cases_eq}
use Rattle.plain_model.specs.Classes.{ClassFacts, no_class}
use Rattle.plain_model.specs.Facts.{superclasses_from}
use Rattle.class_set.specs.Linked.{Linked}
use Rattle.frames.specs.declared.program.Target.{Target}
use Rattle.class_code.specs.declared.declared.Declared.{Declared}
use Rattle.class_code.specs.Declarations.{IsFilled, declared_by, found_along, found_among, has_signature, or_else}

pub else_none : (o : Option Target) → or_else o None ≡ o
else_none None = refl
else_none (Some t) = refl

pub else_else : (a b c : Option Target) → or_else (or_else a b) c ≡ or_else a (or_else b c)
else_else None b c = refl
else_else (Some t) b c = refl

pub one_among : (n : ℕ) (d : Declared) (ds : List Declared) → found_among n (d ∷ ds) ≡ or_else (found_among n (d ∷ [])) (found_among n ds)
one_among n d ds = one (has_signature n d.signature)
  where
    one : (b : Bool) → (if b then Some d.target else found_among n ds) ≡ or_else (if b then Some d.target else None) (found_among n ds)
    one true = refl
    one false = refl

-- ---- one method

among_other : (n s : ℕ) (t : Target) → (s ≡ n → ⊥) → found_among n (record { signature = Some s; target = t } ∷ []) ≡ None
among_other n s t h = ap (λ b. if b then Some t else None) (ne_eqb s n h)

among_same : (n : ℕ) (t : Target) → found_among n (record { signature = Some n; target = t } ∷ []) ≡ Some t
among_same n t = ap (λ b. if b then Some t else None) (eq-eqb n n refl)

pub set_fills : (old : List (Option Target)) (s : ℕ) (t : Target) (n : ℕ) → s < length old → get_or old s None ≡ None
    → get_or (set old s (Some t)) n None ≡ or_else (get_or old n None) (found_among n (record { signature = Some s; target = t } ∷ []))
set_fills old s t n l e = elim (cases_eq s n) [
  | inl same ↦ ap (λ k. get_or (set old s (Some t)) k None) (sym same) ∙ get_or-set_same old s (Some t) None l
      ∙ sym (ap (λ o. or_else o (found_among n (record { signature = Some s; target = t } ∷ []))) (ap (λ k. get_or old k None) (sym same) ∙ e)
      ∙ ap (λ k. found_among k (record { signature = Some s; target = t } ∷ [])) (sym same) ∙ among_same s t)
  | inr other ↦ get_or-set_other old s n (Some t) None (λ e. other (sym e))
      ∙ sym (ap (or_else (get_or old n None)) (among_other n s t other) ∙ else_none (get_or old n None))
]

some_else : (o other : Option Target) → is_some o ≡ true → or_else o other ≡ o
some_else None other h = absurd (false≢true h)
some_else (Some t) other h = refl

pub some_stays : (old : List (Option Target)) (s : ℕ) (t : Target) (n : ℕ) → is_some (get_or old s None) ≡ true
    → get_or old n None ≡ or_else (get_or old n None) (found_among n (record { signature = Some s; target = t } ∷ []))
some_stays old s t n h = elim (cases_eq s n) [
  | inl same ↦ sym (some_else (get_or old n None) (found_among n (record { signature = Some s; target = t } ∷ []))
      (ap (λ k. is_some (get_or old k None)) (sym same) ∙ h))
  | inr other ↦ sym (ap (or_else (get_or old n None)) (among_other n s t other) ∙ else_none (get_or old n None))
]

pub past_stays : (old : List (Option Target)) (s : ℕ) (t : Target) (n : ℕ) → n < length old → length old ≤ s
    → get_or old n None ≡ or_else (get_or old n None) (found_among n (record { signature = Some s; target = t } ∷ []))
past_stays old s t n l h =
    sym (ap (or_else (get_or old n None)) (among_other n s t (λ e. omega (arith, e, l, h))) ∙ else_none (get_or old n None))

-- ---- classes, one after the other

abbrev along : Linked → ℕ → List ClassFacts → ℕ → ℕ → Option Target
along set n classes more class = found_along set n (superclasses_from classes more class)

first_else : (o other : Option Target) → (elim o [ None ↦ other | Some y ↦ Some y ]) ≡ or_else o other
first_else None other = refl
first_else (Some t) other = refl

rest_of : Linked → ℕ → List ClassFacts → ℕ → Option ℕ → Option Target
rest_of set n classes more None = None
rest_of set n classes more (Some super) = along set n classes more super

up : (set : Linked) (n : ℕ) (classes : List ClassFacts) (more class : ℕ) (o : Option ℕ) → (get_or classes class no_class).superclass ≡ o
    → along set n classes (suc more) class ≡ or_else (found_among n (declared_by set class)) (rest_of set n classes more o)
unfolding rest_of
up set n classes more class None e =
    ap (λ (o : Option ℕ). elim (found_among n (declared_by set class)) [
      | None ↦ found_along set n (elim o [ None ↦ [] | Some super ↦ superclasses_from classes more super ])
      | Some y ↦ Some y
    ]) e ∙ first_else (found_among n (declared_by set class)) None
up set n classes more class (Some super) e =
    ap (λ (o : Option ℕ). elim (found_among n (declared_by set class)) [
      | None ↦ found_along set n (elim o [ None ↦ [] | Some super ↦ superclasses_from classes more super ])
      | Some y ↦ Some y
    ]) e ∙ first_else (found_among n (declared_by set class)) (along set n classes more super)

-- the class is looked through, and its superclass comes next
pub next : (set : Linked) (n : ℕ) (classes : List ClassFacts) (left more class super : ℕ) (old new : List (Option Target)) (all : Option Target)
    → left ≡ suc more → (get_or classes class no_class).superclass ≡ Some super → n < length old
    → IsFilled old new (λ k. found_among k (declared_by set class))
    → all ≡ or_else (get_or old n None) (along set n classes left class)
    → all ≡ or_else (get_or new n None) (along set n classes more super)
unfolding rest_of
next set n classes left more class super old new all l e within filled h =
    let own = found_among n (declared_by set class) in
    h ∙ ap (λ k. or_else (get_or old n None) (along set n classes k class)) l
    ∙ ap (or_else (get_or old n None)) (up set n classes more class (Some super) e)
    ∙ sym (else_else (get_or old n None) own (along set n classes more super))
    ∙ ap (λ o. or_else o (along set n classes more super)) (sym (filled.found n within))

-- or there is none
pub topmost : (set : Linked) (n : ℕ) (classes : List ClassFacts) (left more class : ℕ) (old new : List (Option Target)) (all : Option Target)
    → left ≡ suc more → (get_or classes class no_class).superclass ≡ None → n < length old
    → IsFilled old new (λ k. found_among k (declared_by set class))
    → all ≡ or_else (get_or old n None) (along set n classes left class)
    → get_or new n None ≡ all
unfolding rest_of
topmost set n classes left more class old new all l e within filled h =
    let own = found_among n (declared_by set class) in
    filled.found n within
    ∙ sym (h ∙ ap (λ k. or_else (get_or old n None) (along set n classes k class)) l
    ∙ ap (or_else (get_or old n None)) (up set n classes more class None e ∙ else_none own))

-- A list behind a slice of all of it is what the slice became.
pub whole : {X : Type 0} (n : ℕ) (new rest : List X) → n ≡ length new → take n (new ++ rest) ≡ new
whole n new rest e = ap (λ k. take k (new ++ rest)) e ∙ take-append_seam new rest

-- or it is one more than there are
pub last : (set : Linked) (n : ℕ) (classes : List ClassFacts) (left class : ℕ) (old new : List (Option Target)) (all : Option Target)
    → left ≡ 0 → n < length old → IsFilled old new (λ k. found_among k (declared_by set class))
    → all ≡ or_else (get_or old n None) (along set n classes left class)
    → get_or new n None ≡ all
last set n classes left class old new all l within filled h =
    let own = found_among n (declared_by set class) in
    filled.found n within
    ∙ sym (h ∙ ap (λ k. or_else (get_or old n None) (along set n classes k class)) l
    ∙ ap (or_else (get_or old n None)) (first_else own None ∙ else_none own))
