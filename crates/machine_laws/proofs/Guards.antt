-- Guards of places, and the threads whose region is closing, after an act of one thread.
use Rattle.std.proofs.Common.{◌≡◌, ◌≢◌, ◌⊎◌, inl, inr, ℕ, Bool, true, false, ◌&&◌, ◌||◌, not, nat_eq, List, [], ◌∷◌, ◌++◌}
use Rattle.std.proofs.Common.{Option, Some, None, refl, sym, ◌∙◌, ap, subst, cond, if◌then◌else◌, ne_eqb, eq-eqb, eqb-true}
use Rattle.std.specs.Prelude.{filter}
use Rattle.std.proofs.lemmas.Bool.{false≢true, and_parts, or_right}
use Rattle.ap_base.specs.declared.place.Place.{Place}
use Rattle.graph_model.specs.Heaps.{has_number, place_is}
use Rattle.run_history.specs.Knowing.{Guard, guard_of, has_guards, without_number}
use Rattle.stop_theorem.proofs.Joint.{same_place}
use Rattle.machine_forms.specs.Keeping.{guards_place, GuardApart}

abbrev pub without_guards : List Guard → ℕ → List Guard
without_guards gs t = filter (λ (g : Guard). not (nat_eq g.thread t)) gs

abbrev pub with_guard : List Guard → ℕ → Place → List Guard
with_guard gs t p = gs ++ record { thread = t; place = p } ∷ []

-- ---- who guards a place

some-is : {a b : ℕ} → Some a ≡ Some b → a ≡ b
some-is {a} {b} e = ap (λ (o : Option ℕ). elim o [ None ↦ a | Some k ↦ k ]) e

pub guards-of : (gs : List Guard) (p : Place) (t : ℕ) → guard_of gs p ≡ Some t
    → guards_place gs t p ≡ true
guards-of [] p t is = absurd (let no : None ≡ Some t = is in cc)
guards-of (g ∷ gs) p t is =
    elim (place_is g.place p) as (λ b. (if b then Some g.thread else guard_of gs p) ≡ Some t
    → ((nat_eq g.thread t && b) || guards_place gs t p) ≡ true) [
      | true ↦ λ mine. rw (eq-eqb g.thread t (some-is mine)) refl
      | false ↦ λ rest. or_right (nat_eq g.thread t && false) (guards_place gs t p) (guards-of gs p t rest)
    ] is

not-there : (a b : Bool) → ((a && false) || b) ≡ true → b ≡ true
not-there true b is = is
not-there false b is = is

guard-there : (gs : List Guard) (t : ℕ) (p : Place) → guards_place gs t p ≡ true
    → (u : ℕ) × (guard_of gs p ≡ Some u)
guard-there [] t p is = absurd (false≢true is)
guard-there (g ∷ gs) t p is =
    elim (place_is g.place p) as (λ b. ((nat_eq g.thread t && b) || guards_place gs t p) ≡ true
    → (u : ℕ) × ((if b then Some g.thread else guard_of gs p) ≡ Some u)) [
      | true ↦ λ here. (g.thread, refl)
      | false ↦ λ rest. guard-there gs t p (not-there (nat_eq g.thread t) (guards_place gs t p) rest)
    ] is

pub guard-is : (gs : List Guard) (t : ℕ) (p : Place) → GuardApart gs → guards_place gs t p ≡ true
    → guard_of gs p ≡ Some t
guard-is gs t p apart is =
    let there = guard-there gs t p is in
    there.1 ∙ ap (λ k. Some k) (apart p there.0 t (guards-of gs p there.0 there.1) is)

-- ---- one more guard

place-added : (gs : List Guard) (g : Guard) (u : ℕ) (p : Place) → guards_place (gs ++ g ∷ []) u p ≡ true
    → (guards_place gs u p ≡ true) ⊎ ((g.thread ≡ u) × (g.place ≡ p))
place-added [] g u p is =
    let both = and_parts (nat_eq g.thread u) (place_is g.place p)
    (alone (nat_eq g.thread u && place_is g.place p) is) in
    inr (eqb-true g.thread u both.0, same_place g.place p both.1)
  where
    alone : (b : Bool) → (b || false) ≡ true → b ≡ true
    alone true e = refl
    alone false e = e
place-added (h ∷ gs) g u p is =
    elim (nat_eq h.thread u && place_is h.place p) as (λ b. (b || guards_place (gs ++ g ∷ []) u p) ≡ true
    → ((b || guards_place gs u p) ≡ true) ⊎ ((g.thread ≡ u) × (g.place ≡ p))) [
      | true ↦ λ here. inl refl
      | false ↦ λ rest. place-added gs g u p rest
    ] is

-- a place that nobody has guarded
unguarded : (gs : List Guard) (t : ℕ) (p : Place) → guard_of gs p ≡ None → guards_place gs t p ≡ true → ⊥
unguarded gs t p none is =
    let there = guard-there gs t p is in
    let no : None ≡ Some there.0 = sym none ∙ there.1 in cc

pub apart-added : (gs : List Guard) (t : ℕ) (p : Place) → GuardApart gs → guard_of gs p ≡ None
    → GuardApart (with_guard gs t p)
apart-added gs t p apart none q u v a b =
    either (place-added gs (record { thread = t; place = p }) u q a)
    (place-added gs (record { thread = t; place = p }) v q b)
  where
    either : (guards_place gs u q ≡ true) ⊎ ((t ≡ u) × (p ≡ q))
        → (guards_place gs v q ≡ true) ⊎ ((t ≡ v) × (p ≡ q)) → u ≡ v
    either (inl x) (inl y) = apart q u v x y
    either (inr x) (inr y) = sym x.0 ∙ y.0
    either (inl x) (inr y) =
        absurd (unguarded gs u p none (subst (λ (z : Place). guards_place gs u z ≡ true) (sym y.1) x))
    either (inr x) (inl y) =
        absurd (unguarded gs v p none (subst (λ (z : Place). guards_place gs v z ≡ true) (sym x.1) y))

pub guard-before : (gs : List Guard) (t u : ℕ) (p q : Place) → u ≢ t
    → guard_of (with_guard gs t p) q ≡ Some u → guard_of gs q ≡ Some u
guard-before [] t u p q other is =
    elim (place_is p q) as (λ b. (if b then Some t else None) ≡ Some u → None ≡ Some u) [
      | true ↦ λ mine. absurd (other (sym (some-is mine)))
      | false ↦ λ none. none
    ] is
guard-before (g ∷ gs) t u p q other is =
    elim (place_is g.place q) as (λ b. (if b then Some g.thread else guard_of (with_guard gs t p) q) ≡ Some u
    → (if b then Some g.thread else guard_of gs q) ≡ Some u) [
      | true ↦ λ mine. mine
      | false ↦ λ rest. guard-before gs t u p q other rest
    ] is

pub has-added : (gs : List Guard) (t u : ℕ) (p : Place) → u ≢ t
    → has_guards (with_guard gs t p) u ≡ has_guards gs u
has-added [] t u p other = rw (ne_eqb t u (λ e. other (sym e))) refl
has-added (g ∷ gs) t u p other = ap (λ b. nat_eq g.thread u || b) (has-added gs t u p other)

-- ---- guards are given up

or-on : (x a b : Bool) → (a ≡ true → b ≡ true) → (x || a) ≡ true → (x || b) ≡ true
or-on true a b on is = refl
or-on false a b on is = on is

place-left : (gs : List Guard) (t u : ℕ) (p : Place) → guards_place (without_guards gs t) u p ≡ true
    → guards_place gs u p ≡ true
place-left [] t u p is = is
place-left (g ∷ gs) t u p is =
    elim (nat_eq g.thread t) as (λ b. guards_place (cond (not b) (g ∷ without_guards gs t)
    (without_guards gs t)) u p ≡ true → guards_place (g ∷ gs) u p ≡ true) [
      | true ↦ λ rest. or_right (nat_eq g.thread u && place_is g.place p) (guards_place gs u p)
          (place-left gs t u p rest)
      | false ↦ λ rest. or-on (nat_eq g.thread u && place_is g.place p)
          (guards_place (without_guards gs t) u p) (guards_place gs u p) (place-left gs t u p) rest
    ] is

pub apart-left : (gs : List Guard) (t : ℕ) → GuardApart gs → GuardApart (without_guards gs t)
apart-left gs t apart p u v a b = apart p u v (place-left gs t u p a) (place-left gs t v p b)

pub guard-was : (gs : List Guard) (t u : ℕ) (p : Place) → GuardApart gs
    → guard_of (without_guards gs t) p ≡ Some u → guard_of gs p ≡ Some u
guard-was gs t u p apart is =
    guard-is gs u p apart (place-left gs t u p (guards-of (without_guards gs t) p u is))

pub has-left : (gs : List Guard) (t u : ℕ) → u ≢ t → has_guards (without_guards gs t) u ≡ has_guards gs u
has-left [] t u other = refl
has-left (g ∷ gs) t u other =
    elim (nat_eq g.thread t) as (λ b. nat_eq g.thread t ≡ b
    → has_guards (cond (not b) (g ∷ without_guards gs t) (without_guards gs t)) u ≡ has_guards (g ∷ gs) u) [
      | true ↦ λ e.
          let apart : nat_eq g.thread u ≡ false = ne_eqb g.thread u
          (λ same. other (sym same ∙ eqb-true g.thread t e)) in
          has-left gs t u other ∙ ap (λ b. b || has_guards gs u) (sym apart)
      | false ↦ λ e. ap (λ b. nat_eq g.thread u || b) (has-left gs t u other)
    ] refl

-- ---- numbers

pub number-added : (ns : List ℕ) (t u : ℕ) → u ≢ t → has_number (ns ++ t ∷ []) u ≡ has_number ns u
number-added [] t u other = rw (ne_eqb t u (λ e. other (sym e))) refl
number-added (n ∷ ns) t u other = ap (λ b. nat_eq n u || b) (number-added ns t u other)

pub number-left : (ns : List ℕ) (t u : ℕ) → u ≢ t → has_number (without_number ns t) u ≡ has_number ns u
number-left [] t u other = refl
number-left (n ∷ ns) t u other =
    elim (nat_eq n t) as (λ b. nat_eq n t ≡ b
    → has_number (cond (not b) (n ∷ without_number ns t) (without_number ns t)) u ≡ has_number (n ∷ ns) u) [
      | true ↦ λ e.
          let apart : nat_eq n u ≡ false = ne_eqb n u (λ same. other (sym same ∙ eqb-true n t e)) in
          number-left ns t u other ∙ ap (λ b. b || has_number ns u) (sym apart)
      | false ↦ λ e. ap (λ b. nat_eq n u || b) (number-left ns t u other)
    ] refl
