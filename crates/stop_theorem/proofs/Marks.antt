-- Marks and guards as acts are added.
use Rattle.std.proofs.Common.{◌≡◌, ℕ, Bool, true, false, not, List, [], ◌∷◌, ◌++◌, Option, Some, None, refl, sym, ◌∙◌, ap}
use Rattle.std.proofs.Common.{nat_eq, if◌then◌else◌, cond}
use Rattle.std.specs.Prelude.{filter}
use Rattle.std.specs.List.{AllByRecursion}
use Rattle.std.proofs.lemmas.Bool.{true≢false}
use Rattle.ap_base.specs.declared.place.Place.{Place}
use Rattle.graph_model.specs.Heaps.{place_is}
use Rattle.run_history.specs.declared.act.Op.{Op}
use Rattle.run_history.specs.Knowing.{Fate, Sure, Open, Closing, Single, Mark, Guard, guard_of, fenced, closed, ended}
use Rattle.run_history.specs.Knowing.{each_fate, with_sure}
use Rattle.run_history.specs.Kept.{survives}
use Rattle.stop_theorem.specs.Choices.{AllKept, stores_at}
use Rattle.stop_theorem.specs.Orderly.{ops_of_marks}

pub all_front : (P : Mark → Type 0) (xs ys : List Mark) → AllByRecursion P (xs ++ ys) → AllByRecursion P xs
all_front P [] ys all = tt
all_front P (x ∷ xs) ys all = (all.0, all_front P xs ys all.1)

pub ops_each : (f : Fate → Fate) (ms : List Mark) → ops_of_marks (each_fate f ms) ≡ ops_of_marks ms
ops_each f [] = refl
ops_each f (m ∷ ms) = ap (λ xs. m.op ∷ xs) (ops_each f ms)

pub all_sure : (r : ℕ → Bool) (p : Place) (o : Op) (ms : List Mark) → AllKept r p ms
    → AllKept r p (with_sure ms o)
all_sure r p o [] all = (λ is. refl, tt)
all_sure r p o (m ∷ ms) all = (all.0, all_sure r p o ms all.1)

pub all_each : (r : ℕ → Bool) (p : Place) (f : Fate → Fate)
    → ((fate : Fate) → survives r (λ t. true) fate ≡ true → survives r (λ t. true) (f fate) ≡ true)
    → (ms : List Mark) → AllKept r p ms → AllKept r p (each_fate f ms)
all_each r p f keeps [] all = tt
all_each r p f keeps (m ∷ ms) all = (λ is. keeps m.fate (all.0 is), all_each r p f keeps ms all.1)

kept_either : (r : ℕ → Bool) (b : Bool) (x y : Fate) → survives r (λ t. true) x ≡ true
    → survives r (λ t. true) y ≡ true → survives r (λ t. true) (if b then x else y) ≡ true
kept_either r true x y a b = a
kept_either r false x y a b = b

pub fenced_kept : (t : ℕ) (r : ℕ → Bool) (fate : Fate) → survives r (λ u. true) fate ≡ true
    → survives r (λ u. true) (fenced t fate) ≡ true
fenced_kept t r Sure is = is
fenced_kept t r (Open u) is = is
fenced_kept t r (Closing u) is = is
fenced_kept t r (Single u) is = kept_either r (nat_eq u t) Sure (Single u) refl refl

pub closed_kept : (t : ℕ) (r : ℕ → Bool) (fate : Fate) → survives r (λ u. true) fate ≡ true
    → survives r (λ u. true) (closed t fate) ≡ true
closed_kept t r Sure is = is
closed_kept t r (Open u) is = absurd (true≢false (sym is))
closed_kept t r (Closing u) is = is
closed_kept t r (Single u) is = is

pub ended_kept : (t : ℕ) (r : ℕ → Bool) (fate : Fate) → survives r (λ u. true) fate ≡ true
    → survives r (λ u. true) (ended t fate) ≡ true
ended_kept t r Sure is = is
ended_kept t r (Open u) is = absurd (true≢false (sym is))
ended_kept t r (Closing u) is = kept_either r (nat_eq u t) Sure (Closing u) refl is
ended_kept t r (Single u) is = is

-- what the regions of others have guarded stays so at an end of thread t's
pub still_guarded_by : (guards : List Guard) (t u : ℕ) (p : Place) → nat_eq u t ≡ false
    → guard_of guards p ≡ Some u → guard_of (filter (λ g. not (nat_eq g.thread t)) guards) p ≡ Some u
still_guarded_by [] t u p other is = is
still_guarded_by (g ∷ gs) t u p other is =
    elim (nat_eq g.thread t) as (λ b. nat_eq g.thread t ≡ b
    → guard_of (cond (not b) (g ∷ filter (λ h. not (nat_eq h.thread t)) gs)
    (filter (λ h. not (nat_eq h.thread t)) gs)) p ≡ Some u) [
      | true ↦ λ e. still_guarded_by gs t u p other
          (elim (place_is g.place p) as (λ b. (if b then Some g.thread else guard_of gs p) ≡ Some u
          → guard_of gs p ≡ Some u) [
            | true ↦ λ mine. absurd (true≢false (sym e ∙ ap (λ k. nat_eq k t) (some_is mine) ∙ other))
            | false ↦ λ rest. rest
          ] is)
      | false ↦ λ e. elim (place_is g.place p) as (λ b. (if b then Some g.thread else guard_of gs p) ≡ Some u
          → (if b then Some g.thread else guard_of (filter (λ h. not (nat_eq h.thread t)) gs) p) ≡ Some u) [
            | true ↦ λ mine. mine
            | false ↦ λ rest. still_guarded_by gs t u p other rest
          ] is
    ] refl
  where
    some_is : {a b : ℕ} → Some a ≡ Some b → a ≡ b
    some_is {a} {b} e = ap (λ (o : Option ℕ). elim o [ None ↦ a | Some k ↦ k ]) e

-- a guard is added
pub guard_added : (guards : List Guard) (g : Guard) (p : Place) (t : ℕ) → guard_of guards p ≡ Some t
    → guard_of (guards ++ g ∷ []) p ≡ Some t
guard_added [] g p t is = let wrong : None ≡ Some t = is in cc
guard_added (h ∷ hs) g p t is = elim (place_is h.place p) as (λ b.
    (if b then Some h.thread else guard_of hs p) ≡ Some t
    → (if b then Some h.thread else guard_of (hs ++ g ∷ []) p) ≡ Some t) [
      | true ↦ λ mine. mine
      | false ↦ λ rest. guard_added hs g p t rest
    ] is

pub guard_new : (guards : List Guard) (t : ℕ) (p : Place) → place_is p p ≡ true → guard_of guards p ≡ None
    → guard_of (guards ++ record { thread = t; place = p } ∷ []) p ≡ Some t
guard_new [] t p own none = rw own refl
guard_new (h ∷ hs) t p own none = elim (place_is h.place p) as (λ b.
    (if b then Some h.thread else guard_of hs p) ≡ None
    → (if b then Some h.thread else guard_of (hs ++ record { thread = t; place = p } ∷ []) p) ≡ Some t) [
      | true ↦ λ mine. let wrong : Some h.thread ≡ None = mine in cc
      | false ↦ λ rest. guard_new hs t p own rest
    ] none

pub all_last : (r : ℕ → Bool) (p : Place) (m : Mark) (ms : List Mark) → AllKept r p ms
    → (stores_at p m.op ≡ true → survives r (λ t. true) m.fate ≡ true) → AllKept r p (ms ++ m ∷ [])
all_last r p m [] all this = (this, tt)
all_last r p m (n ∷ ms) all this = (all.0, all_last r p m ms all.1 this)

pub all_single : (r : ℕ → Bool) (p : Place) (t : ℕ) (o : Op) (ms : List Mark) → AllKept r p ms
    → AllKept r p (ms ++ record { fate = Single t; op = o } ∷ [])
all_single r p t o [] all = (λ is. refl, tt)
all_single r p t o (m ∷ ms) all = (all.0, all_single r p t o ms all.1)
