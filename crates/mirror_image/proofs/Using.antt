-- Which halves are used after each way through a call.
use Rattle.std.proofs.Common.{◌≡◌, ◌∙◌, ℕ, Bool, true, false, refl, ap, Ok, Err}
use Rattle.ap_base.specs.Causes.{next_count}
use Rattle.line_image.specs.Told.{Told}
use Rattle.mirror_image.specs.declared.halves.Left.{Left}
use Rattle.mirror_image.specs.declared.halves.Left.TheVariants.{Both, First, Second}
use Rattle.mirror_image.specs.declared.state.State.{State}
use Rattle.mirror_image.specs.declared.state.State.TheVariants.{Paired, Closed}
use Rattle.mirror_image.specs.Leaving.{uses_first, uses_second}
use Rattle.mirror_image.specs.Mirror.{is_closed}
use Rattle.mirror_image.specs.Sound.{both_used}
use Rattle.mirror_image.specs.Using.{LeavesHalf, UsesHalves, AsksFirst}

-- no half is used once both have failed
none_first : (left : Left) → uses_first left false ≡ false
none_first Both = refl
none_first First = refl
none_first Second = refl

none_second : (left : Left) → uses_second left false ≡ false
none_second Both = refl
none_second First = refl
none_second Second = refl

-- it wasn't called
half_same : {told : Told} {faults : ℕ} (was is : Bool) → is ≡ was → LeavesHalf was is told told faults faults
half_same true true same = record { uncalled = λ e. (refl, refl); given_up = λ e u. cc; spared = λ u. refl; for_good = λ e. refl }
half_same true false same = cc
half_same false true same = cc
half_same false false same = record { uncalled = λ e. (refl, refl); given_up = λ e u. cc; spared = λ u. refl; for_good = λ e. e }

-- it was called, didn't fail, and is used as before
half_kept : {told told' : Told} {faults faults' : ℕ} (was is : Bool) → was ≡ true → is ≡ true → faults' ≡ faults → LeavesHalf was is told told' faults faults'
half_kept true true w i spared = record { uncalled = λ e. cc; given_up = λ e u. cc; spared = λ u. spared; for_good = λ e. refl }
half_kept true false w i spared = cc
half_kept false is w i spared = cc

-- it failed
half_lost : {told told' : Told} {faults faults' : ℕ} (was is : Bool) → was ≡ true → is ≡ false → faults' ≡ next_count faults → LeavesHalf was is told told' faults faults'
half_lost true false w i failed = record { uncalled = λ e. cc; given_up = λ e u. failed; spared = λ u. cc; for_good = λ e. cc }
half_lost true true w i failed = cc
half_lost false is w i failed = cc

-- both had failed before
pub uses_none : {T E : Type 0} {e : E} {a b : Told} {f g : ℕ} (left : Left) (alive : Bool) → alive ≡ false
    → UsesHalves {T = T} left left alive alive a b a b f g f g (Err e)
uses_none left alive dead = record {
  first = half_same _ _ refl;
  second = half_same _ _ refl;
  ok = tt;
  failed = dead;
  once_first = λ was is lives. cc;
  once_second = λ was is lives. cc;
}

-- the first half alone
pub uses_first_ok : {T E : Type 0} {x : T} {a b a' : Told} {f g f' : ℕ} (left : Left) (alive : Bool) → left ≡ First → alive ≡ true
    → f' ≡ f → UsesHalves {T = T} {E = E} left left alive alive a b a' b f g f' g (Ok x)
uses_first_ok First true is lives spared = record {
  first = half_kept _ _ refl refl spared;
  second = half_same _ _ refl;
  ok = refl;
  failed = tt;
  once_first = λ was is lives. cc;
  once_second = λ was is lives. cc;
}
uses_first_ok First false is lives spared = cc
uses_first_ok Both alive is lives spared = cc
uses_first_ok Second alive is lives spared = cc

pub uses_first_lost : {T E : Type 0} {e : E} {a b a' : Told} {f g f' : ℕ} (left : Left) (alive : Bool) → left ≡ First → alive ≡ true
    → f' ≡ next_count f → UsesHalves {T = T} left left alive false a b a' b f g f' g (Err e)
uses_first_lost First true is lives failed = record {
  first = half_lost _ _ refl refl failed;
  second = half_same _ _ refl;
  ok = tt;
  failed = refl;
  once_first = λ was is lives. cc;
  once_second = λ was is lives. cc;
}
uses_first_lost First false is lives failed = cc
uses_first_lost Both alive is lives failed = cc
uses_first_lost Second alive is lives failed = cc

-- the second half alone
pub uses_second_ok : {T E : Type 0} {x : T} {a b b' : Told} {f g g' : ℕ} (left : Left) (alive : Bool) → left ≡ Second → alive ≡ true
    → g' ≡ g → UsesHalves {T = T} {E = E} left left alive alive a b a b' f g f g' (Ok x)
uses_second_ok Second true is lives spared = record {
  first = half_same _ _ refl;
  second = half_kept _ _ refl refl spared;
  ok = refl;
  failed = tt;
  once_first = λ was is lives. cc;
  once_second = λ was is lives. cc;
}
uses_second_ok Second false is lives spared = cc
uses_second_ok Both alive is lives spared = cc
uses_second_ok First alive is lives spared = cc

pub uses_second_lost : {T E : Type 0} {e : E} {a b b' : Told} {f g g' : ℕ} (left : Left) (alive : Bool) → left ≡ Second → alive ≡ true
    → g' ≡ next_count g → UsesHalves {T = T} left left alive false a b a b' f g f g' (Err e)
uses_second_lost Second true is lives failed = record {
  first = half_same _ _ refl;
  second = half_lost _ _ refl refl failed;
  ok = tt;
  failed = refl;
  once_first = λ was is lives. cc;
  once_second = λ was is lives. cc;
}
uses_second_lost Second false is lives failed = cc
uses_second_lost Both alive is lives failed = cc
uses_second_lost First alive is lives failed = cc

-- both, and none failed
pub uses_both_ok : {T E : Type 0} {x : T} {a b a' b' : Told} {f g f' g' : ℕ} (left : Left) (alive : Bool) → left ≡ Both → alive ≡ true
    → f' ≡ f → g' ≡ g → UsesHalves {T = T} {E = E} left left alive alive a b a' b' f g f' g' (Ok x)
uses_both_ok Both true is lives spared_f spared_g = record {
  first = half_kept _ _ refl refl spared_f;
  second = half_kept _ _ refl refl spared_g;
  ok = refl;
  failed = tt;
  once_first = λ was is lives. cc;
  once_second = λ was is lives. cc;
}
uses_both_ok Both false is lives spared_f spared_g = cc
uses_both_ok First alive is lives spared_f spared_g = cc
uses_both_ok Second alive is lives spared_f spared_g = cc

-- both, and the second one failed
pub uses_both_first : {T E : Type 0} {x : T} {a b a' b' : Told} {f g f' g' : ℕ} (left : Left) (alive : Bool) → left ≡ Both → alive ≡ true
    → f' ≡ f → g' ≡ next_count g → b'.calls ≡ next_count b.calls → UsesHalves {T = T} {E = E} left First alive alive a b a' b' f g f' g' (Ok x)
uses_both_first Both true is lives spared failed counted = record {
  first = half_kept _ _ refl refl spared;
  second = half_lost _ _ refl refl failed;
  ok = refl;
  failed = tt;
  once_first = λ was is lives. cc;
  once_second = λ was is lives. counted;
}
uses_both_first Both false is lives spared failed counted = cc
uses_both_first First alive is lives spared failed counted = cc
uses_both_first Second alive is lives spared failed counted = cc

-- both, and the first one failed
pub uses_both_second : {T E : Type 0} {x : T} {a b a' b' : Told} {f g f' g' : ℕ} (left : Left) (alive : Bool) → left ≡ Both → alive ≡ true
    → f' ≡ next_count f → g' ≡ g → a'.calls ≡ next_count a.calls → UsesHalves {T = T} {E = E} left Second alive alive a b a' b' f g f' g' (Ok x)
uses_both_second Both true is lives failed spared counted = record {
  first = half_lost _ _ refl refl failed;
  second = half_kept _ _ refl refl spared;
  ok = refl;
  failed = tt;
  once_first = λ was is lives. counted;
  once_second = λ was is lives. cc;
}
uses_both_second Both false is lives failed spared counted = cc
uses_both_second First alive is lives failed spared counted = cc
uses_both_second Second alive is lives failed spared counted = cc

-- both failed
pub uses_both_lost : {T E : Type 0} {e : E} {a b a' b' : Told} {f g f' g' : ℕ} (left left' : Left) (alive : Bool) → left ≡ Both → alive ≡ true
    → f' ≡ next_count f → g' ≡ next_count g → UsesHalves {T = T} left left' alive false a b a' b' f g f' g' (Err e)
uses_both_lost Both left' true is lives failed_f failed_g = record {
  first = half_lost _ _ refl (none_first left') failed_f;
  second = half_lost _ _ refl (none_second left') failed_g;
  ok = tt;
  failed = refl;
  once_first = λ was is lives. cc;
  once_second = λ was is lives. cc;
}
uses_both_lost Both left' false is lives failed_f failed_g = cc
uses_both_lost First left' alive is lives failed_f failed_g = cc
uses_both_lost Second left' alive is lives failed_f failed_g = cc

-- what the half was called for before, it did
pub failed_after : {f g h : ℕ} → g ≡ f → h ≡ next_count g → h ≡ next_count f
failed_after spared failed = failed ∙ ap next_count spared

-- the second half alone was asked
pub asks_second : {b b' : Told} {g g' : ℕ} (left : Left) (alive : Bool) → left ≡ Second → AsksFirst left alive b b' g g'
asks_second Second alive is = λ e. cc
asks_second Both alive is = cc
asks_second First alive is = cc

pub asks_none : {b b' : Told} {g g' : ℕ} (left : Left) → AsksFirst left false b b' g g'
asks_none Both = λ e. cc
asks_none First = λ e. cc
asks_none Second = λ e. cc

pub not_closed : {P C A : Type 0} {halves : P} (state : State P C) → state ≡ Paired halves → is_closed state → A
not_closed (Paired halves) is closed = absurd closed
not_closed (Closed halves) is closed = cc

-- not both halves are used
pub first_alone : {P : Type 0} (left : Left) (alive : Bool) → left ≡ First → both_used left alive ≡ true → P
first_alone First alive is = λ e. cc
first_alone Both alive is = cc
first_alone Second alive is = cc

pub second_alone : {P : Type 0} (left : Left) (alive : Bool) → left ≡ Second → both_used left alive ≡ true → P
second_alone Second alive is = λ e. cc
second_alone Both alive is = cc
second_alone First alive is = cc

pub none_used : {P : Type 0} (left : Left) (alive : Bool) → alive ≡ false → both_used left alive ≡ true → P
none_used Both alive dead = λ e. cc
none_used First alive dead = λ e. cc
none_used Second alive dead = λ e. cc
