-- The causes of faults, as calls and faults follow one another.
use Rattle.std.proofs.Common.{◌≡◌, ◌≤◌, ℕ, Result, Ok, Err, refl, subst}
use Rattle.ap_base.specs.Causes.{IsCauseOf, HasCauseOf, next_count}

-- where a call succeeds the count of faults stands
pub spared_at : {T E : Type 0} (why : E) (before now : ℕ) (r : Result T E) (x : T) → r ≡ Ok x → HasCauseOf why before now r → now ≡ before
spared_at {T} {E} why before now r x is cause =
    let ok : Result T E = Ok x in let at : HasCauseOf why before now ok = subst (HasCauseOf why before now) is cause in at

-- and where it fails it has this cause
pub cause_at : {T E : Type 0} (why : E) (before now : ℕ) (r : Result T E) (e : E) → r ≡ Err e → HasCauseOf why before now r
    → IsCauseOf why e before now
cause_at {T} {E} why before now r e is cause =
    let err : Result T E = Err e in let at : HasCauseOf why before now err = subst (HasCauseOf why before now) is cause in at

-- the cause of a fault before which the count stood
pub cause_on : {E : Type 0} (why e : E) (before middle now : ℕ) → middle ≡ before → IsCauseOf why e middle now → IsCauseOf why e before now
cause_on why e before middle now same cause = subst (λ (n : ℕ). IsCauseOf why e n now) same cause

-- that of a fault that is told by another
pub cause_as : {E F : Type 0} (why e : E) (what f : F) (before now : ℕ) → (e ≡ why → f ≡ what) → (f ≡ what → e ≡ why)
    → IsCauseOf why e before now → IsCauseOf what f before now
cause_as why e what f before now told tells cause = record {
  later = cause.later;
  spared = λ other. cause.spared (λ is. other (told is));
  failed = λ is. cause.failed (tells is);
}

-- that of the one fault of a call
pub cause_of_one : {E : Type 0} (why : E) (before now : ℕ) → before ≤ now → now ≡ next_count before → IsCauseOf why why before now
cause_of_one why before now later failed = record { later = later; spared = λ other. absurd (other refl); failed = λ is. failed }
