-- What the hands of one pass say.
use Rattle.std.proofs.Common.{◌≡◌, ℕ, ◌<◌, List, [], ◌∷◌, length, slice_get, None, true, refl, sym, subst, ap, arith}
use Rattle.std.proofs.lemmas.List.Elements.{All-head, All-tail}
use mathlib.Core.List.{IsPrefix}
use Rattle.turnstile.specs.declared.view.Hand.{Hand}
use Rattle.turnstile.specs.declared.view.Phase.{Phase}
use Rattle.turnstile.specs.declared.view.Phase.TheVariants.{Idle, Waiting, Holding}
use Rattle.turnstile.specs.Entries.{entries_by}
use Rattle.turnstile.specs.Hands.{own_number, own_entries, own_part, own_left, stock, Agrees, Agree, left_with}
use Rattle.turnstile.specs.Views.{is_holding, slots_out}

module _ {E P : Type 0} (worker : E → ℕ) where
  -- what the first hand says of its worker
  pub own_agrees : (hands : List (Hand E P)) (log : List E) (shares : List P) → 0 < length hands → Agree worker hands log shares
      → (entries_by worker (own_number hands) log ≡ own_entries hands) × (slice_get shares (own_number hands) ≡ own_part hands) × IsPrefix (own_left hands) log
  own_agrees [] log shares some_hand w = absurd (omega arith)
  own_agrees (h ∷ hs) log shares some_hand w = let a = All-head (λ h. Agrees worker h log shares) h hs w in (a.own, a.part, a.before)

  pub stock_agrees : (hands : List (Hand E P)) (log : List E) (shares : List P) → Agree worker hands log shares → Agree worker (stock hands) log shares
  stock_agrees [] log shares w = w
  stock_agrees (h ∷ hs) log shares w = All-tail (λ h. Agrees worker h log shares) h hs w

  -- what it says once its pass has left
  pub record Left (hands new : List (Hand E P)) (log : List E) (shares : List P) : Type 0 where
    pub number : own_number new ≡ own_number hands
    pub further : stock new ≡ stock hands
    pub count : length new ≡ length hands
    pub entries : own_entries new ≡ entries_by worker (own_number hands) log
    pub part : own_part new ≡ slice_get shares (own_number hands)
    pub left : own_left new ≡ log

  left_own : (hands : List (Hand E P)) (log : List E) (shares : List P) → 0 < length hands → Agree worker (left_with worker hands log shares) log shares
      → Left hands (left_with worker hands log shares) log shares
  left_own [] log shares some_hand w = absurd (omega arith)
  left_own (h ∷ hs) log shares some_hand w = record {
    number = refl;
    further = refl;
    count = refl;
    entries = refl;
    part = sym (own_agrees (left_with worker (h ∷ hs) log shares) log shares some_hand w).1;
    left = refl;
  }

  pub left_says : (hands new : List (Hand E P)) (log : List E) (shares : List P) → 0 < length hands → new ≡ left_with worker hands log shares → Agree worker new log shares → Left hands new log shares
  left_says hands new log shares some_hand is w =
      subst (λ hs. Left hands hs log shares) (sym is) (left_own hands log shares some_hand (subst (λ hs. Agree worker hs log shares) is w))

module _ {T E P : Type 0} where
  pub slots_idle : (f : Phase E P) → f ≡ Idle → slots_out {T = T} f ≡ []
  slots_idle f is = ap (λ f. slots_out f) is

  pub slots_holding : (f : Phase E P) → is_holding f ≡ true → slots_out {T = T} f ≡ (0, None) ∷ []
  slots_holding Idle h = absurd (cc h)
  slots_holding Waiting h = absurd (cc h)
  slots_holding (Holding found parts) h = refl
