-- What passes know, and how that changes.
use Rattle.std.specs.Prelude.{ℕ, ◌+◌, if◌then◌else◌, Bool, true, false, List, [], ◌∷◌, ◌++◌, length, Option, None}
use Rattle.turnstile.specs.declared.view.Hand.{Hand}
use Rattle.turnstile.specs.declared.view.Phase.{Phase}
use Rattle.turnstile.specs.declared.view.Phase.TheVariants.{Idle, Waiting, Holding}
use Rattle.turnstile.specs.declared.view.View.{View}
use Rattle.turnstile.specs.Hands.{without_next, next_of, left_with}

module _ {E P : Type 0} where
  -- whether a pass has a ticket that isn't used up
  abbrev pub has_ticket : Phase E P → Bool
  has_ticket Idle = false
  has_ticket Waiting = true
  has_ticket (Holding found parts) = true

  abbrev pub is_holding : Phase E P → Bool
  is_holding Idle = false
  is_holding Waiting = false
  is_holding (Holding found parts) = true

  -- the entries and the parts that a pass which is holding found
  abbrev pub found_entries : Phase E P → List E
  found_entries Idle = []
  found_entries Waiting = []
  found_entries (Holding found parts) = found

  abbrev pub found_parts : Phase E P → List P
  found_parts Idle = []
  found_parts Waiting = []
  found_parts (Holding found parts) = parts

  -- the slot that a pass has taken out, empty while somebody has its value
  abbrev pub slots_out : {T : Type 0} → Phase E P → List (ℕ × Option T)
  slots_out Idle = []
  slots_out Waiting = []
  slots_out (Holding found parts) = (0, None) ∷ []

  abbrev pub total : (View E P → ℕ) → List (View E P) → ℕ
  total f [] = 0
  total f (v ∷ vs) = f v + total f vs

  abbrev pub active : View E P → ℕ
  active v = if has_ticket v.phase then 1 else 0

  abbrev pub weight : View E P → ℕ
  weight v = length v.hands

  abbrev pub idle_with : List (Hand E P) → View E P
  idle_with hs = record { phase = Idle; ticket = 0; hands = hs }

  abbrev pub waiting : View E P → ℕ → View E P
  waiting v t = record { phase = Waiting; ticket = t; hands = v.hands }

  abbrev pub holding : View E P → List E → List P → View E P
  holding v log parts = record { phase = Holding log parts; ticket = v.ticket; hands = v.hands }

  abbrev pub with_hands : View E P → List (Hand E P) → View E P
  with_hands v hs = record { phase = v.phase; ticket = v.ticket; hands = hs }

  abbrev pub cut_left : View E P → View E P
  cut_left v = with_hands v (without_next v.hands)

  abbrev pub cut_right : View E P → View E P
  cut_right v = idle_with (next_of v.hands)

  abbrev pub joined : View E P → View E P → View E P
  joined v w = with_hands v (v.hands ++ w.hands)

module _ {E P : Type 0} (worker : E → ℕ) where
  -- idle again, with what was left
  abbrev pub leaving : View E P → List E → List P → View E P
  leaving v log parts = idle_with (left_with worker v.hands log parts)
