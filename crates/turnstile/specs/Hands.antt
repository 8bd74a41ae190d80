-- What is known of each worker.
use Rattle.std.specs.Prelude.{◌≡◌, ℕ, ◌+◌, ◌==◌, if◌then◌else◌, List, [], ◌∷◌, All, Option, Some, None, slice_get, unwrap_or}
use mathlib.Core.List.{IsPrefix}
use Rattle.turnstile.specs.declared.view.Hand.{Hand}
use Rattle.turnstile.specs.Entries.{entries_by}

module _ {E P : Type 0} where
  -- how many of the hands have this number
  abbrev pub times : ℕ → List (Hand E P) → ℕ
  times n [] = 0
  times n (h ∷ hs) = (if h.number == n then 1 else 0) + times n hs

  -- a hand for each part, numbered from k on, which has added and left nothing
  abbrev pub hands_from : ℕ → List P → List (Hand E P)
  hands_from k [] = []
  hands_from k (p ∷ ps) = record { number = k; entries = []; part = p; left = [] } ∷ hands_from (k + 1) ps

  -- of the hands of a pass the first is its own, and the others are its stock
  abbrev pub own_number : List (Hand E P) → ℕ
  own_number [] = 0
  own_number (h ∷ hs) = h.number

  abbrev pub own_entries : List (Hand E P) → List E
  own_entries [] = []
  own_entries (h ∷ hs) = h.entries

  abbrev pub own_part : List (Hand E P) → Option P
  own_part [] = None
  own_part (h ∷ hs) = Some h.part

  abbrev pub own_left : List (Hand E P) → List E
  own_left [] = []
  own_left (h ∷ hs) = h.left

  abbrev pub stock : List (Hand E P) → List (Hand E P)
  stock [] = []
  stock (h ∷ hs) = hs

  -- the hands without the first of the stock, and that one
  abbrev pub without_next : List (Hand E P) → List (Hand E P)
  without_next [] = []
  without_next (h ∷ []) = h ∷ []
  without_next (h ∷ s ∷ hs) = h ∷ hs

  abbrev pub next_of : List (Hand E P) → List (Hand E P)
  next_of [] = []
  next_of (h ∷ []) = []
  next_of (h ∷ s ∷ hs) = s ∷ []

module _ {E P : Type 0} (worker : E → ℕ) where
  -- the hand says of its worker what these entries and parts say
  pub record Agrees (h : Hand E P) (log : List E) (shares : List P) : Type 0 where
    pub own : entries_by worker h.number log ≡ h.entries
    pub part : slice_get shares h.number ≡ Some h.part
    pub before : IsPrefix h.left log

  abbrev pub Agree : List (Hand E P) → List E → List P → Type 0
  Agree hands log shares = All (λ h. Agrees h log shares) hands

  -- the hands once the first has left these entries and parts
  abbrev pub left_with : List (Hand E P) → List E → List P → List (Hand E P)
  left_with [] log shares = []
  left_with (h ∷ hs) log shares =
      record { number = h.number; entries = entries_by worker h.number log; part = unwrap_or (slice_get shares h.number) h.part; left = log } ∷ hs
