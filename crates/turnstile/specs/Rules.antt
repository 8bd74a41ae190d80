-- The rule of a turnstile: two words, the next ticket and the one that is served, and one slot.
use Rattle.std.specs.Prelude.{◌≡◌, ℕ, ◌+◌, ◌%◌, ◌==◌, ◌<◌, ◌≤◌, true, false, List, [], ◌∷◌, length, Option as Maybe, Some, MatchBool}
use mathlib.Core.Option.{Option, none, some}
use lib.ListN.{get_elem?}
use Rattle.atomic_table.specs.Table.{State, Me, Step}
use Rattle.turnstile.specs.declared.view.View.{View}
use Rattle.turnstile.specs.Entries.{entries_by, AddsBy, SameButOf}
use Rattle.turnstile.specs.Hands.{times, own_number, Agree}
use Rattle.turnstile.specs.Views.{has_ticket, is_holding, found_entries, found_parts, total, active, weight, waiting, holding, leaving}

module _ {E P : Type 0} where
  abbrev pub At : List (View E P) → ℕ → View E P → Type 0
  At vs i v = get_elem? vs i ≡ some v

module _ {E P : Type 0} (worker : E → ℕ) where
  -- what a pass that is holding may leave: its own worker's entries behind those that it found, and the parts of all others as they were
  abbrev pub Adds : View E P → List E → List P → Type 0
  Adds v log shares = AddsBy worker (own_number v.hands) (found_entries v.phase) log × SameButOf (own_number v.hands) (found_parts v.phase) shares

-- T's entries and parts
module _ {T E P : Type 0} (worker : E → ℕ) (entries : T → List E) (parts : T → List P) where
  -- the value is in the slot, and has these entries and parts
  abbrev pub Home : List (Option (Maybe T)) → List E → List P → Type 0
  Home homes log shares = (x : T) × (homes ≡ some (Some x) ∷ []) × (entries x ≡ log) × (parts x ≡ shares)

  -- There are all entries so far and a part for each number. While no pass is holding, the value in the slot stands for them. While one
  -- is, they are what it found.
  pub record Keeps (passes : ℕ) (s : State (Maybe T) (View E P)) : Type 0 where
    pub next : ℕ
    pub now : ℕ
    pub log : List E
    pub shares : List P
    pub words : s.words ≡ next % 18446744073709551616 ∷ now % 18446744073709551616 ∷ []
    -- the tickets that are out are those from now on up to next, each once
    pub queue : now + total active s.views ≡ next
    pub tickets : (i : ℕ) (v : View E P) → At s.views i v → has_ticket v.phase ≡ true → (now ≤ v.ticket) × (v.ticket < next)
    pub each : (i j : ℕ) (v w : View E P) → At s.views i v → At s.views j w → has_ticket v.phase ≡ true → has_ticket w.phase ≡ true → v.ticket ≡ w.ticket → i ≡ j
    -- they are fewer than the word has numbers, since a pass that has one has a hand
    pub some_hand : (i : ℕ) (v : View E P) → At s.views i v → has_ticket v.phase ≡ true → 0 < length v.hands
    pub all : total weight s.views ≡ passes
    pub few : passes < 18446744073709551616
    -- who is holding has the ticket that is served
    pub held : (i : ℕ) (v : View E P) → At s.views i v → is_holding v.phase ≡ true
        → (v.ticket ≡ now) × (found_entries v.phase ≡ log) × (found_parts v.phase ≡ shares) × (s.homes ≡ none ∷ [])
    pub free : ((i : ℕ) (v : View E P) → At s.views i v → is_holding v.phase ≡ false) → Home s.homes log shares
    -- no number has two hands, each hand agrees with the entries and parts, and a number without a hand has no entry
    pub apart : (n : ℕ) → total (λ v. times n v.hands) s.views ≤ 1
    pub agree : (i : ℕ) (v : View E P) → At s.views i v → Agree worker v.hands log shares
    pub no_other : (n : ℕ) → total (λ v. times n v.hands) s.views ≡ 0 → entries_by worker n log ≡ []

  -- the pass has a ticket, which is the number found
  abbrev pub Drawn : Step (Maybe T) → Me (Maybe T) (View E P) → ℕ → Me (Maybe T) (View E P) → Type 0
  Drawn s m n w = (t : ℕ) × (t % 18446744073709551616 ≡ n) × (w ≡ (waiting m.0 t, m.1))

  -- the pass holds the value, with which its hands agree
  abbrev pub Found : Me (Maybe T) (View E P) → Me (Maybe T) (View E P) → Type 0
  Found m w = (x : T) × (w ≡ (holding m.0 (entries x) (parts x), (0, Some x) ∷ m.1)) × Agree worker m.0.hands (entries x) (parts x)

  -- that is so exactly where its ticket is served
  abbrev pub Looked : Step (Maybe T) → Me (Maybe T) (View E P) → ℕ → Me (Maybe T) (View E P) → Type 0
  Looked s m n w = MatchBool (n == m.0.ticket % 18446744073709551616) (Found m w) (w ≡ m)

  -- the value is back in the slot, and the pass's hands agree with it
  abbrev pub Raised : Step (Maybe T) → Me (Maybe T) (View E P) → ℕ → Me (Maybe T) (View E P) → Type 0
  Raised s m n w = (x : T) × (m.1 ≡ (0, Some x) ∷ []) × (w ≡ (leaving worker m.0 (entries x) (parts x), [])) × Agree worker w.0.hands (entries x) (parts x)
