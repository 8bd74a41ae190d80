-- A history: a list of acts, each with the objects that it names.
use Rattle.std.specs.Prelude.{◌≡◌, ℕ, List, [], ◌∷◌, ◌++◌, map, slice_get, Option, Some, None}
use Rattle.run_history.specs.declared.act.Op.{Op}
use Rattle.run_history.specs.declared.act.Op.TheVariants as op
use Rattle.run_history.specs.declared.act.Act.{Act}

-- an act with the objects that it names: those of a Joined act, and none of any other
pub record Recorded : Type 0 where
  pub act : Act
  pub named : List ℕ

-- only a Joined act names objects
abbrev pub NamesRightly : Op → List ℕ → Type 0
NamesRightly op.Joined named = Unit {0}
NamesRightly o named = named ≡ []

-- A history that is being written: its acts, the objects that were named for the next Joined act, how many acts it may
-- have, and how many further objects may be named.
pub record History : Type 0 where
  pub acts : List Recorded
  pub named : List ℕ
  pub limit : ℕ
  pub room : ℕ

-- a Joined act takes the objects that were named
abbrev pub names_for : Op → List ℕ → List ℕ
names_for op.Joined named = named
names_for _ named = []

abbrev pub names_after : Op → List ℕ → List ℕ
names_after op.Joined named = []
names_after _ named = named

abbrev pub with_act : History → Act → History
with_act history act = record history {
  acts = history.acts ++ record { act = act; named = names_for act.op history.named } ∷ [];
  named = names_after act.op history.named;
}

abbrev pub acts_of : History → List Act
acts_of history = map (λ (r : Recorded). r.act) history.acts

abbrev pub names_of : Option Recorded → List ℕ
names_of None = []
names_of (Some r) = r.named

-- the objects of act i: none past the end
abbrev pub named_at : History → ℕ → List ℕ
named_at history i = names_of (slice_get history.acts i)

-- what a watcher that tells it has seen, once it saw this act too
abbrev pub with_seen : Option (List Recorded) → Recorded → Option (List Recorded)
with_seen None act = None
with_seen (Some acts) act = Some (acts ++ act ∷ [])
