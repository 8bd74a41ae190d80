-- How a history is held: the objects of all Joined acts stand in one list, and each act knows its part.
use Rattle.std.specs.Prelude.{◌≡◌, ℕ, ◌+◌, ◌≤◌, ◌<◌, ◌^◌, List, map, length, drop, All, vec_capacity, slice_range}
use Rattle.run_history.specs.declared.act.Op.{Op}
use Rattle.run_history.specs.declared.act.Op.TheVariants as op
use Rattle.run_history.specs.declared.acts.Held.{Held}
use Rattle.run_history.specs.declared.acts.Acts.TheInside.{Inside}
use Rattle.run_history.specs.Recorded.{Recorded, History}

abbrev pub recorded : List ℕ → Held → Recorded
recorded objects held = record { act = held.act; named = slice_range objects held.from held.to }

abbrev pub history_of : Inside → History
history_of acts = record {
  acts = map (recorded acts.objects.items) acts.held.items;
  named = drop acts.taken acts.objects.items;
  limit = acts.limit;
  room = acts.room;
}

-- only a Joined act has objects
abbrev pub HasPart : Op → ℕ → ℕ → Type 0
HasPart op.Joined from to = Unit {0}
HasPart o from to = from ≡ to

-- an act's part lies among the objects that acts have taken, and is empty but for a Joined act
abbrev pub IsPart : ℕ → Held → Type 0
IsPart taken h = (h.from ≤ h.to) × (h.to ≤ taken) × HasPart h.act.op h.from h.to

-- each act has its part, and the memory that was reserved is there
pub record AreHeld (acts : Inside) : Type 0 where
  pub parts : All (IsPart acts.taken) acts.held.items
  pub taken : acts.taken ≤ length acts.objects.items
  pub acts_fit : acts.limit ≤ vec_capacity acts.held
  pub objects_fit : length acts.objects.items + acts.room ≤ vec_capacity acts.objects
  pub few : length acts.held.items < 2 ^ 32
