-- What is known after each act of a history of two threads, as a table: thread 0 has a region in a region,
-- and thread 1 stores outside regions meanwhile.
use Rattle.std.specs.Prelude.{◌≡◌, ℕ, pos, Bool, true, false, List, [], ◌∷◌, map, filter}
use Rattle.ap_base.specs.declared.place.Place.{Place}
use Rattle.ap_base.specs.declared.place.Place.TheVariants.{Static, Slot}
use Rattle.graph_model.specs.declared.types.Value.TheVariants.{Int, Obj as Object}
use Rattle.run_history.specs.declared.act.Op.{Op}
use Rattle.run_history.specs.declared.act.Op.TheVariants as op
use Rattle.run_history.specs.Recorded.{Recorded}
use Rattle.run_history.specs.Knowing.{Fate, Sure, Open, Closing, Single, Mark, Pending, Guard, Unfenced, Knowledge}
use Rattle.run_history.specs.Knowing.{known_at_first, next_known}
use Rattle.run_history.specs.WorldRows.{ring_world}

-- What is known at a point: the fates of the stores so far, in order, and all else but the world and the
-- other marks.
pub record Seen : Type 0 where
  pub fates : List Fate
  pub durable : List ℕ
  pub asked : List Pending
  pub guards : List Guard
  pub closing : List ℕ
  pub unfenced : List Unfenced
  pub stores : ℕ
  pub at : ℕ

abbrev pub is_store : Op → Bool
is_store (op.Stored place value) = true
is_store o = false

abbrev pub store_fates : List Mark → List Fate
store_fates marks = map (λ (m : Mark). m.fate) (filter (λ (m : Mark). is_store m.op) marks)

abbrev pub seen : Knowledge → Seen
seen known = record {
  fates = store_fates known.marks;
  durable = known.durable;
  asked = known.asked;
  guards = known.guards;
  closing = known.closing;
  unfenced = known.unfenced;
  stores = known.stores;
  at = known.at;
}

-- an act, and what is known after it
pub record Told : Type 0 where
  pub act : Recorded
  pub after : Seen

abbrev pub seen_after : Knowledge → List Told → List Seen
seen_after known [] = []
seen_after known (t ∷ ts) = seen (next_known known t.act) ∷ seen_after (next_known known t.act) ts

abbrev pub naming : ℕ → ℕ → Op → List ℕ → Recorded
naming t at o named = record { act = record { thread = t; at = at; op = o }; named = named }

abbrev pub by : ℕ → ℕ → Op → Recorded
by t at o = naming t at o []

-- objects 0 and 2 of the ring are durable, and object 1 isn't
abbrev pub ring_known : Knowledge
ring_known = known_at_first ring_world (0 ∷ 2 ∷ [])

abbrev pub nothing : Seen
nothing = record {
  fates = [];
  durable = 0 ∷ 2 ∷ [];
  asked = [];
  guards = [];
  closing = [];
  unfenced = [];
  stores = 0;
  at = 0;
}

abbrev pub guard : Place → Guard
guard place = record { thread = 0; place = place }

abbrev pub owes : ℕ → Place → Unfenced
owes t place = record { thread = t; place = place }

abbrev pub wish : Pending
wish = record { thread = 1; place = Slot 2 1; value = Object 1 }

-- thread 0 has begun two levels and guarded a place
abbrev pub guarded : Seen
guarded = record nothing { guards = guard (Slot 0 0) ∷ []; at = 2 }

-- thread 1 has asked for object 1 and made it durable meanwhile
abbrev pub joined : Seen
joined = record guarded {
  fates = Open 0 ∷ [];
  durable = 0 ∷ 2 ∷ 1 ∷ [];
  asked = wish ∷ [];
  stores = 1;
  at = 3;
}

abbrev pub both_stored : Seen
both_stored = record joined {
  fates = Open 0 ∷ Single 1 ∷ [];
  asked = [];
  unfenced = owes 1 (Slot 2 1) ∷ [];
  stores = 2;
  at = 4;
}

-- after the inner End
abbrev pub inner_ended : Seen
inner_ended = record both_stored { fates = Open 0 ∷ Sure ∷ []; unfenced = []; at = 5 }

-- a durable root is a durable place too
abbrev pub root_stored : Seen
root_stored = record inner_ended {
  fates = Open 0 ∷ Sure ∷ Open 0 ∷ [];
  guards = guard (Slot 0 0) ∷ guard (Static 0) ∷ [];
  stores = 3;
  at = 6;
}

abbrev pub is_closing : Seen
is_closing = record root_stored { fates = Closing 0 ∷ Sure ∷ Closing 0 ∷ []; closing = 0 ∷ []; at = 7 }

abbrev pub outer_ended : Seen
outer_ended = record root_stored { fates = Sure ∷ Sure ∷ Sure ∷ []; guards = []; at = 8 }

abbrev pub told : Recorded → Seen → Told
told act after = record { act = act; after = after }

abbrev pub two_threads : List Told
two_threads =
    told (by 0 1 op.Begin) (record nothing { at = 1 })
    ∷ told (by 0 1 op.Begin) (record nothing { at = 1 })
    ∷ told (by 0 2 (op.Guarded (Slot 0 0))) guarded
    ∷ told (by 0 2 (op.Stored (Slot 0 0) (Int (pos 1)))) (record guarded { fates = Open 0 ∷ []; stores = 1 })
    ∷ told (by 1 2 (op.Stored (Slot 1 0) (Int (pos 2))))
    (record guarded { fates = Open 0 ∷ Sure ∷ []; stores = 1 })
    ∷ []

-- thread 1 publishes object 1 while the region of thread 0 is open, and the region closes and ends
abbrev pub publishing : List Told
publishing =
    told (by 0 1 op.Begin) (record nothing { at = 1 })
    ∷ told (by 0 1 op.Begin) (record nothing { at = 1 })
    ∷ told (by 0 2 (op.Guarded (Slot 0 0))) guarded
    ∷ told (by 0 2 (op.Stored (Slot 0 0) (Int (pos 1)))) (record guarded { fates = Open 0 ∷ []; stores = 1 })
    ∷ told (by 1 2 (op.Asked (Slot 2 1) (Object 1)))
    (record guarded { fates = Open 0 ∷ []; stores = 1; asked = wish ∷ [] })
    ∷ told (naming 1 3 op.Joined (1 ∷ [])) joined
    ∷ told (by 1 4 (op.Stored (Slot 2 1) (Object 1))) both_stored
    ∷ told (by 1 4 op.Fenced) (record both_stored { fates = Open 0 ∷ Sure ∷ []; unfenced = [] })
    ∷ told (by 0 5 op.End) inner_ended
    ∷ told (by 0 6 (op.Guarded (Static 0)))
    (record root_stored { fates = Open 0 ∷ Sure ∷ []; stores = 2 })
    ∷ told (by 0 6 (op.Stored (Static 0) (Object 0))) root_stored
    ∷ told (by 0 7 op.Closing) is_closing
    ∷ told (by 0 8 op.End) outer_ended
    ∷ told (by 0 9 (op.Stored (Slot 1 0) (Int (pos 3))))
    (record outer_ended { fates = Sure ∷ Sure ∷ Sure ∷ Single 0 ∷ []; unfenced = owes 0 (Slot 1 0) ∷ []; stores = 4; at = 9 })
    ∷ []

-- what is known after each act is what stands beside it
abbrev pub AreTold : List Told → Type 0
AreTold tolds = seen_after ring_known tolds ≡ map (λ (t : Told). t.after) tolds
