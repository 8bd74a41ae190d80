-- What is known after each act of a history, read from its front: the world, the durable objects, what was asked and is
-- pending, guarded places, regions that are closing, stores that aren't fenced, and what a stop may do to each act
-- (Shull, Huang and Torrellas, "AutoPersist", PLDI 2019, for durability by reachability and failure-atomic regions).
use Rattle.std.specs.Prelude.{ℕ, zero, suc, Bool, true, false, nat_eq, ◌||◌, ◌&&◌, not, List, [], ◌∷◌, ◌++◌, filter, Option}
use Rattle.std.specs.Prelude.{Some, None, if◌then◌else◌}
use Rattle.ap_base.specs.declared.place.Place.{Place}
use Rattle.ap_base.specs.declared.place.Place.TheVariants.{Static, Slot}
use Rattle.graph_model.specs.declared.types.Value.{Value}
use Rattle.graph_model.specs.declared.types.Root.{Root}
use Rattle.graph_model.specs.declared.types.Heap.{Heap}
use Rattle.graph_model.specs.Heaps.{has_number, is_kept_slot, place_is}
use Rattle.run_history.specs.declared.act.Op.{Op}
use Rattle.run_history.specs.declared.act.Op.TheVariants as op
use Rattle.run_history.specs.Recorded.{Recorded}
use Rattle.run_history.specs.Worlds.{World, after, depth_of}

-- What a stop may do to an act. A durable store is Open in a region of that thread that isn't closing, Closing in one
-- that is, and Single where it is outside regions and isn't fenced. All else is Sure.
pub data Fate : Type 0 where
  Sure : Fate
  Open : ℕ → Fate
  Closing : ℕ → Fate
  Single : ℕ → Fate

pub record Mark : Type 0 where
  pub fate : Fate
  pub op : Op

-- a thread has asked this value, for its store at this place, and hasn't made the store yet
pub record Pending : Type 0 where
  pub thread : ℕ
  pub place : Place
  pub value : Value

-- the open region of a thread has guarded this place
pub record Guard : Type 0 where
  pub thread : ℕ
  pub place : Place

-- a durable store of the thread at this place, outside regions, isn't fenced
pub record Unfenced : Type 0 where
  pub thread : ℕ
  pub place : Place

pub record Knowledge : Type 0 where
  pub world : World
  pub durable : List ℕ
  pub asked : List Pending
  pub guards : List Guard
  -- the threads whose region is closing
  pub closing : List ℕ
  -- the durable stores outside regions that aren't fenced
  pub unfenced : List Unfenced
  pub marks : List Mark
  -- how many durable stores there were
  pub stores : ℕ
  -- the number of image calls at the last act
  pub at : ℕ

-- what is known before the first act, where these objects are durable
abbrev pub known_at_first : World → List ℕ → Knowledge
known_at_first world durable =
    record { world = world; durable = durable; asked = []; guards = []; closing = []; unfenced = []; marks = []; stores = 0; at = 0 }

abbrev pub without_number : List ℕ → ℕ → List ℕ
without_number ns t = filter (λ n. not (nat_eq n t)) ns

-- whether the thread owes a fence
abbrev pub owes_fence : List Unfenced → ℕ → Bool
owes_fence [] t = false
owes_fence (u ∷ us) t = nat_eq u.thread t || owes_fence us t

-- where the thread has stored, if it owes a fence
abbrev pub unfenced_at : List Unfenced → ℕ → Option Place
unfenced_at [] t = None
unfenced_at (u ∷ us) t = if nat_eq u.thread t then Some u.place else unfenced_at us t

-- what is unfenced after a fence of the thread
abbrev pub without_fenced : List Unfenced → ℕ → List Unfenced
without_fenced us t = filter (λ u. not (nat_eq u.thread t)) us

abbrev pub is_root : List Root → ℕ → Bool
is_root [] n = false
is_root (r ∷ rs) n = nat_eq r.at n || is_root rs n

-- A durable place is a durable root, or a kept slot of a durable object.
abbrev pub is_durable : Heap → List ℕ → Place → Bool
is_durable heap durable (Static n) = is_root heap.roots n
is_durable heap durable (Slot n i) = is_kept_slot heap n i && has_number durable n

abbrev pub durable_at : Knowledge → Place → Bool
durable_at known place = is_durable known.world.heap known.durable place

abbrev pub pending_of : List Pending → ℕ → Option Pending
pending_of [] t = None
pending_of (p ∷ ps) t = if nat_eq p.thread t then Some p else pending_of ps t

-- the thread whose open region has guarded the place
abbrev pub guard_of : List Guard → Place → Option ℕ
guard_of [] place = None
guard_of (g ∷ gs) place = if place_is g.place place then Some g.thread else guard_of gs place

abbrev pub has_guards : List Guard → ℕ → Bool
has_guards [] t = false
has_guards (g ∷ gs) t = nat_eq g.thread t || has_guards gs t

-- the fate of a store of thread t, by whether its place is durable, how deep its region is, and whether that is closing
abbrev pub store_fate : ℕ → Bool → ℕ → Bool → Fate
store_fate t false depth is_closing = Sure
store_fate t true zero is_closing = Single t
store_fate t true (suc depth) true = Closing t
store_fate t true (suc depth) false = Open t

abbrev pub fate_of : Knowledge → ℕ → Place → Fate
fate_of known t place = store_fate t (durable_at known place) (depth_of known.world t) (has_number known.closing t)

abbrev pub is_single : Fate → Bool
is_single (Single t) = true
is_single _ = false

-- the fates after a fence of thread t, after its Closing, and at the end of its region
abbrev pub fenced : ℕ → Fate → Fate
fenced t (Single u) = if nat_eq u t then Sure else Single u
fenced t fate = fate

abbrev pub closed : ℕ → Fate → Fate
closed t (Open u) = if nat_eq u t then Closing u else Open u
closed t fate = fate

abbrev pub ended : ℕ → Fate → Fate
ended t (Open u) = if nat_eq u t then Sure else Open u
ended t (Closing u) = if nat_eq u t then Sure else Closing u
ended t fate = fate

abbrev pub each_fate : (Fate → Fate) → List Mark → List Mark
each_fate f [] = []
each_fate f (m ∷ ms) = record { fate = f m.fate; op = m.op } ∷ each_fate f ms

-- the marks with a further one, of an act that is sure
abbrev pub with_sure : List Mark → Op → List Mark
with_sure marks o = marks ++ record { fate = Sure; op = o } ∷ []

-- whether an End of thread t matches the outermost Begin of its region
abbrev pub is_outermost : Knowledge → ℕ → Bool
is_outermost known t = nat_eq (depth_of known.world t) 1

abbrev pub after_stored : Knowledge → ℕ → Place → Value → Fate → Knowledge
after_stored known t place value fate = record known {
  world = after known.world t (op.Stored place value);
  asked = filter (λ p. not (nat_eq p.thread t)) known.asked;
  unfenced = (if is_single fate then known.unfenced ++ record { thread = t; place = place } ∷ [] else known.unfenced);
  marks = known.marks ++ record { fate = fate; op = op.Stored place value } ∷ [];
  stores = (if durable_at known place then suc known.stores else known.stores);
}

-- an End that matches the outermost Begin gives the region's guards up
abbrev pub after_end : Knowledge → ℕ → Bool → Knowledge
after_end known t true = record known {
  world = after known.world t op.End;
  guards = filter (λ g. not (nat_eq g.thread t)) known.guards;
  closing = without_number known.closing t;
  marks = with_sure (each_fate (ended t) known.marks) op.End;
}
after_end known t false = record known { world = after known.world t op.End; marks = with_sure known.marks op.End }

abbrev pub after_asked : Knowledge → ℕ → Place → Value → Knowledge
after_asked known t place value = record known {
  asked = known.asked ++ record { thread = t; place = place; value = value } ∷ [];
  marks = with_sure known.marks (op.Asked place value);
}

-- what is known after an operation of thread t that names these objects
unfoldable pub known_after_op : Knowledge → ℕ → List ℕ → Op → Knowledge
known_after_op known t named (op.Asked place value) = after_asked known t place value
known_after_op known t named op.Joined = record known { durable = known.durable ++ named; marks = with_sure known.marks op.Joined }
known_after_op known t named (op.Guarded place) =
    record known { guards = known.guards ++ record { thread = t; place = place } ∷ []; marks = with_sure known.marks (op.Guarded place) }
known_after_op known t named op.Closing =
    record known { closing = known.closing ++ t ∷ []; marks = with_sure (each_fate (closed t) known.marks) op.Closing }
known_after_op known t named op.Fenced =
    record known { unfenced = without_fenced known.unfenced t; marks = with_sure (each_fate (fenced t) known.marks) op.Fenced }
known_after_op known t named (op.Stored place value) = after_stored known t place value (fate_of known t place)
known_after_op known t named op.End = after_end known t (is_outermost known t)
known_after_op known t named o = record known { world = after known.world t o; marks = with_sure known.marks o }

abbrev pub next_known : Knowledge → Recorded → Knowledge
next_known known a = record (known_after_op known a.act.thread a.named a.act.op) { at = a.act.at }

-- What is known after these acts.
abbrev pub known_after : Knowledge → List Recorded → Knowledge
known_after known [] = known
known_after known (a ∷ acts) = known_after (next_known known a) acts
