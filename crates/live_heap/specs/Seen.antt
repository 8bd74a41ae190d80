-- What is seen of a run whose acts are told one after another: the plain heap, which of its objects are durable, and how
-- many acts and durable stores there were (Shull, Huang and Torrellas, "AutoPersist", PLDI 2019, for durability by
-- reachability). It is total: an act that doesn't fit the heap changes nothing there, and is no durable store.
use Rattle.std.specs.Prelude.{ℕ, suc, Bool, true, false, ◌&&◌, List, [], ◌∷◌, ◌++◌, slice_set, slice_index_or}
use Rattle.std.specs.Prelude.{if◌then◌else◌, fold}
use Rattle.ap_base.specs.declared.place.Place.{Place}
use Rattle.ap_base.specs.declared.place.Place.TheVariants.{Static, Slot}
use Rattle.graph_model.specs.declared.types.Heap.{Heap}
use Rattle.graph_model.specs.Heaps.{is_kept_slot}
use Rattle.run_history.specs.declared.act.Op.{Op}
use Rattle.run_history.specs.declared.act.Op.TheVariants as op
use Rattle.run_history.specs.Recorded.{Recorded}
use Rattle.run_history.specs.Worlds.{fits, heap_after_op_checked}
use Rattle.run_history.specs.Knowing.{is_root}

pub record Seen : Type 0 where
  pub heap : Heap
  -- of each object by its number, whether it is durable
  pub durable : List Bool
  pub acts : ℕ
  -- how many durable stores there were
  pub stores : ℕ

-- with these objects durable too, where they are there
abbrev pub with_durable : List Bool → List ℕ → List Bool
with_durable durable [] = durable
with_durable durable (n ∷ ns) = with_durable (slice_set durable n true) ns

-- with a new object, which isn't durable, where it fits
abbrev pub with_new : List Bool → Bool → List Bool
with_new durable is_fit = if is_fit then durable ++ false ∷ [] else durable

-- Which objects are durable after an operation that names these.
abbrev pub durable_after : Heap → List Bool → List ℕ → Op → List Bool
durable_after heap durable named (op.Alloc n shape count) = with_new durable (fits heap (op.Alloc n shape count))
durable_after heap durable named (op.Throw n class) = with_new durable (fits heap (op.Throw n class))
durable_after heap durable named op.Joined = with_durable durable named
durable_after heap durable named _ = durable

-- A durable place is a durable root, or a kept slot of a durable object.
abbrev pub is_durable_place : Heap → List Bool → Place → Bool
is_durable_place heap durable (Static n) = is_root heap.roots n
is_durable_place heap durable (Slot n i) = is_kept_slot heap n i && slice_index_or durable n false

-- whether an operation is a durable store, which fits the heap
abbrev pub is_durable_store : Heap → List Bool → Op → Bool
is_durable_store heap durable (op.Stored place value) =
    fits heap (op.Stored place value) && is_durable_place heap durable place
is_durable_store heap durable _ = false

-- What is seen after a further act.
unfoldable pub seen_after : Seen → Recorded → Seen
seen_after seen a = record {
  heap = heap_after_op_checked seen.heap a.act.op;
  durable = durable_after seen.heap seen.durable a.named a.act.op;
  acts = suc seen.acts;
  stores = (if is_durable_store seen.heap seen.durable a.act.op then suc seen.stores else seen.stores);
}

-- what is seen after these acts, in order
abbrev pub seen_from : Seen → List Recorded → Seen
seen_from first acts = fold seen_after first acts
