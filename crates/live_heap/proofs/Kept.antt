-- What every copy keeps when an act is taken in.
use Rattle.std.proofs.Common.{◌≡◌, ℕ, suc, ◌≤◌, ◌<◌, ◌^◌, Bool, true, false, List, [], ◌∷◌, ◌++◌, length, slice_set, refl, ap, sym, ◌∙◌}
use Rattle.std.proofs.Common.{if◌then◌else◌, arith, length-append, length-set}
use Rattle.ap_base.specs.declared.place.Place.TheVariants.{Static, Slot}
use Rattle.graph_model.specs.declared.types.Root.{Root}
use Rattle.graph_model.specs.declared.types.Obj.{Obj}
use Rattle.graph_model.specs.declared.types.Heap.{Heap}
use Rattle.graph_model.specs.Heaps.{object_at, with_slot}
use Rattle.run_history.specs.declared.act.Op.{Op}
use Rattle.run_history.specs.declared.act.Op.TheVariants as op
use Rattle.run_history.specs.Recorded.{Recorded}
use Rattle.run_history.specs.Worlds.{fits, heap_after_op, heap_after_op_checked}
use Rattle.run_history.proofs.CheckedHeaps.{checked-sound}
use Rattle.live_heap.specs.Seen.{Seen, durable_after, is_durable_store, seen_after, with_durable}
use Rattle.live_heap.specs.Copies.{IsSoundSeen}

roots_after : (heap : Heap) (o : Op) → (heap_after_op heap o).roots ≡ heap.roots
roots_after heap (op.Alloc n shape count) = refl
roots_after heap (op.Throw n class) = refl
roots_after heap (op.Stored (Static n) value) = refl
roots_after heap (op.Stored (Slot n i) value) = refl
roots_after heap o = refl

roots_checked : (heap : Heap) (o : Op) → (heap_after_op_checked heap o).roots ≡ heap.roots
roots_checked heap o =
    elim (fits heap o) as (λ b. (if b then heap_after_op heap o else heap).roots ≡ heap.roots)
    [ true ↦ roots_after heap o | false ↦ refl ]

length-with_durable : (durable : List Bool) (named : List ℕ) → length (with_durable durable named) ≡ length durable
length-with_durable durable [] = refl
length-with_durable durable (n ∷ ns) =
    length-with_durable (slice_set durable n true) ns ∙ length-set durable n true

length-one : (xs : List Obj) (x : Obj) → length (xs ++ x ∷ []) ≡ suc (length xs)
length-one xs x = omega (arith, length-append xs (x ∷ []))

-- an object with its flag more, where it fits
one_more : (heap after : Heap) (durable : List Bool) (is_fit : Bool) → length durable ≡ length heap.objects
    → length after.objects ≡ suc (length heap.objects)
    → length (if is_fit then durable ++ false ∷ [] else durable) ≡ length (if is_fit then after else heap).objects
one_more heap after durable true flags more = omega (arith, length-append durable (false ∷ []), flags, more)
one_more heap after durable false flags more = flags

as_many : (heap : Heap) (durable : List Bool) (named : List ℕ) (o : Op) → length durable ≡ length heap.objects
    → length (durable_after heap durable named o) ≡ length (heap_after_op_checked heap o).objects
as_many heap durable named (op.Alloc n shape count) flags =
    one_more heap (heap_after_op heap (op.Alloc n shape count)) durable (fits heap (op.Alloc n shape count)) flags
    (length-one heap.objects _)
as_many heap durable named (op.Throw n class) flags =
    one_more heap (heap_after_op heap (op.Throw n class)) durable (fits heap (op.Throw n class)) flags
    (length-one heap.objects _)
as_many heap durable named (op.Stored (Static n) value) flags =
    elim (fits heap (op.Stored (Static n) value))
    as (λ b. length durable ≡ length (if b then heap_after_op heap (op.Stored (Static n) value) else heap).objects)
    [ true ↦ flags | false ↦ flags ]
as_many heap durable named (op.Stored (Slot n i) value) flags =
    elim (fits heap (op.Stored (Slot n i) value))
    as (λ b. length durable ≡ length (if b then heap_after_op heap (op.Stored (Slot n i) value) else heap).objects)
    [ true ↦ flags ∙ sym (length-set heap.objects n (with_slot (object_at heap n) i value)) | false ↦ flags ]
as_many heap durable named op.Joined flags = length-with_durable durable named ∙ flags
as_many heap durable named o flags = flags

counted : (stores acts : ℕ) (b : Bool) → stores ≤ acts → (if b then suc stores else stores) ≤ suc acts
counted stores acts true few = omega (arith, few)
counted stores acts false few = omega (arith, few)

-- What is seen after a further act is sound.
pub seen_after-sound : (seen : Seen) (a : Recorded) → IsSoundSeen seen → IsSoundSeen (seen_after seen a)
unfolding seen_after
seen_after-sound seen a is = record {
  sound = checked-sound seen.heap a.act.op is.sound;
  roots = rw (roots_checked seen.heap a.act.op) is.roots;
  flags = as_many seen.heap seen.durable a.named a.act.op is.flags;
  stores = counted seen.stores seen.acts (is_durable_store seen.heap seen.durable a.act.op) is.stores;
}

-- what these parts are together
pub after_is : (seen : Seen) (a : Recorded) (heap : Heap) (durable : List Bool) (acts stores : ℕ)
    → heap ≡ heap_after_op_checked seen.heap a.act.op → durable ≡ durable_after seen.heap seen.durable a.named a.act.op
    → acts ≡ suc seen.acts
    → stores ≡ (if is_durable_store seen.heap seen.durable a.act.op then suc seen.stores else seen.stores)
    → record { heap = heap; durable = durable; acts = acts; stores = stores } ≡ seen_after seen a
unfolding seen_after
after_is seen a heap durable acts stores heaps flags count more = rw (heaps, flags, count, more) refl
