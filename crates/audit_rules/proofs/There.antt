-- Durable objects are there.
use Rattle.std.proofs.Common.{◌≡◌, ◌∙◌, ℕ, ◌<◌, ◌≤◌, true, false, List, [], ◌∷◌, length, length-append, ap, sym, arith, inl, inr}
use Rattle.std.specs.Prelude.{All}
use Rattle.std.proofs.lemmas.List.{length-set}
use Rattle.ap_base.specs.declared.place.Place.TheVariants.{Static, Slot}
use Rattle.graph_model.specs.declared.types.Heap.{Heap}
use Rattle.graph_model.specs.Heaps.{has_number, object_at, with_slot, fresh_values, shape_at}
use Rattle.run_history.specs.declared.act.Op.{Op}
use Rattle.run_history.specs.declared.act.Op.TheVariants as op
use Rattle.run_history.specs.Recorded.{Recorded}
use Rattle.run_history.specs.Worlds.{heap_after_op}
use Rattle.run_history.specs.Knowing.{Knowledge, next_known}
use Rattle.plain_model.proofs.Durable.{has_number-append_cases, made_durable, All-has_number}
use Rattle.audit_rules.specs.Closing.{AreThere}
use Rattle.audit_rules.proofs.Closing.{heap-next, durable-next}

pub as-many : (heap : Heap) (o : Op) → length heap.objects ≤ length (heap_after_op heap o).objects
as-many heap (op.Stored (Static f) value) = omega arith
as-many heap (op.Stored (Slot n i) value) = let same = length-set heap.objects n (with_slot (object_at heap n) i value) in omega (arith, same)
as-many heap (op.Alloc n shape count) = let more = length-append heap.objects (record { shape = shape; values = fresh_values (shape_at heap shape) count } ∷ []) in omega (arith, more)
as-many heap (op.Throw n class) = let more = length-append heap.objects (record { shape = class; values = fresh_values (shape_at heap class) 0 } ∷ []) in omega (arith, more)
as-many heap o = omega arith

made-there : (o : Op) (named : List ℕ) (count n : ℕ) → All (λ k. k < count) named → has_number (made_durable o named) n ≡ true → n < count
made-there op.Joined named count n all is = All-has_number (λ k. k < count) named n all is
made-there o named count n all is = absurd (let none : false ≡ true = is in cc)

pub durable-there : (known : Knowledge) (a : Recorded) → AreThere known → All (λ n. n < length known.world.heap.objects) a.named → AreThere (next_known known a)
durable-there known a there named n is =
    let more = as-many known.world.heap a.act.op in
    let heap = ap (λ (h : Heap). length h.objects) (heap-next known a) in
    elim (has_number-append_cases known.durable (made_durable a.act.op a.named) n (sym (ap (λ ns. has_number ns n) (durable-next known a)) ∙ is)) [
      | inl before ↦ let within = there n before in omega (arith, within, more, heap)
      | inr new ↦ let within = made-there a.act.op a.named (length known.world.heap.objects) n named new in omega (arith, within, more, heap)
    ]
