use Rattle.std.proofs.Common.{rules, arith, refl}
use Rattle.convert_queue.specs.declared.queue_lists.Chain.{Chain}
use Rattle.convert_queue.proofs.ListLemmas.{lists_begin}
use Rattle.convert_queue.proofs.queue_lists.QueueLists.reserve.Goals as goal

pub invariant_of-result : goal.invariant_of-result
invariant_of-result c =
    let none : Chain = record { first = 0; last = 0; count = 0; at = 0; cursor = 0 } in
    let free : Chain = record { first = 0; last = 0; count = c.args.size; at = 0; cursor = 0 } in
    lists_begin c.in_ok-entries_in_order.field-0.items c.in_ok-vec.field-0.items none free c.args.size
    (c.in_ok-vec.ensures.items_if_clones_equal (λ y e. search rules)) refl refl refl
    c.in_ok-entries_in_order.ensures.long (omega arith) c.in_ok-entries_in_order.ensures.next
