-- What a heap shows now, and showed before its last change.
use Rattle.std.specs.Prelude.{◌≤◌, ◌<◌, ◌+◌, ◌^◌, suc, length, vec_capacity}
use Rattle.shared_objects.specs.Shown.{Shown}
use Rattle.plain_heap.specs.declared.heap.PlainHeap.{PlainHeap}
use Rattle.plain_heap.specs.Backs.{shown_before}
use Rattle.plain_heap.specs.Shows.{shown_with}

abbrev pub shown_of : PlainHeap → Shown
shown_of heap = shown_with heap.shapes heap.objects.items heap.statics.items heap.left

abbrev pub shown_back : PlainHeap → Shown
shown_back heap = shown_before heap.last heap.shapes heap.objects.items heap.statics.items heap.left

-- If an object may be made, there is memory for it, and a number.
abbrev pub HasRoom : PlainHeap → Type 0
HasRoom heap = 3 ≤ heap.left → (heap.left ≤ 3 + heap.room) × (suc (length heap.objects.items) < 2 ^ 32)
    × (length heap.objects.items < vec_capacity heap.objects)
