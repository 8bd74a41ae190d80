-- The first heap of a set with constants, by computation.
use Rattle.std.proofs.Common.{refl}
use Rattle.std.specs.Int.{int_wrap}
use Rattle.plain_model.specs.First.{first_heap}
use Rattle.plain_model.specs.FirstRows.{FirstHeapHasConstants}

pub first_heap_has_constants : FirstHeapHasConstants
unfolding first_heap int_wrap
first_heap_has_constants = record { objects_are = refl; statics_are = refl; roots_are = refl }
