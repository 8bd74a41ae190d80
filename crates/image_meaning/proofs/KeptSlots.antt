-- What proofs take of the mark that tells which slots are kept: it goes by an object's shape. Each slot is
-- kept today, so that each counts in what an image stands for: what stands on that falls once fields may be
-- marked.
use Rattle.std.proofs.Common.{◌≡◌, ℕ, true, refl}
use Rattle.graph_model.specs.declared.types.Heap.{Heap}
use Rattle.graph_model.specs.Heaps.{object_at, shape_at, is_kept_slot}

pub kept_by_shape : (heap other : Heap) (n i : ℕ)
    → shape_at other (object_at other n).shape ≡ shape_at heap (object_at heap n).shape
    → is_kept_slot other n i ≡ is_kept_slot heap n i
kept_by_shape heap other n i same = refl

pub each_slot_is_kept : (heap : Heap) (n i : ℕ) → is_kept_slot heap n i ≡ true
each_slot_is_kept heap n i = refl
