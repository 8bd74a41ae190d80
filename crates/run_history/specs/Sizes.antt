-- Heaps of the same sizes.
use Rattle.std.specs.Prelude.{◌≡◌, ℕ, length}
use Rattle.graph_model.specs.declared.types.Heap.{Heap}
use Rattle.graph_model.specs.Heaps.{object_at, values_of}

-- the same shapes, roots and objects, each with as many slots
pub record SameSizes (h k : Heap) : Type 0 where
  pub shapes : k.shapes ≡ h.shapes
  pub roots : k.roots ≡ h.roots
  pub statics : length k.statics ≡ length h.statics
  pub objects : length k.objects ≡ length h.objects
  pub shape : (n : ℕ) → (object_at k n).shape ≡ (object_at h n).shape
  pub slots : (n : ℕ) → length (values_of k n) ≡ length (values_of h n)
