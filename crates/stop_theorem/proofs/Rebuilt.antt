-- Words and a heap of the same sizes.
use Rattle.std.proofs.Common.{◌≡◌, ℕ, ◌<◌, ◌≤◌, true, List, length, ◌∙◌, ap, arith, slice_index_or}
use Rattle.ap_base.specs.declared.place.Place.TheVariants.{Static, Slot}
use Rattle.graph_model.specs.declared.types.Shape.{Shape}
use Rattle.graph_model.specs.declared.types.Heap.{Heap}
use Rattle.graph_model.specs.Heaps.{no_shape, object_at, shape_at, values_of, value_at, is_kept_slot}
use Rattle.image_layout.specs.Places.{root_slots}
use Rattle.image_meaning.specs.Checks.{Words}
use Rattle.image_meaning.specs.Directories.{Directory}
use Rattle.image_meaning.specs.Objects.{kind_of, object_slot}
use Rattle.image_meaning.specs.Meaning.{root_word}
use Rattle.image_meaning.specs.Corresponds.{LiesAt, Holds, HoldsReference, Corresponds, root_static}
use Rattle.image_meaning.proofs.Agreeing.{corresponds-agree}
use Rattle.run_history.specs.Sizes.{SameSizes}

-- Words and a heap of the same sizes that agree place by place correspond.
pub rebuilt : (R : LiesAt) (directory : Directory) (size : ℕ) (c d : Words) (heap other : Heap)
    → Corresponds R directory size c heap → SameSizes heap other
    → ((line n : ℕ) → R line n → d line 0 ≡ c line 0)
    → ((line n i : ℕ) → R line n → i < length (values_of heap n) → is_kept_slot heap n i ≡ true
    → Holds R (kind_of (shape_at heap (object_at heap n).shape) i) (object_slot d line i)
    (value_at other (Slot n i)))
    → ((r : ℕ) → r < length heap.roots → HoldsReference R (root_word d r)
    (value_at other (Static (root_static heap r))))
    → ((r : ℕ) → length heap.roots ≤ r → r < root_slots → root_word d r ≡ 0)
    → Corresponds R directory size d other
rebuilt R directory size c d heap other k s heads slots roots unused =
    corresponds-agree R directory size c d heap other k
    (record {
      roots = s.roots;
      there = λ line n y. let there = (k.objects line n y).there in omega (arith, there, s.objects);
      shapes = λ line n y.
          ap (λ (shapes : List Shape). slice_index_or shapes (object_at other n).shape no_shape) s.shapes
          ∙ ap (λ j. shape_at heap j) (s.shape n);
      counts = λ line n y. s.slots n;
    })
    (record { heads = heads; slots = slots; at_roots = roots; unused = unused })
