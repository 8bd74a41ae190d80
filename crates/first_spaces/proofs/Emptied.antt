-- A heap of an image's objects alone is whole.
use Rattle.std.proofs.Common.{◌≡◌, ℕ, ◌<◌, List, [], length, sym, ap, subst, arith}
use Rattle.std.specs.Prelude.{slice_index}
use Rattle.graph_model.specs.declared.types.Shape.{Shape}
use Rattle.line_memory.specs.Memory.{Memory}
use Rattle.volatile_space.specs.Spaces.{Space}
use Rattle.twin_forms.specs.Sights.{view_of}
use Rattle.twin_forms.specs.Table.{Lies}
use Rattle.twin_heap.specs.Here.{opened, opening}
use Rattle.two_spaces.specs.declared.spaces.Static.{Static}
use Rattle.two_spaces.specs.Seen.{Spaces}
use Rattle.two_spaces.specs.Starts.{BeginningsStand}
use Rattle.two_spaces.specs.Whole.{Stands}
use Rattle.first_spaces.specs.declared.parts.SpacesTables.{SpacesTables}
use Rattle.first_spaces.specs.Beginnings.{HasTables}
use Rattle.first_spaces.specs.Filled.{CanBeEmpty, IsEmpty}

pub is_empty : BeginningsStand → (tables : SpacesTables) (lines : List ℕ) (words : ℕ) (memory : Memory) (s :
    Spaces)
    → CanBeEmpty tables lines words memory → HasTables tables s → s.twin.memory ≡ memory
    → s.twin.space ≡ record { words = []; left = words } → s.statics ≡ []
    → Lies (view_of s.twin) (opening memory lines) → IsEmpty tables lines words memory s
is_empty begins tables lines words memory s can has same space statics lies =
    let none : length s.statics ≡ 0 = ap (λ (xs : List Static). length xs) statics in
    record {
      stands = subst (λ m. Stands s (opening m lines)) same (begins s tables.heap_shapes lines (record {
        valid = subst (λ m. Lies (view_of s.twin) (opening m lines)) (sym same) lies;
        kinds = has.kinds;
        behind = can.behind;
        classed = λ n lt. subst (λ m. slice_index s.classes (opened m (slice_index lines n)).shape < length
            s.shapes)
            (sym same) (subst (λ cs. slice_index cs (opened memory (slice_index lines n)).shape < length
            s.shapes)
            (sym has.classes) (subst (λ (ss : List Shape). slice_index tables.classes.items (opened memory
            (slice_index lines n)).shape < length ss)
            (sym has.shapes) (can.classed n lt)));
        classes = rw (has.shapes, has.classes, has.numbers) can.classes;
        statics = λ f lf. absurd (omega (arith, lf, none));
        alone = λ f lf. absurd (omega (arith, lf, none));
      }));
      tables_are = has;
      memory_is = same;
      left = ap (λ (x : Space). x.left) space;
      statics = statics;
    }
