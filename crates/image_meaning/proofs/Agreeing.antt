-- Words and a heap that agree place by place correspond.
use Rattle.std.proofs.Common.{◌≡◌, ℕ, ◌<◌, true, List, [], length, map, refl, sym, ◌∙◌, ap, subst, arith, slice_index_or}
use Rattle.std.proofs.lemmas.List.{get_or-map}
use Rattle.ap_base.specs.declared.place.Place.TheVariants.{Static, Slot}
use Rattle.graph_model.specs.declared.types.Value.TheVariants.{Null}
use Rattle.graph_model.specs.declared.types.Shape.{Shape}
use Rattle.graph_model.specs.declared.types.Root.{Root}
use Rattle.graph_model.specs.declared.types.Heap.{Heap}
use Rattle.graph_model.specs.Heaps.{object_at, shape_at, values_of, value_at, is_kept_slot}
use Rattle.image_meaning.proofs.KeptSlots.{kept_by_shape}
use Rattle.image_meaning.specs.Checks.{Words}
use Rattle.image_meaning.specs.Directories.{Directory}
use Rattle.image_meaning.specs.Objects.{shape_of, kind_of, object_slot}
use Rattle.image_meaning.specs.Meaning.{root_word}
use Rattle.image_meaning.specs.Corresponds.{LiesAt, Holds, HoldsReference, AreApart, Corresponds, SameObjectSizes}
use Rattle.image_meaning.specs.Corresponds.{AgreesEverywhere, root_value_at, root_static}

apart_same : (c d : Words) (a b : ℕ) → d a 0 ≡ c a 0 → d b 0 ≡ c b 0 → AreApart c a b → AreApart d a b
apart_same c d a b x y apart = rw (x, y) apart

no_root : Root
no_root = record { name = []; at = 0 }

-- what a root holds is its static's value
pub root_value_is : (heap : Heap) (r : ℕ) → r < length heap.roots
    → root_value_at heap r ≡ value_at heap (Static (root_static heap r))
root_value_is heap r h =
    get_or-map (λ (root : Root). slice_index_or heap.statics root.at Null) heap.roots r no_root Null h
    ∙ ap (λ at. slice_index_or heap.statics at Null)
    (sym (get_or-map (λ (root : Root). root.at) heap.roots r no_root 0 h))

-- the words of places hold the heap's values
module _ (R : LiesAt) (directory : Directory) (size : ℕ) (c : Words) (heap : Heap)
    (k : Corresponds R directory size c heap) where
  pub slot_holds : (line n i : ℕ) → R line n → i < length (values_of heap n) → is_kept_slot heap n i ≡ true
      → Holds R (kind_of (shape_at heap (object_at heap n).shape) i) (object_slot c line i)
      (value_at heap (Slot n i))
  slot_holds line n i y below kept =
      let o = k.objects line n y in
      subst (λ (shape : Shape). Holds R (kind_of shape i) (object_slot c line i)
      (value_at heap (Slot n i))) o.shape
      (o.slots i below kept)

  pub root_holds : (r : ℕ) → r < length heap.roots
      → HoldsReference R (root_word c r) (value_at heap (Static (root_static heap r)))
  root_holds r h = subst (λ v. HoldsReference R (root_word c r) v) (root_value_is heap r h) (k.at_roots r h)

  pub own_sizes : SameObjectSizes R heap heap
  own_sizes = record {
    roots = refl;
    there = λ line n y. (k.objects line n y).there;
    shapes = λ line n y. refl;
    counts = λ line n y. refl;
  }

pub corresponds-agree : (R : LiesAt) (directory : Directory) (size : ℕ) (c d : Words) (heap other : Heap)
    → Corresponds R directory size c heap → SameObjectSizes R heap other → AgreesEverywhere R heap other c d
    → Corresponds R directory size d other
corresponds-agree R directory size c d heap other k s agrees = record {
  one_object = k.one_object;
  one_line = k.one_line;
  objects = λ line n y.
      let o = k.objects line n y in
      let e = agrees.heads line n y in
      record {
        there = s.there line n y;
        known = rw e o.known;
        shape = rw e o.shape ∙ sym (s.shapes line n y);
        count = rw e o.count ∙ sym (s.counts line n y);
        full = rw (e, s.counts line n y) o.full;
        low = o.low;
        high = rw (s.counts line n y) o.high;
        slots = λ i h kept.
            let below : i < length (values_of heap n) = omega (arith, h, s.counts line n y) in
            let was : is_kept_slot heap n i ≡ true =
            sym (kept_by_shape heap other n i (s.shapes line n y)) ∙ kept in
            let same : shape_of directory.shapes d line ≡ shape_at heap (object_at heap n).shape =
            rw e o.shape in
            let kind : kind_of (shape_of directory.shapes d line) i ≡ kind_of
            (shape_at heap (object_at heap n).shape) i =
            ap (λ (shape : Shape). kind_of shape i) same in
            rw kind (agrees.slots line n i y below was);
      };
  apart = λ a b m n x y ne. apart_same c d a b (agrees.heads a m x) (agrees.heads b n y)
      (k.apart a b m n x y ne);
  few = rw s.roots k.few;
  names = rw s.roots k.names;
  at_roots = λ r h.
      let below : r < length heap.roots = rw s.roots at h in
      let value : root_value_at other r ≡ value_at other (Static (root_static heap r)) =
      root_value_is other r h
      ∙ ap (λ (rs : List Root). value_at other
      (Static (slice_index_or (map (λ (root : Root). root.at) rs) r 0))) s.roots in
      rw value (agrees.at_roots r below);
  unused = λ r low high. agrees.unused r (rw s.roots at low) high;
}
