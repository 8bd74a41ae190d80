-- Words of places and of heads are told apart, where words correspond to a heap.
use Rattle.std.proofs.Common.{◌≡◌, ◌≢◌, inl, inr, ℕ, ◌+◌, ◌*◌, ◌/◌, ◌<◌, ◌≤◌, length, sym, subst, arith}
use Rattle.std.proofs.lemmas.Bool.{cases_eq}
use Rattle.graph_model.specs.declared.types.Heap.{Heap}
use Rattle.graph_model.specs.Heaps.{values_of}
use Rattle.image_layout.specs.Places.{lines_of}
use Rattle.image_meaning.specs.Checks.{Words}
use Rattle.image_meaning.specs.Directories.{Directory}
use Rattle.image_meaning.specs.Corresponds.{LiesAt, Corresponds}
use Rattle.image_meaning.specs.Laws.{WordsLieApart}

module _ (R : LiesAt) (directory : Directory) (size : ℕ) (words : Words) (heap : Heap) (k : Corresponds R directory size words heap) where
  -- no word of an object is one of another
  other_object : (a b m n i j : ℕ) → R a m → R b n → a ≢ b → i < 8 * lines_of (length (values_of heap m))
      → j < 8 * lines_of (length (values_of heap n)) → a + i / 8 ≡ b + j / 8 → ⊥
  other_object a b m n i j x y ne bi bj same =
      let ca = (k.objects a m x).count in
      let cb = (k.objects b n y).count in
      elim (k.apart a b m n x y ne) [
        | inl before ↦ (
            let h : a + lines_of (length (values_of heap m)) ≤ b = rw ca at before in
            absurd (omega (arith, h, bi, same)))
        | inr after ↦ (
            let h : b + lines_of (length (values_of heap n)) ≤ a = rw cb at after in
            absurd (omega (arith, h, bj, same)))
      ]

  pub words-apart : WordsLieApart R heap
  words-apart = record {
    slots = λ a b m n i j x y below_i below_j line word. elim (cases_eq a b) [
      | inl e ↦ (k.one_object a m n x (subst (λ l. R l n) (sym e) y), omega (arith, e, line, word))
      | inr ne ↦ absurd (other_object a b m n (i + 1) (j + 1) x y ne (omega (arith, below_i)) (omega (arith, below_j)) line)
    ];
    heads = λ a b m n i x y below line word. elim (cases_eq a b) [
      | inl e ↦ absurd (omega (arith, e, line, word))
      | inr ne ↦ absurd (other_object a b m n (i + 1) 0 x y ne (omega (arith, below)) (omega arith) (omega (arith, line)))
    ];
    at_roots = λ r a m i few x same. let low = (k.objects a m x).low in absurd (omega (arith, few, low, same));
  }
